-- `effects::Run::obey_orders` meets its contract. The loop's invariant: the state and the chip after so many orders.
use Prim.Native.Nat.{ℕ}
use Rattle.std.proofs.Common.{Bor}
use mathlib.Core.Path.{refl, sym, ap, ap₂, subst, ◌∙◌}
use mathlib.Core.List.{List}
use native.Mathlib.Omega.{arith}
use lib.ListN.{length}
use Rattle.kind.specs.Spi.{spi}
use Rattle.updater.specs.State.{current_order}
use Rattle.effects.specs.Effects.{obeyed, obeyed_all}
use Rattle.effects.proofs.ProgressLaws.{Reaches, reaches_first, reaches_next, reaches_ended, chip_next, chip_all}
use Rattle.effects.proofs.Run.obey_orders.Goals as goal

pub loop-init : goal.loop-init
unfolding obeyed_all
loop-init c =
    let run = c.args.self in
    (reaches_first run.state.layout (length run.image.now) run.state c.requires.begins run.fits, refl, refl)

pub returns-then-not-goes_on : goal.returns-then-not-goes_on
returns-then-not-goes_on c =
    let run = c.args.self in
    let l = c.loop in
    let t = reaches_ended run.state.layout (length run.image.now) l.counter l.run.state l.invariant.0 (sym c.goes_on.ensures ∙ c.if-not-goes_on.true) in
    l.invariant.2 ∙ chip_all spi run.state.layout run.image.now c.args.chip.now l.counter c.args.cut t (omega arith)

pub loop-preserved : goal.loop-preserved
loop-preserved c =
    let run = c.args.self in
    let l = c.loop in
    let goes_on = sym c.goes_on.ensures ∙ c.if-not-goes_on.false in
    let next = reaches_next run.state.layout (length run.image.now) l.counter l.run.state l.invariant.0 goes_on in (
      subst (Reaches run.state.layout (length run.image.now) _) (sym c.next-run.ensures.state) next,
      c.next-run.ensures.image ∙ l.invariant.1,
      c.obey_order.ensures
          ∙ ap₂ (λ (image chip : List ℕ). obeyed (current_order spi l.run.state image) chip) (ap (λ (r : Bor (List ℕ)). r.now) l.invariant.1) l.invariant.2
          ∙ sym (chip_next spi run.state.layout run.image.now c.args.chip.now l.counter l.run.state l.invariant.0 goes_on),
    )
