-- `effects::Run::after` meets its contract. The loop's invariant: the state after so many orders.
use Prim.Native.Nat.{ℕ, min}
use mathlib.Core.Path.{◌≡◌, refl, sym, ap₂, subst, ◌∙◌}
use native.Mathlib.Omega.{arith}
use lib.ListN.{length}
use Rattle.orders.specs.Table.{total}
use Rattle.updater.specs.State.{first}
use Rattle.effects.specs.Progress.{state_after}
use Rattle.effects.specs.Types.{Layout, State}
use Rattle.effects.proofs.ProgressLaws.{Reaches, reaches_first, reaches_next, reaches_ended, reaches_most}
use Rattle.effects.proofs.Run.after.Goals as goal

-- a state that no order is to follow
found : (layout : Layout) (n cut i : ℕ) (begun state : State) → begun ≡ first layout n → Reaches layout n i state → i ≡ min cut (total layout n) → state ≡ state_after (min cut (total layout n)) begun
found layout n cut i begun state e r q = r.is ∙ ap₂ state_after q (sym e)

pub loop-init : goal.loop-init
loop-init c =
    let run = c.args.self in
    (reaches_first run.state.layout (length run.image.now) run.state c.requires run.fits, refl)

pub returns-then-not-goes_on-clause-state : goal.returns-then-not-goes_on-clause-state
returns-then-not-goes_on-clause-state c =
    let run = c.args.self in
    let l = c.loop in
    let t = reaches_ended run.state.layout (length run.image.now) l.counter l.run.state l.invariant.0 (sym c.goes_on.ensures ∙ c.if-not-goes_on.true) in
    found run.state.layout (length run.image.now) c.args.cut l.counter run.state l.run.state c.requires l.invariant.0 (omega arith)

pub loop-preserved : goal.loop-preserved
loop-preserved c =
    let run = c.args.self in
    let l = c.loop in
    let next = reaches_next run.state.layout (length run.image.now) l.counter l.run.state l.invariant.0 (sym c.goes_on.ensures ∙ c.if-not-goes_on.false) in
    (subst (Reaches run.state.layout (length run.image.now) _) (sym c.next-run.ensures.state) next, c.next-run.ensures.image ∙ l.invariant.1)

pub returns-clause-state : goal.returns-clause-state
returns-clause-state c =
    let run = c.args.self in
    let l = c.loop in
    let t = reaches_most run.state.layout (length run.image.now) l.counter l.run.state l.invariant.0 in
    found run.state.layout (length run.image.now) c.args.cut l.counter run.state l.run.state c.requires l.invariant.0 (omega arith)
