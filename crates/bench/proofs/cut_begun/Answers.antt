-- `bench::cut_begun` meets its contract.
use Prim.Native.Nat.{ℕ}
use mathlib.Core.Path.{◌≡◌, refl, sym, ap, ap₂, ◌∙◌}
use mathlib.Core.List.{List}
use lib.ListN.{length, drop}
use Rattle.std.proofs.Common.{Bor, rules}
use Rattle.std.specs.Prelude.{Ok, Err}
use Rattle.base.specs.Question.{ask}
use Rattle.base.proofs.Laws.{asked_ok, asked_err}
use Rattle.kind.specs.Spi.{spi}
use Rattle.bench.specs.Types.{BadDamage, Refusal, Layout, State}
use Rattle.orders.specs.Orders.{Order, orders}
use Rattle.updater.specs.State.{position}
use Rattle.effects.specs.Progress.{chip_after}
use Rattle.bench.specs.Bench.{cut_allowed, cut_in, bench_output}
use Rattle.bench.proofs.BenchLaws.{CutAt, cut_at}
use Rattle.bench.proofs.cut_begun.Goals as goal
use Rattle.bench.proofs.cut_begun.Goals.{After-damage_allowed, After-after-reached}

-- The run that is reached,
stops : (c : After-after-reached) → CutAt c.args.begun.state c.args.begun.image.now c.args.cut c.after-reached.result.state
stops c =
    let begun = c.args.begun in
    cut_at begun.state begun.image.now c.args.cut c.after-reached.result.state c.requires.begins begun.fits c.after-reached.ensures.state

-- and what question 10 asks of it.
asks : (c : After-damage_allowed) →
    c.damage_allowed.result
    ≡ cut_allowed (drop c.args.cut (orders spi c.args.begun.state.layout c.args.begun.image.now)) (chip_after spi c.args.begun.state.layout c.args.begun.image.now c.args.cut c.args.chip.now) c.args.damage.now
asks c =
    let a = c.args in
    let s = cut_at a.begun.state a.begun.image.now a.cut c.after-reached.result.state c.requires.begins a.begun.fits c.after-reached.ensures.state in
    let image = ap (λ (i : Bor (List ℕ)). i.now) c.after-reached.ensures.image in
    c.damage_allowed.ensures
    ∙ ap (λ (i : List ℕ). cut_allowed (drop (position c.after-reached.result.state) (orders spi c.after-reached.result.state.layout i)) (chip_after spi c.after-reached.result.state.layout i (position c.after-reached.result.state) a.chip.now) a.damage.now) image
    ∙ ap₂ (λ (l : List Order) (h : List ℕ). cut_allowed l h a.damage.now) s.left (s.chip a.chip.now)

pub damage_allowed-requires : goal.damage_allowed-requires
damage_allowed-requires c = ap (λ (l : Layout). l.chip_length) (stops (goal.at.damage_allowed-requires c).After-after-reached).same ∙ c.requires.long

pub returns-in_err-ask : goal.returns-in_err-ask
unfolding ask bench_output
returns-in_err-ask c =
    let same : c.from_residual.result ≡ Err c.in_err-ask.field-0.0 = search rules in
    let no = asked_err _ BadDamage _ (sym c.ask.ensures ∙ c.in_err-ask.was) in
    record {
      answer = same ∙ rw (sym (asks (goal.at.returns-in_err-ask c).After-damage_allowed) ∙ no.0) (ap (λ (r : Refusal). Err r) (sym no.1));
      output = rw same refl;
    }

pub write_damage-requires : goal.write_damage-requires
write_damage-requires c =
    let a = c.args in
    let o = c.obey_orders in
    let s = stops (goal.at.write_damage-requires c).After-after-reached in
    let image = ap (λ (i : Bor (List ℕ)). i.now) c.after-reached.ensures.image in
    let left = ap (λ (i : List ℕ). drop (position c.after-reached.result.state) (orders spi c.after-reached.result.state.layout i)) image ∙ s.left in
    record {
      long = ap (λ (l : Layout). l.chip_length) s.same ∙ c.requires.long ∙ sym (ap (λ (l : List ℕ). length l) o.ensures ∙ s.long a.chip.now c.requires.long);
      allowed =
          ap₂ (λ (l : List Order) (h : List ℕ). cut_allowed l h a.damage.now) left o.ensures
          ∙ sym (asks (goal.at.write_damage-requires c).After-damage_allowed)
          ∙ asked_ok _ BadDamage (sym c.ask.ensures ∙ c.in_ok-ask.was);
    }

pub returns : goal.returns
unfolding ask bench_output
returns c =
    let s = stops (goal.at.returns c).After-after-reached in
    let image = ap (λ (i : Bor (List ℕ)). i.now) c.after-reached.ensures.image in
    let left = ap (λ (i : List ℕ). drop (position c.after-reached.result.state) (orders spi c.after-reached.result.state.layout i)) image ∙ s.left in
    record {
      answer = rw (sym (asks (goal.at.returns c).After-damage_allowed) ∙ asked_ok _ BadDamage (sym c.ask.ensures ∙ c.in_ok-ask.was)) (ap (λ (x : State). Ok x) s.is);
      output = c.write_damage.ensures ∙ ap₂ (λ (l : List Order) (h : List ℕ). cut_in l h c.args.damage.now) left c.obey_orders.ensures;
    }
