-- `bench::cut_run` meets its contract.
use Prim.Native.Nat.{ℕ}
use mathlib.Core.Path.{◌≡◌, sym, ap, ap₂, subst, ◌∙◌}
use mathlib.Core.Bool.{true}
use mathlib.Core.List.{List}
use lib.ListN.{length, drop}
use Rattle.std.proofs.Common.{rules}
use Rattle.base.proofs.Laws.{gives}
use Rattle.std.specs.Prelude.{Result, Ok, Err}
use Rattle.base.specs.Refusal.{refused}
use Rattle.base.specs.Question.{ask}
use Rattle.kind.specs.Spi.{spi}
use Rattle.kind.specs.Layout.{layout_of}
use Rattle.bench.specs.Types.{BadDamage, Refusal, Layout, State}
use Rattle.chip.proofs.Laws.{spi_lawful}
use Rattle.orders.specs.Orders.{orders}
use Rattle.updater.specs.State.{first, fits}
use Rattle.starts.specs.Starts.{start_answer}
use Rattle.effects.specs.Progress.{chip_after, state_at}
use Rattle.bench.specs.Bench.{bench_numbers, cut_allowed, bench_answer, bench_output}
use Rattle.updater.proofs.Laws.{first_fits}
use Rattle.starts.proofs.Laws.{opened}
use Rattle.bench.proofs.BenchLaws.{on_start, by_start}
use Rattle.bench.proofs.cut_run.Goals as goal

-- What is asked of a run that is started, in a layout.
abbrev cut_answer : Layout → List ℕ → List ℕ → ℕ → List ℕ → Result State Refusal
cut_answer layout chip image cut damage = ask (cut_allowed (drop cut (orders spi layout image)) (chip_after spi layout image cut chip) damage) (refused BadDamage 0) (Ok (state_at layout image cut))

by-begun : (layout : Layout) (chip image : List ℕ) (cut : ℕ) (damage : List ℕ) (answer : Result State Refusal) → start_answer spi layout image ≡ answer → on_start refused (cut_answer layout chip image cut damage) answer ≡ bench_answer spi layout chip image cut damage
unfolding bench_answer
by-begun layout chip image cut damage answer e = ap (on_start refused (cut_answer layout chip image cut damage)) (sym e) ∙ by_start spi refused (cut_answer layout chip image cut damage) layout image

-- The state of a run that is started: its layout, and that it is the first.
begun_first : (layout : Layout) (image : List ℕ) (state : State) → start_answer spi layout image ≡ Ok state → (state.layout ≡ layout) × (state ≡ first state.layout (length image)) × (fits state (length image) ≡ true)
begun_first layout image state e =
    let o = opened spi spi_lawful layout image state e in
    let l : state.layout ≡ layout = ap (λ (s : State). s.layout) o.begins in (
      l,
      o.begins ∙ ap (λ (x : Layout). first x (length image)) (sym l),
      subst (λ (s : State). fits s (length image) ≡ true) (sym o.begins) (first_fits layout (length image) o.numbers),
    )

pub invariant_of-cut_begun : goal.invariant_of-cut_begun
invariant_of-cut_begun c = record { fits = (begun_first c.layout-layout.result c.args.image.now _ (sym c.start.ensures.same ∙ c.in_ok-state.was)).2 }

pub cut_begun-requires : goal.cut_begun-requires
cut_begun-requires c =
    let b = begun_first c.layout-layout.result c.args.image.now _ (sym c.start.ensures.same ∙ c.in_ok-state.was) in
    record { begins = b.1; long = ap (λ (l : Layout). l.chip_length) (b.0 ∙ c.layout-layout.ensures) }

pub returns : goal.returns
unfolding on_start
returns c =
    let a = c.args in
    let chip = a.chip.now in
    let image = a.image.now in
    let damage = a.damage.now in
    let e = sym c.start.ensures.same ∙ c.in_ok-state.was in
    let b = begun_first c.layout-layout.result image _ e in
    let l = c.layout-layout.ensures in
    let r = c.cut_begun.ensures.answer
    ∙ ap (λ (x : Layout). cut_answer x chip image a.cut damage) b.0
    ∙ by-begun c.layout-layout.result chip image a.cut damage _ e
    ∙ ap (λ (x : Layout). bench_answer spi x chip image a.cut damage) l in
    record {
      answer = gives bench_numbers _ _ r;
      output = c.cut_begun.ensures.output ∙ ap₂ (λ (y : Result State Refusal) (x : Layout). bench_output y spi x chip image a.cut damage) r (b.0 ∙ l);
    }

pub returns-in_err-state : goal.returns-in_err-state
unfolding on_start bench_output
returns-in_err-state c =
    let a = c.args in
    let chip = a.chip.now in
    let image = a.image.now in
    let damage = a.damage.now in
    let same : c.from_residual.result ≡ Err c.in_err-state.field-0.0 = search rules in
    let e = sym c.start.ensures.same ∙ c.in_err-state.was in
    let r = by-begun c.layout-layout.result chip image a.cut damage _ e ∙ ap (λ (x : Layout). bench_answer spi x chip image a.cut damage) c.layout-layout.ensures in
    record {
      answer = gives bench_numbers _ _ (same ∙ r);
      output = ap (λ (y : Result State Refusal). bench_output y spi (layout_of (length chip) a.update_place a.update_length) chip image a.cut damage) r;
    }
