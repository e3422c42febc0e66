-- `bench::damage_allowed` meets its contract.
use Prim.Native.Nat.{ℕ, ◌+◌, ◌-◌, ◌≤◌}
use mathlib.Core.Path.{◌≡◌, sym, ap, ◌∙◌}
use mathlib.Core.Bool.{true}
use mathlib.Core.List.{List}
use native.Mathlib.Omega.{arith}
use lib.ListN.{length, drop}
use Rattle.flash.specs.Flash.{erased, span}
use Rattle.kind.specs.Spi.{spi}
use Rattle.orders.specs.Orders.{Order, orders, operation_of}
use Rattle.updater.specs.State.{position, running, fits, current_order}
use Rattle.effects.specs.Progress.{chip_after}
use Rattle.bench.specs.Bench.{span_allows, cut_allowed}
use Rattle.bench.specs.Types.{State, Operation, Erase}
use Rattle.updater.proofs.Laws.{orders_ended}
use Rattle.effects.proofs.Laws.{erase_span, current_within}
use Rattle.bench.proofs.BenchLaws.{asks_of, LowIsOn, current_low, current_asked}
use Rattle.bench.proofs.damage_allowed.Goals as goal

pub returns-then-not-goes_on : goal.returns-then-not-goes_on
unfolding cut_allowed
returns-then-not-goes_on c =
    let run = c.args.run.now in
    sym
    (ap (λ (l : List Order). cut_allowed l (chip_after spi run.state.layout run.image.now (position run.state) c.args.chip.now) c.args.damage.now)
    (orders_ended spi run.state run.image.now run.fits (sym c.goes_on.ensures ∙ c.if-not-goes_on.true)))

-- An erase lies within the chip.
erase-within : (state : State) (image : List ℕ) (place count : ℕ) → fits state (length image) ≡ true → running state ≡ true → operation_of (current_order spi state image) ≡ Erase place count → place + count ≤ state.layout.chip_length
erase-within state image place count f r e =
    let w = current_within state image f r in
    let s = erase_span (current_order spi state image) place count e in
    omega arith

pub overflow_add-place : goal.overflow_add-place
overflow_add-place c =
    let run = c.args.run.now in
    let w = erase-within run.state run.image.now _ _ run.fits (sym c.goes_on.ensures ∙ c.if-not-goes_on.false) (sym c.operation.ensures ∙ c.in-Erase.is) in
    omega arith

pub slice_bounds-span_allowed-end : goal.slice_bounds-span_allowed-end
slice_bounds-span_allowed-end c =
    let run = c.args.run.now in
    let w = erase-within run.state run.image.now _ _ run.fits (sym c.goes_on.ensures ∙ c.if-not-goes_on.false) (sym c.operation.ensures ∙ c.in-Erase.is) in
    omega arith

pub span_allowed-requires-in-Program : goal.span_allowed-requires-in-Program
unfolding LowIsOn
span_allowed-requires-in-Program c =
    let run = c.args.run.now in
    current_low run.state run.image.now run.fits (sym c.goes_on.ensures ∙ c.if-not-goes_on.false) _ (sym c.operation.ensures ∙ c.in-Program.is)

-- What the code asks of an operation is question 10.
asked_by : (state : State) (image chip damage : List ℕ) (operation : Operation) → fits state (length image) ≡ true → running state ≡ true → state.layout.chip_length ≡ length chip → operation_of (current_order spi state image) ≡ operation →
    asks_of operation chip damage ≡ cut_allowed (drop (position state) (orders spi state.layout image)) (chip_after spi state.layout image (position state) chip) damage
asked_by state image chip damage operation f r l e = sym (current_asked state image f r chip damage l ∙ ap (λ (o : Operation). asks_of o chip damage) e)

pub returns-in-Erase : goal.returns-in-Erase
unfolding asks_of
returns-in-Erase c =
    let run = c.args.run.now in
    let chip = c.args.chip.now in
    let damage = c.args.damage.now in
    let place : ℕ = c.in-Erase.place in
    let count : ℕ = c.in-Erase.length in
    let n : place + count - place ≡ count = omega arith in
    c.span_allowed.ensures
    ∙ ap (λ (k : ℕ). span_allows place (span chip place k) (erased count) damage) n
    ∙ asked_by run.state run.image.now chip damage _ run.fits (sym c.goes_on.ensures ∙ c.if-not-goes_on.false) c.requires (sym c.operation.ensures ∙ c.in-Erase.is)

pub returns-in-Program : goal.returns-in-Program
unfolding asks_of
returns-in-Program c =
    let run = c.args.run.now in
    c.span_allowed-in-Program.ensures
    ∙ asked_by run.state run.image.now c.args.chip.now c.args.damage.now _ run.fits (sym c.goes_on.ensures ∙ c.if-not-goes_on.false) c.requires (sym c.operation.ensures ∙ c.in-Program.is)

pub returns-in-Look : goal.returns-in-Look
unfolding asks_of
returns-in-Look c =
    let run = c.args.run.now in
    asked_by run.state run.image.now c.args.chip.now c.args.damage.now _ run.fits (sym c.goes_on.ensures ∙ c.if-not-goes_on.false) c.requires (sym c.operation.ensures ∙ c.in-Look.is)
