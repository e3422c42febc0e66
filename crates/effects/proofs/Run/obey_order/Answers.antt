-- `effects::Run::obey_order` meets its contract.
use Prim.Native.Nat.{ℕ, ◌≤◌}
use mathlib.Core.Path.{◌≡◌, sym, ap, ◌∙◌}
use mathlib.Core.Bool.{true}
use mathlib.Core.List.{List}
use native.Mathlib.Omega.{arith}
use lib.ListN.{length, take}
use lib.Seq.{length-take-le}
use Rattle.kind.specs.Layout.{page}
use Rattle.flash.specs.Flash.{overwrite_in_range, after_program}
use Rattle.kind.specs.Spi.{spi}
use Rattle.orders.specs.Orders.{operation_of, programmed, order_bytes}
use Rattle.updater.specs.State.{running, fits, current_order}
use Rattle.effects.specs.Types.{State, Program}
use Rattle.updater.proofs.Laws.{fits_says}
use Rattle.comparison.proofs.Laws.{padded_length}
use Rattle.effects.proofs.ProgressLaws.{done_by, program_count, current_most, current_done}
use Rattle.effects.proofs.Run.obey_order.Goals as goal
use Rattle.effects.proofs.Run.obey_order.Goals.{After-bytes-bytes}

-- The bytes are a page, and those that are programmed are no more.
page-of : (state : State) (image bytes : List ℕ) (place count : ℕ) → fits state (length image) ≡ true → running state ≡ true → operation_of (current_order spi state image) ≡ Program place count →
    bytes ≡ order_bytes (current_order spi state image) → (count ≤ 256) × (length bytes ≡ 256)
page-of state image bytes place count f r e b =
    let m = current_most state image f r in
    let n = program_count (current_order spi state image) place count e in
    (omega arith, ap (λ (l : List ℕ). length l) b ∙ padded_length page (programmed (current_order spi state image)) m)

the_page : (c : After-bytes-bytes) → (c.in-Program.length ≤ 256) × (length c.bytes-bytes.result ≡ 256)
the_page c =
    let run = c.args.self.now in
    page-of run.state run.image.now _ _ _ run.fits c.requires.goes_on (sym c.operation.ensures ∙ c.in-Program.is) (c.bytes-bytes.ensures ∙ ap (λ (s : State). order_bytes (current_order spi s run.image.now)) c.running.ensures)

pub bytes-bytes-requires : goal.bytes-bytes-requires
bytes-bytes-requires c =
    let run = c.args.self.now in
    ap (λ (s : State). s.image_length) c.running.ensures ∙ (fits_says run.state (length run.image.now) run.fits).same

pub slice_bounds-bytes-end : goal.slice_bounds-bytes-end
slice_bounds-bytes-end c = let m = the_page (goal.at.slice_bounds-bytes-end c).After-bytes-bytes in omega arith

pub slice_bounds-program-end : goal.slice_bounds-program-end
slice_bounds-program-end c =
    let m = the_page (goal.at.slice_bounds-program-end c).After-bytes-bytes in
    sym (length-take-le c.in-Program.length c.bytes-bytes.result (omega arith))

pub returns-in-Erase : goal.returns-in-Erase
unfolding done_by
returns-in-Erase c =
    let run = c.args.self.now in
    c.erase.ensures.output
    ∙ current_done run.state run.image.now run.fits c.requires.goes_on c.args.chip.now c.requires.long _ (sym c.operation.ensures ∙ c.in-Erase.is)

pub returns-in-Program : goal.returns-in-Program
unfolding done_by
returns-in-Program c =
    let run = c.args.self.now in
    let chip = c.args.chip.now in
    let place : ℕ = c.in-Program.place in
    let count : ℕ = c.in-Program.length in
    c.program.ensures.output
    ∙ ap (λ (l : List ℕ). overwrite_in_range chip place (length (take count l)) (after_program chip place (take count l))) (c.bytes-bytes.ensures ∙ ap (λ (s : State). order_bytes (current_order spi s run.image.now)) c.running.ensures)
    ∙ current_done run.state run.image.now run.fits c.requires.goes_on chip c.requires.long _ (sym c.operation.ensures ∙ c.in-Program.is)

pub returns-in-Look : goal.returns-in-Look
unfolding done_by
returns-in-Look c =
    let run = c.args.self.now in
    current_done run.state run.image.now run.fits c.requires.goes_on c.args.chip.now c.requires.long _ (sym c.operation.ensures ∙ c.in-Look.is)
