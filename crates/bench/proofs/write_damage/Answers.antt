-- `bench::write_damage` meets its contract.
use Prim.Native.Nat.{◌≤◌}
use mathlib.Core.Path.{◌≡◌, sym, ap, ◌∙◌}
use mathlib.Core.Logic.{⊎_elim}
use mathlib.Core.List.{List}
use lib.ListN.{length, take, drop}
use lib.Seq.{length-take-le}
use Rattle.kind.specs.Spi.{spi}
use Rattle.flash.specs.Flash.{overwrite_in_range}
use Rattle.orders.specs.Orders.{Order, orders}
use Rattle.bench.specs.Bench.{cut_in}
use Rattle.updater.proofs.Laws.{orders_ended}
use Rattle.updater.specs.State.{position}
use Rattle.bench.specs.Types.{Erase, Program}
use Rattle.bench.proofs.BenchLaws.{left_by, Enough, current_left, current_enough}
use Rattle.bench.proofs.write_damage.Goals as goal
use Rattle.bench.proofs.write_damage.Goals.{In-Erase}

pub returns-then-not-goes_on : goal.returns-then-not-goes_on
unfolding cut_in
returns-then-not-goes_on c =
    let run = c.args.run.now in
    sym (ap (λ (l : List Order). cut_in l c.args.chip.now c.args.damage.now) (orders_ended spi run.state run.image.now run.fits (sym c.goes_on.ensures ∙ c.if-not-goes_on.true)))

-- There are damage bytes for an erase or a program,
enough : (c : In-Erase) → c.in-Erase.length ≤ length c.args.damage.now
unfolding Enough
enough c =
    let run = c.args.run.now in
    let asks = current_enough run.state run.image.now run.fits (sym c.goes_on.ensures ∙ c.if-not-goes_on.false) c.args.chip.now c.args.damage.now c.requires.long c.requires.allowed in
    let is = c.operation.ensures in
    ⊎_elim (λ e. asks (Erase c.in-Erase.place c.in-Erase.length) (sym is ∙ e)) (λ e. asks (Program c.in-Erase.place c.in-Erase.length) (sym is ∙ e)) c.in-Erase.is

-- and with them over the span the chip is as the cut leaves it.
left : (c : In-Erase) →
    overwrite_in_range c.args.chip.now c.in-Erase.place (length (take c.in-Erase.length c.args.damage.now)) (take c.in-Erase.length c.args.damage.now)
    ≡ cut_in (drop (position c.args.run.now.state) (orders spi c.args.run.now.state.layout c.args.run.now.image.now)) c.args.chip.now c.args.damage.now
unfolding left_by
left c =
    let run = c.args.run.now in
    let leaves = current_left run.state run.image.now run.fits (sym c.goes_on.ensures ∙ c.if-not-goes_on.false) c.args.chip.now c.args.damage.now c.requires.long in
    let is = c.operation.ensures in
    ⊎_elim (λ e. leaves (Erase c.in-Erase.place c.in-Erase.length) (sym is ∙ e)) (λ e. leaves (Program c.in-Erase.place c.in-Erase.length) (sym is ∙ e)) c.in-Erase.is

pub slice_bounds-overwrite-end : goal.slice_bounds-overwrite-end
slice_bounds-overwrite-end c =
    sym (length-take-le c.in-Erase.length c.args.damage.now (enough (goal.at.slice_bounds-overwrite-end c).In-Erase))

pub returns-in-Look : goal.returns-in-Look
unfolding left_by
returns-in-Look c =
    let run = c.args.run.now in
    current_left run.state run.image.now run.fits (sym c.goes_on.ensures ∙ c.if-not-goes_on.false) c.args.chip.now c.args.damage.now c.requires.long _ (sym c.operation.ensures ∙ c.in-Look.is)

pub returns-in-Erase : goal.returns-in-Erase
returns-in-Erase c = c.overwrite.ensures.output ∙ left (goal.at.returns-in-Erase c).In-Erase
