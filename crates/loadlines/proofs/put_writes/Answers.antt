-- `loadlines::put_writes` meets its contract. The loop's invariant: the lines that are left give the same as all of them gave at the start.
use Rattle.std.proofs.Common.{◌≡◌, ◌∷◌}
use Rattle.loadlines.proofs.ListLaws.{going_room, going_on, going_done, step_wrote, step_done}
use Rattle.writes.specs.Cursor.{remaining_writes}
use Rattle.writes.proofs.Laws.{halves_remaining}
use Rattle.loadlines.proofs.put_writes.Goals as goal
use Rattle.loadlines.proofs.put_writes.Goals.{In-Some}

-- A step's write is the first of those that were left.
first : (c : In-Some) → c.in-Some.step.write ∷ remaining_writes c.args.chip.now c.in-Some.step.cursor ≡ remaining_writes c.args.chip.now c.loop-step.here
first c =
    let chip = c.args.chip.now in
    let here = c.loop-step.here in
    step_wrote chip here c.step_at.result c.in-Some.step (halves_remaining chip here c.next_of.result c.step_at.result c.next_of.ensures c.step_at.ensures) c.in-Some.is

pub put_write-requires : goal.put_write-requires
put_write-requires c = (going_room c.loop-step.invariant c.in-Some.step.write (remaining_writes c.args.chip.now c.in-Some.step.cursor) (first (goal.at.put_write-requires c).In-Some)).0

pub loop-step-smaller : goal.loop-step-smaller
loop-step-smaller c = (going_room c.loop-step.invariant c.in-Some.step.write (remaining_writes c.args.chip.now c.in-Some.step.cursor) (first (goal.at.loop-step-smaller c).In-Some)).1

pub loop-step-preserved : goal.loop-step-preserved
loop-step-preserved c =
    going_on c.loop-step.invariant c.in-Some.step.write (remaining_writes c.args.chip.now c.in-Some.step.cursor) (first (goal.at.loop-step-preserved c).In-Some) c.put_write.new.page c.put_write.ensures

pub returns : goal.returns
returns c =
    let chip = c.args.chip.now in
    let here = c.loop-step.here in
    going_done c.loop-step.invariant (step_done chip here c.step_at.result (halves_remaining chip here c.next_of.result c.step_at.result c.next_of.ensures c.step_at.ensures) c.in_default.is)
