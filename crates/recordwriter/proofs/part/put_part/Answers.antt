-- `part::put_part` meets its contract. The loop's invariant: the lines of the bytes that are left, put at the next place, give what those of all bytes give.
use Rattle.std.proofs.Common.{ℕ, ◌+◌, ◌-◌, ◌*◌, ◌≤◌, List, length, take, drop, arith}
use Rattle.std.proofs.Math.ListN.{length-drop}
use native.Mathlib.Nat.{add_assoc}
use Rattle.mcs.specs.Text.{file_text}
use Rattle.canonical.specs.Canonical.{upper_lines}
use Rattle.recordwriter.proofs.PartLaws.{Turn, turn, going_done, going_room, going_on}
use Rattle.recordwriter.proofs.part.put_part.Goals as goal
use Rattle.recordwriter.proofs.part.put_part.Goals.{After-min-count}

-- The bytes of this turn.
abbrev bytes : After-min-count → List ℕ
bytes c = take (c.loop-done.done + c.min-count.result - c.loop-done.done) (drop c.loop-done.done c.args.part.now)

this_turn : (c : After-min-count) → Turn c.args.part.now c.loop-done.done c.min-count.result (bytes c)
this_turn c = turn c.args.part.now c.loop-done.done c.min-count.result _ (omega arith) c.loop-done-test.true c.min-count.ensures

room : (c : After-min-count) → (length (bytes c) ≤ 255) × (c.loop-done.at + (length (file_text (upper_lines (c.args.start + c.loop-done.done))) + (2 * length (bytes c) + 12)) ≤ length c.loop-done.out) × (c.args.start + c.loop-done.done + length (bytes c) ≤ c.args.start + length c.args.part.now)
room c = let t = this_turn c in going_room c.loop-done.invariant.going (bytes c) (drop (c.loop-done.done + c.min-count.result) c.args.part.now) t.parts t.takes t.some

pub put_upper-at-requires : goal.put_upper-at-requires
put_upper-at-requires c = let r = room (goal.at.put_upper-at-requires c).After-min-count in (omega arith, omega arith)

pub put_record-at-requires : goal.put_record-at-requires
put_record-at-requires c = let r = room (goal.at.put_record-at-requires c).After-min-count in (omega arith, omega arith)

pub loop-done-preserved : goal.loop-done-preserved
loop-done-preserved c =
    let here = (goal.at.loop-done-preserved c).After-min-count in
    let t = this_turn here in
    let upper = c.put_upper-at in
    let line = c.put_record-at in
    let next = going_on c.loop-done.invariant.going (bytes here) (drop (c.loop-done.done + c.min-count.result) c.args.part.now) t.parts t.takes t.some upper.new.out line.new.out upper.result line.result upper.ensures.place line.ensures.place upper.ensures.output line.ensures.output in
    record { within = omega arith; going = rw (← add_assoc c.args.start c.loop-done.done c.min-count.result) (rw t.long at next) }

pub returns : goal.returns
returns c =
    let done = going_done c.loop-done.invariant.going (omega (arith, length-drop c.loop-done.done c.args.part.now)) in
    record { place = done.0; output = done.1 }
