-- `part::put_part` meets its contract. The loop's invariant: the lines of the bytes that are left, put at the next place, give what those of all bytes give.
use Rattle.std.proofs.Common.{◌+◌, ◌-◌, ◌≤◌, length, drop}
use Rattle.recordwriter.proofs.PartLaws.{Going}
use Rattle.recordwriter.proofs.part.put_part.Given as goal

abbrev pub invariant-loop-done : goal.invariant-loop-done
invariant-loop-done l = record {
  within : l.done ≤ length l.part;
  going : Going l.start l.part l.initial.out l.to (l.start + l.done) (drop l.done l.part) l.out l.at;
}

abbrev pub decreases-loop-done : goal.decreases-loop-done
decreases-loop-done l = length l.part - l.done
