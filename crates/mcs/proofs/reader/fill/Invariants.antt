-- `reader::fill` meets its contract. The loop's invariant: the lines so far are written, and the text reads as from here on.
use Rattle.mcs.proofs.FillLaws.{Filled}
use lib.ListN.{length}
use Prim.Native.Nat.{◌-◌, ◌≤◌}
use Rattle.mcs.proofs.reader.fill.Given as goal

abbrev pub invariant-loop-at : goal.invariant-loop-at
invariant-loop-at l = record { within : l.at ≤ length l.text; filled : Filled l.text l.initial.out l.out l.at l.next }

abbrev pub decreases-loop-at : goal.decreases-loop-at
decreases-loop-at l = length l.text - l.at
