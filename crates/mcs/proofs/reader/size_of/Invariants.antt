-- `reader::size_of` meets its contract. The loop's invariant: the lines so far hold an image of `next` bytes, and the text reads as from here on.
use Rattle.mcs.proofs.ReadingLaws.{Reached}
use lib.ListN.{length}
use Prim.Native.Nat.{◌-◌, ◌≤◌}
use Rattle.mcs.proofs.reader.size_of.Given as goal

abbrev pub invariant-loop-at : goal.invariant-loop-at
invariant-loop-at l = record { within : l.at ≤ length l.text; shorter : l.next ≤ l.at; reached : Reached l.text l.at l.upper l.next }

abbrev pub decreases-loop-at : goal.decreases-loop-at
decreases-loop-at l = length l.text - l.at
