-- `passes` meets its contract. The loop's invariant: the pass from here on is that over the whole text, and no more data bytes came than characters.
use Prim.Native.Nat.{◌-◌, ◌≤◌}
use lib.ListN.{length}
use Rattle.canonicaltest.proofs.PassLaws.{Passes}
use Rattle.canonicaltest.proofs.passes.Given as goal

abbrev pub invariant-loop-at : goal.invariant-loop-at
invariant-loop-at l = record { within : l.at ≤ length l.text; fewer : l.next ≤ l.at; reached : Passes l.text l.at l.next l.upper }

abbrev pub decreases-loop-at : goal.decreases-loop-at
decreases-loop-at l = length l.text - l.at
