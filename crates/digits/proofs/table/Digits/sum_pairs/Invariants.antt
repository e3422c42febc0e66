-- `Digits::sum_pairs` meets its contract. The loop's invariant: so far all are pairs, and the sum is theirs.
use Rattle.digits.specs.Pairs.{ArePairs, pairs_at}
use Rattle.digits.specs.Digit.{byte_sum}
use mathlib.Core.Path.{◌≡◌}
use Prim.Native.Nat.{◌*◌, ◌≤◌}
use Rattle.digits.proofs.table.Digits.sum_pairs.Given as goal

abbrev pub invariant-loop-i : goal.invariant-loop-i
invariant-loop-i l = ArePairs l.text l.at l.i × (l.sum ≡ byte_sum (pairs_at l.text l.at l.i)) × (l.sum ≤ 255 * l.i)
