-- `Digits::decode` meets its contract. The loop's invariant: the buffer with the first i bytes of the pairs put in.
use Rattle.digits.specs.Pairs.{pairs_at}
use lib.Seq.{paste}
use mathlib.Core.Path.{◌≡◌}
use Rattle.digits.proofs.table.Digits.decode.Given as goal

abbrev pub invariant-loop-i : goal.invariant-loop-i
invariant-loop-i l = l.out ≡ paste l.initial.out l.to (pairs_at l.text l.from l.bytes) l.i
