-- `put_pairs` meets its contract. The loop's invariant: the digits of the bytes so far were put.
use Rattle.std.proofs.Common.{◌≡◌, ◌*◌, take}
use Rattle.std.proofs.Math.Seq.{paste}
use Rattle.digits.specs.Digit.{hex}
use Rattle.pairwriter.proofs.put_pairs.Given as goal

abbrev pub invariant-loop-i : goal.invariant-loop-i
invariant-loop-i l = l.out ≡ paste l.initial.out l.at (hex (take l.i l.bytes)) (2 * l.i)
