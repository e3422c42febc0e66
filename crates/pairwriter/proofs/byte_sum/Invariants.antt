-- `byte_sum` meets its contract. The loop's invariant: the sum of the bytes so far.
use Rattle.std.proofs.Common.{◌≡◌, ◌*◌, ◌≤◌, take}
use Rattle.digits.specs.Digit.{byte_sum}
use Rattle.pairwriter.proofs.byte_sum.Given as goal

abbrev pub invariant-loop-byte : goal.invariant-loop-byte
invariant-loop-byte l = record { value : l.sum ≡ byte_sum (take l.byte-index l.bytes); range : l.sum ≤ 255 * l.byte-index }
