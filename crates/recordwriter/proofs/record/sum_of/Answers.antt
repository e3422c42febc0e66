-- `record::sum_of` meets its contract: the pairs before the data and the data add to what all of them do.
use Rattle.std.proofs.Common.{◌≡◌, ℕ, ◌+◌, ◌-◌, ◌%◌, List, length, get_or, ap, arith}
use Rattle.digits.specs.Digit.{byte_sum}
use Rattle.mcsline.specs.Record.{checksum, body}
use Rattle.recordwriter.proofs.LineLaws.{two_bytes}
use Rattle.recordwriter.proofs.record.sum_of.Goals as goal

pub returns : goal.returns
unfolding checksum byte_sum
returns c =
    let args = c.args in
    let two = two_bytes args.address c.to_be_bytes.result (omega arith) c.to_be_bytes.ensures in
    let high = ap (λ (l : List ℕ). get_or l 0 0) two in
    let low = ap (λ (l : List ℕ). get_or l 1 0) two in
    let header = length args.bytes.now + c.from.result + c.from-2.result + c.from-3.result in
    let total : header + c.byte_sum.result ≡ byte_sum (body args.kind args.address args.bytes.now) = omega arith in
    ap (λ (n : ℕ). (256 - n % 256) % 256) total
