-- `Digits::decode` meets its contract. The loop's invariant: the buffer with the first i bytes of the pairs put in.
use Rattle.digits.proofs.PairLaws.{length_pairs, get_or_pairs}
use Rattle.digits.specs.Pairs.{IsPair, pairs_at}
use lib.Seq.{paste-suc}
use lib.ListN.{length, get_or}
use native.Mathlib.Omega.{arith}
use native.Mathlib.Numerals.{add-one}
use native.Mathlib.Nat.{mod-eq_of_lt}
use mathlib.Core.Path.{◌≡◌, sym, ◌∙◌}
use Prim.Native.Nat.{◌+◌, ◌*◌, ◌%◌}
use Rattle.digits.proofs.table.Digits.decode.Goals as goal

pub loop-i-preserved : goal.loop-i-preserved
loop-i-preserved c =
    let args = c.args in
    let i = c.loop-i.i in
    let bytes = pairs_at args.text.now args.from args.bytes in
    let long : length bytes ≡ args.bytes = length_pairs args.text.now args.bytes args.from in
    let p : IsPair args.text.now (args.from + 2 * i) = c.requires.2 i (omega arith) in
    let v : c.pair.result % 256 ≡ get_or bytes i 0 =
    mod-eq_of_lt (omega arith) ∙ c.pair.ensures.value ∙ sym (get_or_pairs args.text.now i args.bytes args.from (omega arith)) in
    rw (c.loop-i.invariant, v, add-one) (paste-suc args.out.now args.to bytes i 0 (omega arith) (omega arith))
