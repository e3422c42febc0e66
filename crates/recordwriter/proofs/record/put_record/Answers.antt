-- `record::put_record` meets its contract: the header, the data's digits, the sum's and LF, each after the last, are the line.
use Prim.Native.Nat.{ℕ, ◌+◌, ◌*◌, ◌≤◌}
use mathlib.Core.Path.{◌≡◌, refl}
use mathlib.Core.List.{List, [], ◌∷◌}
use native.Mathlib.Omega.{arith}
use lib.ListN.{length, set}
use lib.Seq.{paste}
use Rattle.digits.specs.Digit.{hex}
use Rattle.digits.proofs.Laws.{hex_long}
use Rattle.fields.proofs.Laws.{Put, paste_one, put_length, put_then, put_after}
use Rattle.mcsline.specs.Record.{LF, COLON, checksum, header, body}
use Rattle.recordwriter.specs.Record.{line_of}
use Rattle.recordwriter.proofs.LineLaws.{line_parts}
use Rattle.recordwriter.proofs.record.put_record.Goals as goal

-- The parts that were put, given that the header counts the data and the sum is theirs.
put-parts : (out : List ℕ) (at kind address : ℕ) (bytes : List ℕ) (count sum : ℕ) (headed paired summed : List ℕ) →
    length bytes ≡ count → sum ≡ checksum (body kind address bytes) → at + (2 * count + 12) ≤ length out →
    headed ≡ paste out at (COLON ∷ hex (header kind address count)) 9 → paired ≡ paste headed (at + 9) (hex bytes) (2 * count) → summed ≡ paste paired (at + 9 + 2 * count) (hex (sum ∷ [])) 2 →
    Put out at (line_of kind address bytes) (2 * count + 12) (set summed (at + 9 + 2 * count + 2) LF)
put-parts out at kind address bytes count sum headed paired summed long is_sum room h p s =
    let one : Put out at (COLON ∷ hex (header kind address count)) 9 headed = record { long = omega (arith, hex_long (header kind address count)); room = omega arith; is = h } in
    let two = put_then one (hex bytes) (2 * count) paired (omega (arith, hex_long bytes)) (omega arith) p in
    let three = put_after two (at + 9 + 2 * count) (hex (sum ∷ [])) 2 summed (omega arith) (hex_long (sum ∷ [])) (omega arith) s in
    let after = set summed (at + 9 + 2 * count + 2) LF in
    let four = put_after three (at + 9 + 2 * count + 2) (LF ∷ []) 1 after (omega arith) refl (omega arith) (paste_one summed (at + 9 + 2 * count + 2) LF (omega (arith, put_length three))) in
    let total : 9 + 2 * count + 2 + 1 ≡ 2 * count + 12 = omega arith in
    rw (← line_parts kind address bytes, ← is_sum, long, ← total) four

pub returns : goal.returns
returns c =
    let args = c.args in
    let bytes = args.bytes.now in
    let line =
    put-parts args.out.now args.at args.kind args.address bytes (length bytes) c.sum_of.result c.put_header.new.out c.put_pairs.new.out
    c.put_pair.new.out refl c.sum_of.ensures (omega arith) c.put_header.ensures c.put_pairs.ensures c.put_pair.ensures in
    record {
      place = omega arith;
      output = line.is;
    }
