-- `record::put_header` meets its contract: the colon and four pairs, each after the last.
use Prim.Native.Nat.{ℕ, ◌/◌, ◌%◌}
use mathlib.Core.Path.{◌≡◌, refl, ap}
use mathlib.Core.List.{List, [], ◌∷◌}
use native.Mathlib.Omega.{arith}
use lib.ListN.{get_or, set}
use Rattle.digits.specs.Digit.{hex}
use Rattle.fields.proofs.Laws.{Put, paste_one, put_then}
use Rattle.mcsline.specs.Record.{COLON}
use Rattle.recordwriter.proofs.LineLaws.{two_bytes}
use Rattle.recordwriter.proofs.record.put_header.Goals as goal

-- The colon leaves the buffer as long as it was.

pub returns : goal.returns
unfolding hex
returns c =
    let out = c.args.out.now in
    let at = c.args.at in
    let two = two_bytes c.args.address c.to_be_bytes.result (omega arith) c.to_be_bytes.ensures in
    let high : get_or c.to_be_bytes.result 0 0 ≡ c.args.address / 256 = ap (λ (l : List ℕ). get_or l 0 0) two in
    let low : get_or c.to_be_bytes.result 1 0 ≡ c.args.address % 256 = ap (λ (l : List ℕ). get_or l 1 0) two in
    let colon : Put out at (COLON ∷ []) 1 (set out at COLON) = record { long = refl; room = omega arith; is = paste_one out at COLON (omega arith) } in
    let count = put_then colon (hex (c.args.count ∷ [])) 2 c.put_pair.new.out refl (omega arith) c.put_pair.ensures in
    let upper = put_then count (hex (get_or c.to_be_bytes.result 0 0 ∷ [])) 2 c.put_pair-2.new.out refl (omega arith) c.put_pair-2.ensures in
    let lower = put_then upper (hex (get_or c.to_be_bytes.result 1 0 ∷ [])) 2 c.put_pair-3.new.out refl (omega arith) c.put_pair-3.ensures in
    let all = put_then lower (hex (c.args.kind ∷ [])) 2 c.put_pair-4.new.out refl (omega arith) c.put_pair-4.ensures in
    rw (← high, ← low) all.is
