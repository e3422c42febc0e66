-- Laws of a record's line: its parts, how long it is, and that it is the record's text.
use Prim.Native.Nat.{ℕ, ◌+◌, ◌*◌, ◌/◌, ◌%◌, ◌<◌}
use mathlib.Core.Path.{◌≡◌, refl, sym, ap, ◌∙◌}
use mathlib.Core.List.{List, [], ◌∷◌, ◌++◌}
use native.Mathlib.Omega.{arith}
use lib.ListN.{length}
use Rattle.std.specs.Int.{w16, to_be_bytes}
use Rattle.digits.specs.Digit.{hex}
use Rattle.digits.proofs.Laws.{hex_append}
use Rattle.mcsline.specs.Record.{LF, COLON, Lf, ending_text, line_text, Data, ExtendedLinearAddress, End, header, body, body_of, checksum, pairs_of, Row, record_text}
use Rattle.mcsline.proofs.Laws.{summed_long}
use Rattle.recordwriter.specs.Record.{line_of}

-- The two bytes of a number of 16 bits.
pub two_bytes : (n : ℕ) (bytes : List ℕ) → n < 65536 → bytes ≡ to_be_bytes w16 n → bytes ≡ n / 256 ∷ n % 256 ∷ []
two_bytes n bytes small e =
    let high : n / 256 % 256 ≡ n / 256 = omega arith in
    e ∙ ap (λ (k : ℕ). k ∷ n % 256 ∷ []) high

module _ (kind address : ℕ) (bytes : List ℕ) where
  -- The pairs before the data, the data, the sum and LF are the line.
  pub line_parts : (((COLON ∷ hex (header kind address (length bytes))) ++ hex bytes) ++ hex (checksum (body kind address bytes) ∷ [])) ++ LF ∷ [] ≡ line_of kind address bytes
  unfolding line_text ending_text
  line_parts =
      let sum = checksum (body kind address bytes) ∷ [] in
      ap (λ (l : List ℕ). COLON ∷ l ++ LF ∷ [])
      (sym (hex_append (body kind address bytes) sum ∙ ap (λ (l : List ℕ). l ++ hex sum) (hex_append (header kind address (length bytes)) bytes)))

  pub line_long : length (line_of kind address bytes) ≡ 2 * length bytes + 12
  unfolding ending_text
  line_long = omega (arith, summed_long (body kind address bytes) Lf)

-- It is the record's text, of each type.
pub data_text : (address : ℕ) (bytes : List ℕ) → record_text (Row (Data address bytes) Lf) ≡ line_of 0x00 address bytes
unfolding record_text pairs_of body_of
data_text address bytes = refl

pub upper_text_law : (half : ℕ) → record_text (Row (ExtendedLinearAddress half) Lf) ≡ line_of 0x04 0 (half / 256 ∷ half % 256 ∷ [])
unfolding record_text pairs_of body_of
upper_text_law half = refl

pub end_text_law : record_text (Row End Lf) ≡ line_of 0x01 0 []
unfolding record_text pairs_of body_of
end_text_law = refl
