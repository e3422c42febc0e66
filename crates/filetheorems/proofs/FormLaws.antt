-- MCS text that reads is told as text: its characters are a colon, digits and line ends.
use Prim.Native.Nat.{ℕ, zero, suc, ◌/◌, ◌%◌}
use mathlib.Core.Path.{◌≡◌, refl, ap, ap₂, ◌∙◌}
use mathlib.Core.Bool.{true, ◌&&◌}
use mathlib.Core.List.{List, [], ◌∷◌}
use lib.Dec.{leb}
use lib.ListN.{get_or}
use Rattle.std.proofs.Common.{Ok}
use Rattle.base.specs.Question.{ask}
use Rattle.base.proofs.Laws.{both_true}
use Rattle.framing.specs.Search.{begins_with}
use Rattle.digits.specs.Digit.{digits, hex}
use Rattle.mcsline.specs.Record.{Ending, Lf, CrLf, ending_text, line_text, pairs_of, Line, Row, record_text}
use Rattle.mcs.specs.Text.{file_text, FileFrom, FileOf}
use Rattle.mcs.proofs.Laws.{round_trip}
use Rattle.imagefile.specs.Imagefile.{is_text, plain_form, form_answer}
use Rattle.imagefile.proofs.Laws.{text_parts}
use Rattle.filetheorems.specs.Theorems.{TextTold}
use Rattle.filetheorems.specs.Types.{FormText}

-- A byte of text, and what is no place of it, is not above 7F.
byte_of : (text : List ℕ) → is_text text ≡ true → (i : ℕ) → leb (get_or text i 0) 0x7F ≡ true
unfolding is_text
byte_of [] e i = refl
byte_of (byte ∷ text) e zero = (both_true (leb byte 0x7F) (is_text text) e).0
byte_of (byte ∷ text) e (suc i) = byte_of text (both_true (leb byte 0x7F) (is_text text) e).1 i

digit_text : (i : ℕ) → leb (get_or digits i 0) 0x7F ≡ true
unfolding digits is_text
digit_text i = byte_of digits refl i

hex_text : (bytes : List ℕ) → is_text (hex bytes) ≡ true
unfolding hex is_text
hex_text [] = refl
hex_text (byte ∷ bytes) = rw (digit_text (byte / 16), digit_text (byte % 16), hex_text bytes) refl

ending_text_law : (ending : Ending) → is_text (ending_text ending) ≡ true
unfolding ending_text is_text
ending_text_law Lf = refl
ending_text_law CrLf = refl

line_text_law : (line : Line) → is_text (record_text line) ≡ true
unfolding record_text line_text is_text
line_text_law (Row r ending) = text_parts (hex (pairs_of r)) (ending_text ending) ∙ ap₂ ◌&&◌ (hex_text (pairs_of r)) (ending_text_law ending)

file_text_law : (lines : List Line) → is_text (file_text lines) ≡ true
unfolding file_text is_text
file_text_law [] = refl
file_text_law (line ∷ lines) = text_parts (record_text line) (file_text lines) ∙ ap₂ ◌&&◌ (line_text_law line) (file_text_law lines)

-- A file has a line, and a line begins with a colon.
file_told : (lines : List Line) (image : List ℕ) → FileOf lines image → form_answer (file_text lines) ≡ Ok FormText
unfolding FileFrom file_text record_text line_text form_answer begins_with plain_form ask
file_told [] image file = absurd file
file_told (Row r ending ∷ lines) image file = ap (λ t. Ok (plain_form t)) (file_text_law (Row r ending ∷ lines))

pub text_told : TextTold
text_told text image holds =
    let f = round_trip.holds_file text image holds in
    ap form_answer f.1.0 ∙ file_told f.0 image f.1.1
