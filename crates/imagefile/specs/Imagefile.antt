-- What a file with an image is, told by its bytes. A BIT file is known here as far as the image's place needs: what the contents of its fields mean (design, part, date, time) is not looked at. Bytes after the image are not the image's.
use Rattle.std.specs.Prelude.{ℕ, ◌+◌, ◌*◌, Bool, true, false, ◌&&◌, List, [], ◌∷◌, eqb, leb, length, get_or, drop, Result, Ok}
use Rattle.base.specs.Question.{ask}
use Rattle.base.specs.Refusal.{refused}
use Rattle.base.specs.Answer.{Numbered, in_numbers}
use Rattle.framing.specs.Search.{begins_with}
use Rattle.framing.specs.Words.{word_at}
use Rattle.imagefile.specs.Types.{ImageFault, Refusal, FileForm, FormText, FormBit, FormBinary}

-- A BIT file begins with these 13 bytes.
abbrev pub bit_start : List ℕ
bit_start = 0x00 ∷ 0x09 ∷ 0x0F ∷ 0xF0 ∷ 0x0F ∷ 0xF0 ∷ 0x0F ∷ 0xF0 ∷ 0x0F ∷ 0xF0 ∷ 0x00 ∷ 0x00 ∷ 0x01 ∷ []

-- Then come fields with the letters a, b, c and d, and the image's with e.
abbrev pub letters : List ℕ
letters = 0x61 ∷ 0x62 ∷ 0x63 ∷ 0x64 ∷ []

abbrev pub image_letter : ℕ
image_letter = 0x65

-- Do the bytes begin with a field, whole: with this letter, and long enough for its head (the letter and the length) and its content?
unfoldable pub whole_field : ℕ → ℕ → ℕ → List ℕ → Bool
whole_field letter head content bytes = eqb (get_or bytes 0 0) letter && leb (head + content) (length bytes)

-- A field is its letter, the length of its content in two bytes, high byte first, and the content.
unfoldable pub content_length : List ℕ → ℕ
content_length bytes = get_or bytes 1 0 * 256 + get_or bytes 2 0

unfoldable pub has_field : ℕ → List ℕ → Bool
has_field letter bytes = whole_field letter 3 (content_length bytes) bytes

-- The image's has the length in four bytes, high byte first, and then the image.
unfoldable pub has_image : List ℕ → Bool
has_image bytes = whole_field image_letter 5 (word_at bytes 1) bytes

unfoldable pub image_field : List ℕ → ℕ → Result FileForm Refusal
image_field bytes place = ask (has_image bytes) (refused ImageFault place) (Ok (FormBit (place + 5) (word_at bytes 1)))

-- The fields one after another. A field with another letter, or one that does not end within the file, is refused at its place. The bytes are those from the place on.
unfoldable pub fields : List ℕ → List ℕ → ℕ → Result FileForm Refusal
fields [] bytes place = image_field bytes place
fields (letter ∷ more) bytes place = ask (has_field letter bytes) (refused ImageFault place) (fields more (drop (3 + content_length bytes) bytes) (place + (3 + content_length bytes)))

-- Text has no byte above 7F. A sync word has, so no image that loads anything is taken for text.
unfoldable pub is_text : List ℕ → Bool
is_text [] = true
is_text (byte ∷ bytes) = leb byte 0x7F && is_text bytes

-- in numbers: 1 for text, 2 for a BIT file with the place and length of its image, 3 for plain binary
abbrev pub form_numbers : Result FileForm Refusal → Numbered
form_numbers = in_numbers (λ (form : FileForm). elim form [ FormText ↦ 1 ∷ 0 ∷ 0 ∷ [] | FormBit first length ↦ 2 ∷ first ∷ length ∷ [] | FormBinary ↦ 3 ∷ 0 ∷ 0 ∷ [] ])

-- `form`: a BIT file by its first bytes; any other is text or plain binary
unfoldable pub plain_form : Bool → FileForm
plain_form true = FormText
plain_form false = FormBinary

unfoldable pub form_answer : List ℕ → Result FileForm Refusal
form_answer file = ask (begins_with bit_start file) (Ok (plain_form (is_text file))) (fields letters (drop 13 file) 13)
