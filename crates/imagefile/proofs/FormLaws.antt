-- The answers of `form`: where the image of a BIT file lies, that a BIT file gives its image, and that text has no sync word.
use Prim.Native.Nat.{ℕ, ◌+◌, ◌*◌, ◌^◌, ◌<◌, ◌≤◌}
use mathlib.Core.Path.{◌≡◌, refl, sym, ap, ◌∙◌}
use mathlib.Core.Bool.{Bool, true, false}
use mathlib.Core.List.{List, [], ◌∷◌, ◌++◌}
use native.Mathlib.Omega.{arith}
use borrow.Author.Tests.{le-leb, leb-true, eq-eqb}
use lib.Dec.{leb}
use lib.ListN.{length, get_or, take, drop, length-drop, length-append}
use lib.Seq.{take-append_seam, drop_at, drop-drop}
use Rattle.std.proofs.Common.{Result, Ok, None}
use Rattle.base.specs.Question.{ask}
use Rattle.base.specs.Refusal.{refused}
use Rattle.base.proofs.Laws.{asked, asked_yes, both_true}
use Rattle.framing.specs.Search.{sync_bytes, begins_with, find}
use Rattle.framing.specs.Words.{words, word_at, bytes_of}
use Rattle.framing.proofs.Laws.{starts_length, starts_differs, find_next, bytes_word}
use Rattle.imagefile.specs.Imagefile.{bit_start, letters, image_letter, whole_field, content_length, has_field, has_image, image_field, fields, is_text, plain_form, form_answer}
use Rattle.imagefile.specs.Theorems.{BitInside, field_of, image_field_of, bit_file, BitFile, TextHasNoSync}
use Rattle.imagefile.specs.Types.{ImageFault, Refusal, FileForm, FormText, FormBit}
use Rattle.imagefile.proofs.FieldLaws.{whole_fits, field_fits, image_found}

-- A BIT file is neither refused, nor text, nor binary.
refused_bit : (place first count : ℕ) → refused ImageFault place ≡ Ok (FormBit first count) → ⊥
refused_bit place first count e = cc

plain_bit : (text : Bool) (first count : ℕ) → ◌≡◌ {A = Result FileForm Refusal} (Ok (plain_form text)) (Ok (FormBit first count)) → ⊥
unfolding plain_form
plain_bit true first count e = cc
plain_bit false first count e = cc

same_bit : (a b c d : ℕ) → ◌≡◌ {A = Result FileForm Refusal} (Ok (FormBit a b)) (Ok (FormBit c d)) → (a ≡ c) × (b ≡ d)
same_bit a b c d e = (cc, cc)

-- The image lies after the heads of its own field and of those before it, and ends within the bytes.
image_inside : (bytes : List ℕ) (place first count : ℕ) → image_field bytes place ≡ Ok (FormBit first count) → (place + 5 ≤ first) × (first + count ≤ place + length bytes)
unfolding image_field has_image
image_inside bytes place first count e =
    let q = asked (has_image bytes) (refused ImageFault place) (Ok (FormBit (place + 5) (word_at bytes 1))) (Ok (FormBit first count)) e (refused_bit place first count) in
    let f : 5 + word_at bytes 1 ≤ length bytes = whole_fits image_letter 5 (word_at bytes 1) bytes q.0 in
    let s = same_bit (place + 5) (word_at bytes 1) first count q.1 in
    omega arith

fields_inside : (more bytes : List ℕ) (place first count : ℕ) → fields more bytes place ≡ Ok (FormBit first count) → (place + 3 * length more + 5 ≤ first) × (first + count ≤ place + length bytes)
unfolding fields
fields_inside [] bytes place first count e = let i = image_inside bytes place first count e in omega arith
fields_inside (letter ∷ more) bytes place first count e =
    let n = content_length bytes in
    let q = asked (has_field letter bytes) (refused ImageFault place) (fields more (drop (3 + n) bytes) (place + (3 + n))) (Ok (FormBit first count)) e (refused_bit place first count) in
    let f : 3 + n ≤ length bytes = field_fits letter bytes q.0 in
    let i = fields_inside more (drop (3 + n) bytes) (place + (3 + n)) first count q.1 in
    let l = length-drop (3 + n) bytes in
    omega arith

pub bit_inside : BitInside
unfolding form_answer
bit_inside file first count e =
    let q = asked (begins_with bit_start file) (Ok (plain_form (is_text file))) (fields letters (drop 13 file) 13) (Ok (FormBit first count)) e (plain_bit (is_text file) first count) in
    let l : 13 ≤ length file = starts_length bit_start file q.0 in
    let i : (30 ≤ first) × (first + count ≤ 13 + length (drop 13 file)) = fields_inside letters (drop 13 file) 13 first count q.1 in
    let d = length-drop 13 file in
    omega arith

-- A field as it is written is whole, and says the length of its content.
whole_of : (letter head content : ℕ) (bytes : List ℕ) → head + content ≤ length bytes → get_or bytes 0 0 ≡ letter → whole_field letter head content bytes ≡ true
unfolding whole_field
whole_of letter head content bytes fits same = rw (eq-eqb (get_or bytes 0 0) letter same) (le-leb (head + content) (length bytes) fits)

content_of_law : (letter : ℕ) (content rest : List ℕ) → length content < 65536 → content_length (field_of letter content ++ rest) ≡ length content
unfolding content_length
content_of_law letter content rest short = omega arith

field_step : (letter : ℕ) (more content rest : List ℕ) (place : ℕ) → length content < 65536 → fields (letter ∷ more) (field_of letter content ++ rest) place ≡ fields more rest (place + (3 + length content))
unfolding fields has_field
field_step letter more content rest place short =
    let e : content_length (field_of letter content ++ rest) ≡ length content = content_of_law letter content rest short in
    let l = length-append content rest in
    let w : whole_field letter 3 (content_length (field_of letter content ++ rest)) (field_of letter content ++ rest) ≡ true = whole_of letter 3 _ (field_of letter content ++ rest) (omega arith) refl in
    asked_yes _ _ _ w ∙ rw (e, drop_at (field_of letter content) rest (3 + length content) (omega arith)) refl

image_step : (image rest : List ℕ) (place : ℕ) → length image < 2 ^ 32 → image_field (image_field_of image ++ rest) place ≡ Ok (FormBit (place + 5) (length image))
unfolding has_image words
image_step image rest place short =
    let e : word_at (image_field_of image ++ rest) 1 ≡ length image = bytes_word (length image) short in
    let l = length-append image rest in
    image_found (image_field_of image ++ rest) place (whole_of image_letter 5 (word_at (image_field_of image ++ rest) 1) (image_field_of image ++ rest) (omega arith) refl)
    ∙ ap (λ n. Ok (FormBit (place + 5) n)) e

fields_image : (bytes : List ℕ) (place : ℕ) → fields [] bytes place ≡ image_field bytes place
unfolding fields
fields_image bytes place = refl

-- Bytes passed over, one part of a file after another.
past : (file xs ys : List ℕ) (at n : ℕ) → length xs ≡ n → drop at file ≡ xs ++ ys → drop (at + n) file ≡ ys
past file xs ys at n l e = sym (drop-drop n at file) ∙ ap (drop n) e ∙ drop_at xs ys n l

module _ (a b c d image rest : List ℕ) where
  abbrev file : List ℕ
  file = bit_file a b c d image rest

  -- The parts from the image's field back.
  abbrev from_image : List ℕ
  from_image = image_field_of image ++ rest

  abbrev from_d : List ℕ
  from_d = field_of 0x64 d ++ from_image

  abbrev from_c : List ℕ
  from_c = field_of 0x63 c ++ from_d

  abbrev from_b : List ℕ
  from_b = field_of 0x62 b ++ from_c

  abbrev image_at : ℕ
  image_at = 13 + (3 + length a) + (3 + length b) + (3 + length c) + (3 + length d)

  at_image : drop image_at file ≡ from_image
  at_image =
      past file (field_of 0x64 d) from_image (13 + (3 + length a) + (3 + length b) + (3 + length c)) (3 + length d) (omega arith)
      (past file (field_of 0x63 c) from_d (13 + (3 + length a) + (3 + length b)) (3 + length c) (omega arith)
      (past file (field_of 0x62 b) from_c (13 + (3 + length a)) (3 + length b) (omega arith)
      (past file (field_of 0x61 a) from_b 13 (3 + length a) (omega arith) refl)))

  bit_told : length a < 65536 → length b < 65536 → length c < 65536 → length d < 65536 → length image < 2 ^ 32 → form_answer file ≡ Ok (FormBit (image_at + 5) (length image))
  unfolding form_answer begins_with ask
  bit_told la lb lc ld short =
      field_step 0x61 (0x62 ∷ 0x63 ∷ 0x64 ∷ []) a from_b 13 la
      ∙ field_step 0x62 (0x63 ∷ 0x64 ∷ []) b from_c (13 + (3 + length a)) lb
      ∙ field_step 0x63 (0x64 ∷ []) c from_d (13 + (3 + length a) + (3 + length b)) lc
      ∙ field_step 0x64 [] d from_image (13 + (3 + length a) + (3 + length b) + (3 + length c)) ld
      ∙ fields_image from_image image_at
      ∙ image_step image rest image_at short

  bit_same : take (length image) (drop (image_at + 5) file) ≡ image
  bit_same =
      ap (take (length image)) (past file (image_letter ∷ bytes_of (length image)) (image ++ rest) image_at 5 refl at_image)
      ∙ take-append_seam image rest

pub bit_file_law : BitFile
bit_file_law a b c d image rest la lb lc ld short = record { first = image_at a b c d image rest + 5; told = bit_told a b c d image rest la lb lc ld short; same = bit_same a b c d image rest }

-- Fields never give text.
field_text : (whole : Bool) (place : ℕ) (answer : Result FileForm Refusal) → (answer ≡ Ok FormText → ⊥) → ask whole (refused ImageFault place) answer ≡ Ok FormText → ⊥
unfolding ask
field_text true place answer other e = other e
field_text false place answer other e = cc

fields_text : (more bytes : List ℕ) (place : ℕ) → fields more bytes place ≡ Ok FormText → ⊥
unfolding fields image_field
fields_text [] bytes place = field_text (has_image bytes) place (Ok (FormBit (place + 5) (word_at bytes 1))) (λ e. cc)
fields_text (letter ∷ more) bytes place = field_text (has_field letter bytes) place _ (fields_text more (drop (3 + content_length bytes) bytes) (place + (3 + content_length bytes)))

text_told : (bit text : Bool) (answer : Result FileForm Refusal) → (answer ≡ Ok FormText → ⊥) → ask bit (Ok (plain_form text)) answer ≡ Ok FormText → text ≡ true
unfolding plain_form ask
text_told true text answer other e = absurd (other e)
text_told false true answer other e = refl
text_told false false answer other e = cc

-- No byte of text begins a sync word.
none_in_text : (bytes : List ℕ) (place : ℕ) → is_text bytes ≡ true → find bytes place ≡ None
unfolding is_text find
none_in_text [] place e = refl
none_in_text (byte ∷ bytes) place e =
    let q = both_true (leb byte 0x7F) (is_text bytes) e in
    let low : byte ≤ 0x7F = leb-true byte 0x7F q.0 in
    find_next bytes place byte (starts_differs sync_bytes (byte ∷ bytes) 0 (omega arith) (λ same. omega arith)) ∙ none_in_text bytes (place + 1) q.1

pub text_has_no_sync : TextHasNoSync
unfolding form_answer
text_has_no_sync file e = none_in_text file 0 (text_told (begins_with bit_start file) (is_text file) (fields letters (drop 13 file) 13) (fields_text letters (drop 13 file) 13) e)
