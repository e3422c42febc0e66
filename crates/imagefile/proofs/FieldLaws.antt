-- Fields at the front of bytes: when one is whole, and what the fields from there give.
use Prim.Native.Nat.{ℕ, ◌+◌, ◌-◌, ◌<◌, ◌≤◌}
use mathlib.Core.Path.{◌≡◌, refl, sym, ◌∙◌}
use mathlib.Core.Bool.{Bool, true, false, ◌&&◌}
use mathlib.Core.List.{List}
use native.Mathlib.Numerals.{add-one}
use native.Mathlib.Omega.{arith}
use borrow.Author.Tests.{lt-leb, le-leb, leb-true, eq-eqb, ne_eqb}
use lib.Dec.{eqb, leb}
use lib.ListN.{length, get_or, take, drop, length-drop}
use lib.Seq.{drop-cons, drop-drop, take_all}
use Rattle.std.proofs.Common.{Ok}
use Rattle.base.specs.Question.{ask}
use Rattle.base.specs.Refusal.{refused}
use Rattle.base.proofs.Laws.{both_true, fits_after}
use Rattle.framing.specs.Words.{word_at}
use Rattle.imagefile.specs.Imagefile.{letters, image_letter, whole_field, content_length, has_field, has_image, image_field, fields}
use Rattle.imagefile.specs.Types.{ImageFault, FormBit}

and_false : (b : Bool) → (b && false) ≡ false
and_false true = refl
and_false false = refl

-- A field is not whole where there are too few bytes for its head, or where another letter is; else by what comes after its head.
field_short : (letter head content : ℕ) (bytes : List ℕ) → length bytes < head → whole_field letter head content bytes ≡ false
unfolding whole_field
field_short letter head content bytes h = rw (lt-leb (head + content) (length bytes) (omega arith)) (and_false (eqb (get_or bytes 0 0) letter))

field_other : (letter head content : ℕ) (bytes : List ℕ) → (get_or bytes 0 0 ≡ letter → ⊥) → whole_field letter head content bytes ≡ false
unfolding whole_field
field_other letter head content bytes differs = rw (ne_eqb (get_or bytes 0 0) letter differs) refl

field_here : (letter head content : ℕ) (bytes : List ℕ) → get_or bytes 0 0 ≡ letter → head ≤ length bytes → whole_field letter head content bytes ≡ leb content (length bytes - head)
unfolding whole_field
field_here letter head content bytes same h = rw (eq-eqb (get_or bytes 0 0) letter same) (sym (fits_after (length bytes) head content h))

-- A whole field ends within the bytes.
pub whole_fits : (letter head content : ℕ) (bytes : List ℕ) → whole_field letter head content bytes ≡ true → head + content ≤ length bytes
unfolding whole_field
whole_fits letter head content bytes e = leb-true _ _ (both_true (eqb (get_or bytes 0 0) letter) (leb (head + content) (length bytes)) e).1

pub field_fits : (letter : ℕ) (bytes : List ℕ) → has_field letter bytes ≡ true → 3 + content_length bytes ≤ length bytes
unfolding has_field
field_fits letter bytes e = whole_fits letter 3 (content_length bytes) bytes e

-- Each field before the image's.
pub has_short : (letter : ℕ) (bytes : List ℕ) → length bytes < 3 → false ≡ has_field letter bytes
unfolding has_field
has_short letter bytes h = sym (field_short letter 3 (content_length bytes) bytes h)

pub has_other : (letter : ℕ) (bytes : List ℕ) → (get_or bytes 0 0 ≡ letter → ⊥) → false ≡ has_field letter bytes
unfolding has_field
has_other letter bytes differs = sym (field_other letter 3 (content_length bytes) bytes differs)

pub has_here : (letter : ℕ) (bytes : List ℕ) → get_or bytes 0 0 ≡ letter → 3 ≤ length bytes → leb (content_length bytes) (length bytes - 3) ≡ has_field letter bytes
unfolding has_field
has_here letter bytes same h = sym (field_here letter 3 (content_length bytes) bytes same h)

-- The image's field.
image_refused : (bytes : List ℕ) (place : ℕ) → has_image bytes ≡ false → refused ImageFault place ≡ image_field bytes place
unfolding image_field ask
image_refused bytes place e = rw e refl

pub image_found : (bytes : List ℕ) (place : ℕ) → has_image bytes ≡ true → image_field bytes place ≡ Ok (FormBit (place + 5) (word_at bytes 1))
unfolding image_field ask
image_found bytes place e = rw e refl

pub image_short : (bytes : List ℕ) (place : ℕ) → length bytes < 5 → refused ImageFault place ≡ image_field bytes place
unfolding has_image
image_short bytes place h = image_refused bytes place (field_short image_letter 5 (word_at bytes 1) bytes h)

pub image_other : (bytes : List ℕ) (place : ℕ) → (get_or bytes 0 0 ≡ image_letter → ⊥) → refused ImageFault place ≡ image_field bytes place
unfolding has_image
image_other bytes place differs = image_refused bytes place (field_other image_letter 5 (word_at bytes 1) bytes differs)

pub image_cut : (bytes : List ℕ) (place : ℕ) → get_or bytes 0 0 ≡ image_letter → 5 ≤ length bytes → length bytes - 5 < word_at bytes 1 → refused ImageFault place ≡ image_field bytes place
unfolding has_image
image_cut bytes place same h cut = image_refused bytes place (field_here image_letter 5 (word_at bytes 1) bytes same h ∙ lt-leb (word_at bytes 1) (length bytes - 5) cut)

pub image_whole : (bytes : List ℕ) (place : ℕ) → get_or bytes 0 0 ≡ image_letter → 5 ≤ length bytes → word_at bytes 1 ≤ length bytes - 5 → Ok (FormBit (place + 5) (word_at bytes 1)) ≡ image_field bytes place
unfolding has_image
image_whole bytes place same h whole = sym (image_found bytes place (field_here image_letter 5 (word_at bytes 1) bytes same h ∙ le-leb (word_at bytes 1) (length bytes - 5) whole))

-- The bytes from a place on, as a slice has them.
pub from_place : (file : List ℕ) (at : ℕ) → take (length file - at) (drop at file) ≡ drop at file
from_place file at = take_all (length file - at) (drop at file) (omega (arith, length-drop at file))

-- The fields from the i-th letter on.
pub fields_stop : (bytes : List ℕ) (place i : ℕ) → i < 4 → has_field (get_or letters i 0) bytes ≡ false → fields (drop i letters) bytes place ≡ refused ImageFault place
unfolding fields ask
fields_stop bytes place i h e = rw (drop-cons letters i 0 h, e, fields) refl

pub fields_on : (file : List ℕ) (at i : ℕ) → i < 4 → has_field (get_or letters i 0) (drop at file) ≡ true →
    fields (drop (i + 1) letters) (drop (at + (3 + content_length (drop at file))) file) (at + (3 + content_length (drop at file))) ≡ fields (drop i letters) (drop at file) at
unfolding fields ask
fields_on file at i h e = rw (drop-cons letters i 0 h, e, fields, add-one, drop-drop (3 + content_length (drop at file)) at file) refl

pub fields_done : (bytes : List ℕ) (place i : ℕ) → i ≡ 4 → fields (drop i letters) bytes place ≡ image_field bytes place
unfolding fields
fields_done bytes place i e = rw e refl
