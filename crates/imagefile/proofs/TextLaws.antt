-- Text by the places of its bytes, and by its parts.
use Prim.Native.Nat.{ℕ, ◌+◌, ◌-◌, ◌%◌, ◌<◌, ◌≤◌}
use mathlib.Core.Path.{◌≡◌, refl, sym, ap, ◌∙◌}
use mathlib.Core.Bool.{Bool, true, false, ◌&&◌}
use mathlib.Core.List.{List, [], ◌∷◌, ◌++◌}
use native.Mathlib.Numerals.{add-one}
use native.Mathlib.Omega.{arith}
use borrow.Author.Tests.{le-leb, lt-leb}
use lib.Dec.{leb}
use lib.ListN.{length, get_or, drop, drop_of_length-le, length-append}
use lib.Seq.{drop-cons, drop-append-add}
use Rattle.imagefile.specs.Imagefile.{is_text}

-- A byte up to 7F says nothing; one above it says no; and after the last byte there is none.
text_on : (file : List ℕ) (i : ℕ) → i < length file → get_or file i 0 ≤ 0x7F → is_text (drop i file) ≡ is_text (drop (i + 1) file)
unfolding is_text
text_on file i h low = rw (drop-cons file i 0 h, is_text, le-leb (get_or file i 0) 0x7F low, add-one) refl

text_stop : (file : List ℕ) (i : ℕ) → i < length file → 0x7F < get_or file i 0 → is_text (drop i file) ≡ false
unfolding is_text
text_stop file i h high = rw (drop-cons file i 0 h, is_text, lt-leb (get_or file i 0) 0x7F high) refl

text_end : (file : List ℕ) (i : ℕ) → length file ≤ i → is_text (drop i file) ≡ true
unfolding is_text
text_end file i h = rw (drop_of_length-le file {i = i} h) refl

-- The same beside what is known of the bytes before.
pub and_text_on : (text : Bool) (file : List ℕ) (i : ℕ) → i < length file → get_or file i 0 ≤ 0x7F → (text && is_text (drop i file)) ≡ (text && is_text (drop (i + 1) file))
and_text_on text file i h low = ap (λ b. text && b) (text_on file i h low)

pub and_text_stop : (text : Bool) (file : List ℕ) (i : ℕ) → i < length file → 0x7F < get_or file i 0 → (text && is_text (drop i file)) ≡ false
and_text_stop true file i h high = text_stop file i h high
and_text_stop false file i h high = refl

pub and_text_end : (text : Bool) (file : List ℕ) (i : ℕ) → length file ≤ i → (text && is_text (drop i file)) ≡ text
and_text_end true file i h = text_end file i h
and_text_end false file i h = refl

-- Text is text in all its parts.
and_assoc : (a b c : Bool) → (a && (b && c)) ≡ ((a && b) && c)
and_assoc true b c = refl
and_assoc false b c = refl

pub text_parts : (xs ys : List ℕ) → is_text (xs ++ ys) ≡ (is_text xs && is_text ys)
unfolding is_text
text_parts [] ys = refl
text_parts (x ∷ xs) ys = ap (λ b. leb x 0x7F && b) (text_parts xs ys) ∙ and_assoc (leb x 0x7F) (is_text xs) (is_text ys)

-- What whole blocks leave of bytes: a block less leaves the same, and fewer than a block are left as they are.
unfoldable pub tail_of : List ℕ → List ℕ
tail_of bytes = drop (length bytes - length bytes % 4096) bytes

pub tail_is : (bytes rest : List ℕ) → rest ≡ drop (length bytes - length bytes % 4096) bytes → tail_of bytes ≡ rest
unfolding tail_of
tail_is bytes rest e = sym e

pub tail_on : (bytes block more : List ℕ) → bytes ≡ block ++ more → length block ≡ 4096 → tail_of more ≡ tail_of bytes
unfolding tail_of
tail_on bytes block more e l =
    let n = length-append block more in
    let place : length (block ++ more) - length (block ++ more) % 4096 ≡ length block + (length more - length more % 4096) = omega arith in
    rw (e, place) (sym (drop-append-add block more (length more - length more % 4096)))

pub tail_end : (bytes : List ℕ) → length bytes < 4096 → tail_of bytes ≡ bytes
unfolding tail_of
tail_end bytes l = let place : length bytes - length bytes % 4096 ≡ 0 = omega arith in rw place refl
