-- How long the text is.
use Prim.Native.Nat.{ℕ, zero, suc, ◌+◌, ◌*◌, ◌/◌, ◌%◌, ◌<◌, ◌≤◌}
use mathlib.Core.Path.{◌≡◌, refl, sym, ap, ◌∙◌}
use mathlib.Core.List.{List, [], ◌∷◌, ◌++◌}
use mathlib.Core.Logic.{◌⊎◌, inl, inr}
use native.Mathlib.Omega.{arith}
use lib.ListN.{length, length-append}
use Rattle.base.proofs.Laws.{below_or_not, equal_or_not}
use Rattle.mcsline.specs.Record.{Lf, ending_text, Data, ExtendedLinearAddress, End, body_of, Line, record_text}
use Rattle.mcsline.proofs.Laws.{record_long}
use Rattle.mcs.specs.Text.{file_text}
use Rattle.canonical.specs.Canonical.{upper_line, upper_lines, data_line, part_lines, part_text, end_line, canonical_text, shorter_length}
use Rattle.canonical.specs.Theorems.{TextLong}
use Rattle.canonical.proofs.PartLaws.{upper_here, upper_none, file_append, part_none, Piece, part_first, by_records, in_parts}

pub data_long : (at : ℕ) (bytes : List ℕ) → length (record_text (data_line at bytes)) ≡ 2 * length bytes + 12
unfolding body_of ending_text
data_long at bytes = let l = record_long (Data (at % 65536) bytes) Lf in omega arith

pub upper_long : (at : ℕ) → length (record_text (upper_line at)) ≡ 16
unfolding body_of ending_text
upper_long at = record_long (ExtendedLinearAddress (at / 65536)) Lf

pub end_long : length (record_text end_line) ≡ 12
unfolding body_of ending_text
end_long = record_long End Lf

one_long : (line : Line) (lines : List Line) → length (file_text (line ∷ lines)) ≡ length (record_text line) + length (file_text lines)
unfolding file_text
one_long line lines = length-append (record_text line) (file_text lines)

none_long : length (file_text []) ≡ 0
unfolding file_text
none_long = refl

-- how many upper halves come before a place
abbrev uppers_before : ℕ → ℕ
uppers_before at = (at + 65535) / 65536

uppers_more : (at b : ℕ) → at % 16 ≡ 0 → 1 ≤ b → b ≤ 16 → length (file_text (upper_lines at)) + 16 * uppers_before at ≡ 16 * uppers_before (at + b)
uppers_more at b h s m = go (equal_or_not (at % 65536) 0)
  where
    go : (at % 65536 ≡ 0) ⊎ (at % 65536 ≡ 0 → ⊥) → length (file_text (upper_lines at)) + 16 * uppers_before at ≡ 16 * uppers_before (at + b)
    go (inl z) =
        let l : length (file_text (upper_lines at)) ≡ 16 = ap (λ (x : List Line). length (file_text x)) (upper_here at z) ∙ one_long (upper_line at) [] ∙ (let u = upper_long at in let n = none_long in omega arith) in
        let q : (at + b + 65535) / 65536 ≡ (at + 65535) / 65536 + 1 = omega arith in
        omega arith
    go (inr z) =
        let l : length (file_text (upper_lines at)) ≡ 0 = ap (λ (x : List Line). length (file_text x)) (upper_none at z) ∙ none_long in
        let q : (at + b + 65535) / 65536 ≡ (at + 65535) / 65536 = omega arith in
        omega arith

-- the characters of the data records of n bytes
abbrev data_length : ℕ → ℕ
data_length n = 44 * (n / 16) + shorter_length (n % 16)

pub shorter : (b : ℕ) → 1 ≤ b → shorter_length b ≡ 12 + 2 * b
unfolding shorter_length
shorter zero h = absurd (omega arith)
shorter (suc b) h = refl

none_shorter : shorter_length 0 ≡ 0
unfolding shorter_length
none_shorter = refl

data_more : (bytes rest : List ℕ) → Piece bytes rest → 2 * length bytes + 12 + data_length (length rest) ≡ data_length (length bytes + length rest)
data_more bytes rest piece = go (below_or_not (length bytes) 16)
  where
    go : (length bytes < 16) ⊎ (16 ≤ length bytes) → 2 * length bytes + 12 + data_length (length rest) ≡ data_length (length bytes + length rest)
    go (inl less) =
        let some = piece.some in
        let none : length rest ≡ 0 = last (below_or_not 0 (length rest)) in
        let q : (length bytes + 0) / 16 ≡ 0 = omega arith in
        let r : (length bytes + 0) % 16 ≡ length bytes = omega arith in
        let s = shorter (length bytes) some in
        let z = none_shorter in
        rw (none, q, r) (omega arith)
      where
        last : (1 ≤ length rest) ⊎ (length rest ≤ 0) → length rest ≡ 0
        last (inl s) = absurd (let f = piece.full s in omega arith)
        last (inr s) = omega arith
    go (inr full) =
        let most = piece.most in
        let b : length bytes ≡ 16 = omega arith in
        let q : (16 + length rest) / 16 ≡ length rest / 16 + 1 = omega arith in
        let r : (16 + length rest) % 16 ≡ length rest % 16 = omega arith in
        rw (b, q, r) (omega arith)

sums : (text upper data' rest before here end more all : ℕ) → text ≡ upper + data' + rest → upper + before ≡ here → data' + more ≡ all → rest + here ≡ end + more → text + before ≡ end + all
sums text upper data' rest before here end more all t u d r = omega arith

-- A part's text: its upper halves are those between its ends.
pub part_long : (part : List ℕ) (at : ℕ) → (1 ≤ length part → at % 16 ≡ 0) → length (part_text at part) + 16 * uppers_before at ≡ 16 * uppers_before (at + length part) + data_length (length part)
part_long = by_records (λ (part : List ℕ). (at : ℕ) → (1 ≤ length part → at % 16 ≡ 0) → length (part_text at part) + 16 * uppers_before at ≡ 16 * uppers_before (at + length part) + data_length (length part)) none more
  where
    none : (at : ℕ) → (1 ≤ 0 → at % 16 ≡ 0) → length (part_text at []) + 16 * uppers_before at ≡ 16 * uppers_before (at + 0) + data_length 0
    none at h =
        let z : at + 0 ≡ at = omega arith in
        let l : length (part_text at []) ≡ 0 = ap (λ (x : List Line). length (file_text x)) (part_none at) ∙ none_long in
        let s = none_shorter in
        rw z (omega arith)

    more : (bytes rest : List ℕ) → Piece bytes rest → ((at : ℕ) → (1 ≤ length rest → at % 16 ≡ 0) → length (part_text at rest) + 16 * uppers_before at ≡ 16 * uppers_before (at + length rest) + data_length (length rest)) →
        (at : ℕ) → (1 ≤ length (bytes ++ rest) → at % 16 ≡ 0) → length (part_text at (bytes ++ rest)) + 16 * uppers_before at ≡ 16 * uppers_before (at + length (bytes ++ rest)) + data_length (length (bytes ++ rest))
    more bytes rest piece ih at h =
        let n : length (bytes ++ rest) ≡ length bytes + length rest = length-append bytes rest in
        let some = piece.some in
        let even : at % 16 ≡ 0 = h (omega arith) in
        let text : length (part_text at (bytes ++ rest)) ≡ length (file_text (upper_lines at)) + (2 * length bytes + 12) + length (part_text (at + length bytes) rest) =
        ap (λ (x : List Line). length (file_text x)) (part_first at bytes rest piece)
        ∙ ap (λ (l : List ℕ). length l) (file_append (upper_lines at) (data_line at bytes ∷ part_lines (at + length bytes) rest))
        ∙ length-append (file_text (upper_lines at)) (file_text (data_line at bytes ∷ part_lines (at + length bytes) rest))
        ∙ (let o = one_long (data_line at bytes) (part_lines (at + length bytes) rest) in let d = data_long at bytes in omega arith) in
        let u = uppers_more at (length bytes) even some piece.most in
        let d = data_more bytes rest piece in
        let i = ih (at + length bytes) (λ s. let f = piece.full s in omega arith) in
        let place : at + length bytes + length rest ≡ at + (length bytes + length rest) = omega arith in
        sums _ (length (file_text (upper_lines at))) (2 * length bytes + 12) (length (part_text (at + length bytes) rest)) (16 * uppers_before at) _ (16 * uppers_before (at + length bytes + length rest)) (data_length (length rest)) _ text u d i
        ∙ ap (λ (k : ℕ). 16 * uppers_before k + data_length (length bytes + length rest)) place
        ∙ ap (λ (m : ℕ). 16 * uppers_before (at + m) + data_length m) (sym n)

pub text_long : TextLong
text_long image =
    let p = part_long image 0 (λ s. refl) in
    let f : length (canonical_text image) ≡ length (part_text 0 image) + length (record_text end_line) =
    ap (λ (l : List ℕ). length l) (in_parts.whole image) ∙ length-append (part_text 0 image) (record_text end_line) in
    let e = end_long in
    let z : 0 + length image ≡ length image = omega arith in
    let q : length (part_text 0 image) + 16 * 0 ≡ 16 * ((length image + 65535) / 65536) + data_length (length image) = rw z at p in
    omega arith
