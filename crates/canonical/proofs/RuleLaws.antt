-- The text of an image is that of a file of it, and is in the form.
use Prim.Native.Nat.{ℕ, ◌+◌, ◌*◌, ◌/◌, ◌%◌, ◌<◌, ◌≤◌}
use mathlib.Core.Path.{◌≡◌, refl, sym, ap, subst, ◌∙◌}
use mathlib.Core.Bool.{true, false}
use mathlib.Core.List.{List, [], ◌∷◌, ◌++◌, append_assoc, append-nil}
use mathlib.Core.Logic.{◌⊎◌, inl, inr}
use native.Mathlib.Omega.{arith}
use borrow.Author.Tests.{eq-eqb, ne_eqb}
use lib.ListN.{length, length-append}
use Rattle.base.proofs.Laws.{equal_or_not}
use Rattle.mcsline.specs.Record.{Data, Line, AllBytes, Fit}
use Rattle.mcsline.proofs.Laws.{bytes_apart}
use Rattle.mcs.specs.Text.{FileFrom, FileOf}
use Rattle.kind.specs.Layout.{longest_chip}
use Rattle.kind.proofs.Laws.{image_length_range}
use Rattle.canonical.specs.Canonical.{upper_line, upper_lines, data_line, part_lines, end_line, canonical_lines, canonical_text}
use Rattle.canonical.specs.Rule.{writable, data_of, AllLf, Sixteens, UppersBefore, InForm}
use Rattle.canonical.proofs.PartLaws.{upper_here, upper_none, part_none, Piece, part_rows, by_records}

-- IT IS A FILE

-- the end record after an image is the whole file
ended : (half : ℕ) (image whole : List ℕ) → image ≡ whole → FileFrom half image (end_line ∷ []) whole
unfolding FileFrom
ended half image whole e = (refl, e)

data_file : (half at : ℕ) (image bytes : List ℕ) (lines : List Line) (whole : List ℕ) → Fit (Data (at % 65536) bytes) → half * 65536 + at % 65536 ≡ length image → at % 65536 + length bytes ≤ 65536 →
    FileFrom half (image ++ bytes) lines whole → FileFrom half image (data_line at bytes ∷ lines) whole
unfolding FileFrom
data_file half at image bytes lines whole fit here within rest = (fit, here, within, rest)

upper_file : (half at : ℕ) (image : List ℕ) (lines : List Line) (whole : List ℕ) → at / 65536 < 65536 → FileFrom (at / 65536) image lines whole → FileFrom half image (upper_line at ∷ lines) whole
unfolding FileFrom Fit
upper_file half at image lines whole small rest = (small, rest)

pub data_fits_law : (at : ℕ) (bytes : List ℕ) → 1 ≤ length bytes → length bytes ≤ 16 → AllBytes bytes → Fit (Data (at % 65536) bytes)
unfolding Fit
data_fits_law at bytes some most small = (omega arith, some, omega arith, small)

-- The lines of a part, after an image up to where it begins: the upper half in force is its place's, unless an upper half comes first.
FileAfter : List ℕ → Type 0
FileAfter part =
    (half at : ℕ) (image : List ℕ) → length image ≡ at → (1 ≤ length part → at % 16 ≡ 0) → at + length part ≤ 4294967296 → AllBytes part →
    (1 ≤ length part → (at % 65536 ≡ 0 → ⊥) → half ≡ at / 65536) → FileFrom half image (part_lines at part ++ end_line ∷ []) (image ++ part)

file_part : (part : List ℕ) → FileAfter part
unfolding FileAfter
file_part = by_records FileAfter none more
  where
    none : FileAfter []
    none half at image l even small bytes force = rw (part_none at) (ended half image (image ++ []) (sym (append-nil image)))

    more : (bytes rest : List ℕ) → Piece bytes rest → FileAfter rest → FileAfter (bytes ++ rest)
    more bytes rest piece ih half at image l even small all force =
        let n = length-append bytes rest in
        let some = piece.some in
        subst (λ (x : List Line). FileFrom half image x (image ++ (bytes ++ rest))) (sym (part_rows at bytes rest piece (end_line ∷ [])))
        (go (even (omega arith)) (equal_or_not (at % 65536) 0))
      where
        whole : length (bytes ++ rest) ≡ length bytes + length rest
        whole = length-append bytes rest

        rows : List Line
        rows = part_lines (at + length bytes) rest ++ end_line ∷ []

        -- the data record and what follows it, under the upper half of its place
        data' : (upper : ℕ) → upper ≡ at / 65536 → at % 16 ≡ 0 → FileFrom upper image (data_line at bytes ∷ rows) (image ++ (bytes ++ rest))
        data' upper e z =
            let small' = bytes_apart bytes rest all in
            let m = length-append image bytes in
            let w = whole in
            let next : (1 ≤ length rest → ((at + length bytes) % 65536 ≡ 0 → ⊥) → upper ≡ (at + length bytes) / 65536) = λ s o. (let f = piece.full s in omega arith) in
            let even' : 1 ≤ length rest → (at + length bytes) % 16 ≡ 0 = λ s. (let f = piece.full s in omega arith) in
            let most = piece.most in
            data_file upper at image bytes rows (image ++ (bytes ++ rest)) (data_fits_law at bytes piece.some most small'.0) (omega arith) (omega arith)
            (subst (λ (x : List ℕ). FileFrom upper (image ++ bytes) rows x) (append_assoc image bytes rest)
            (ih upper (at + length bytes) (image ++ bytes) (omega arith) even' (omega arith) small'.1 next))

        go : at % 16 ≡ 0 → (at % 65536 ≡ 0) ⊎ (at % 65536 ≡ 0 → ⊥) → FileFrom half image (upper_lines at ++ data_line at bytes ∷ rows) (image ++ (bytes ++ rest))
        go z (inl here) =
            let w = whole in
            let some = piece.some in
            rw (upper_here at here) (upper_file half at image (data_line at bytes ∷ rows) (image ++ (bytes ++ rest)) (omega arith) (data' (at / 65536) refl z))
        go z (inr other) =
            let w = whole in
            let some = piece.some in
            rw (upper_none at other) (data' half (force (omega arith) other) z)

pub canonical_file : (image : List ℕ) → AllBytes image → writable (length image) ≡ true → FileOf (canonical_lines image) image
unfolding FileAfter
canonical_file image small e =
    let r = image_length_range longest_chip (length image) e in
    file_part image 0 0 [] refl (λ s. refl) (omega arith) small (λ s o. absurd (o refl))

-- IT KEEPS THE RULES

all_lf : (part : List ℕ) (at : ℕ) → AllLf (part_lines at part ++ end_line ∷ [])
unfolding AllLf
all_lf = by_records (λ (part : List ℕ). (at : ℕ) → AllLf (part_lines at part ++ end_line ∷ [])) (λ at. rw (part_none at) (refl, tt)) more
  where
    more : (bytes rest : List ℕ) → Piece bytes rest → ((at : ℕ) → AllLf (part_lines at rest ++ end_line ∷ [])) → (at : ℕ) → AllLf (part_lines at (bytes ++ rest) ++ end_line ∷ [])
    more bytes rest piece ih at = subst AllLf (sym (part_rows at bytes rest piece (end_line ∷ []))) (go (equal_or_not (at % 65536) 0))
      where
        go : (at % 65536 ≡ 0) ⊎ (at % 65536 ≡ 0 → ⊥) → AllLf (upper_lines at ++ data_line at bytes ∷ (part_lines (at + length bytes) rest ++ end_line ∷ []))
        go (inl here) = rw (upper_here at here) (refl, (refl, ih (at + length bytes)))
        go (inr other) = rw (upper_none at other) (refl, ih (at + length bytes))

data_part : (part : List ℕ) (at : ℕ) → data_of (part_lines at part ++ end_line ∷ []) ≡ part
unfolding data_of
data_part = by_records (λ (part : List ℕ). (at : ℕ) → data_of (part_lines at part ++ end_line ∷ []) ≡ part) (λ at. rw (part_none at) refl) more
  where
    more : (bytes rest : List ℕ) → Piece bytes rest → ((at : ℕ) → data_of (part_lines at rest ++ end_line ∷ []) ≡ rest) → (at : ℕ) → data_of (part_lines at (bytes ++ rest) ++ end_line ∷ []) ≡ bytes ++ rest
    more bytes rest piece ih at = ap data_of (part_rows at bytes rest piece (end_line ∷ [])) ∙ go (equal_or_not (at % 65536) 0)
      where
        go : (at % 65536 ≡ 0) ⊎ (at % 65536 ≡ 0 → ⊥) → data_of (upper_lines at ++ data_line at bytes ∷ (part_lines (at + length bytes) rest ++ end_line ∷ [])) ≡ bytes ++ rest
        go (inl here) = rw (upper_here at here) (ap (λ (x : List ℕ). bytes ++ x) (ih (at + length bytes)))
        go (inr other) = rw (upper_none at other) (ap (λ (x : List ℕ). bytes ++ x) (ih (at + length bytes)))

sixteens : (part : List ℕ) (at : ℕ) → Sixteens (part_lines at part ++ end_line ∷ [])
unfolding Sixteens
sixteens = by_records (λ (part : List ℕ). (at : ℕ) → Sixteens (part_lines at part ++ end_line ∷ [])) (λ at. rw (part_none at) tt) more
  where
    more : (bytes rest : List ℕ) → Piece bytes rest → ((at : ℕ) → Sixteens (part_lines at rest ++ end_line ∷ [])) → (at : ℕ) → Sixteens (part_lines at (bytes ++ rest) ++ end_line ∷ [])
    more bytes rest piece ih at = subst Sixteens (sym (part_rows at bytes rest piece (end_line ∷ []))) (go (equal_or_not (at % 65536) 0))
      where
        full : 1 ≤ length (data_of (part_lines (at + length bytes) rest ++ end_line ∷ [])) → length bytes ≡ 16
        full s = piece.full (rw (data_part rest (at + length bytes)) at s)

        go : (at % 65536 ≡ 0) ⊎ (at % 65536 ≡ 0 → ⊥) → Sixteens (upper_lines at ++ data_line at bytes ∷ (part_lines (at + length bytes) rest ++ end_line ∷ []))
        go (inl here) = rw (upper_here at here) (piece.most, full, ih (at + length bytes))
        go (inr other) = rw (upper_none at other) (piece.most, full, ih (at + length bytes))

uppers : (part : List ℕ) (at : ℕ) → UppersBefore at false (part_lines at part ++ end_line ∷ [])
unfolding UppersBefore
uppers = by_records (λ (part : List ℕ). (at : ℕ) → UppersBefore at false (part_lines at part ++ end_line ∷ [])) (λ at. rw (part_none at) (refl, tt)) more
  where
    more : (bytes rest : List ℕ) → Piece bytes rest → ((at : ℕ) → UppersBefore at false (part_lines at rest ++ end_line ∷ [])) → (at : ℕ) → UppersBefore at false (part_lines at (bytes ++ rest) ++ end_line ∷ [])
    more bytes rest piece ih at = subst (UppersBefore at false) (sym (part_rows at bytes rest piece (end_line ∷ []))) (go (equal_or_not (at % 65536) 0))
      where
        go : (at % 65536 ≡ 0) ⊎ (at % 65536 ≡ 0 → ⊥) → UppersBefore at false (upper_lines at ++ data_line at bytes ∷ (part_lines (at + length bytes) rest ++ end_line ∷ []))
        go (inl here) = rw (upper_here at here) (refl, (sym (eq-eqb _ _ here), ih (at + length bytes)))
        go (inr other) = rw (upper_none at other) (sym (ne_eqb (at % 65536) 0 other), ih (at + length bytes))

pub formed : (image : List ℕ) → AllBytes image → writable (length image) ≡ true → InForm (canonical_text image)
formed image small e = record {
  lines = canonical_lines image;
  image = image;
  written = refl;
  file = canonical_file image small e;
  long = e;
  lf = all_lf image 0;
  sixteens = sixteens image 0;
  uppers = uppers image 0;
}
