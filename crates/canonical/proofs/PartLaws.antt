-- Laws of a part of an image: its records one after the other.
use Prim.Native.Nat.{ℕ, zero, suc, ◌+◌, ◌*◌, ◌/◌, ◌%◌, ◌≤◌}
use mathlib.Core.Path.{◌≡◌, refl, sym, ap, ap₂, subst, ◌∙◌}
use mathlib.Core.List.{List, [], ◌∷◌, ◌++◌, append_assoc, append-nil}
use mathlib.Core.Logic.{◌⊎◌, inl, inr}
use native.Mathlib.Omega.{arith}
use borrow.Author.Tests.{eq-eqb, ne_eqb}
use lib.ListN.{length, take, drop, length-append, length-take, length-drop, take-append-drop, drop_of_length-le}
use lib.Seq.{take_at, drop_at, take_all, take-append-le, drop-append-le}
use Rattle.base.proofs.Laws.{below_or_not, nil_of_length}
use Rattle.mcsline.specs.Record.{Line, record_text}
use Rattle.mcs.specs.Text.{file_text}
use Rattle.canonical.specs.Canonical.{upper_line, upper_lines, data_line, record_lines, records_of, lines_from, part_lines, part_text, end_line, canonical_text}
use Rattle.canonical.specs.Theorems.{InParts}

-- The lines of one record.

pub upper_here : (at : ℕ) → at % 65536 ≡ 0 → upper_lines at ≡ upper_line at ∷ []
unfolding upper_lines
upper_here at h = rw (eq-eqb _ _ h, upper_lines)

pub upper_none : (at : ℕ) → (at % 65536 ≡ 0 → ⊥) → upper_lines at ≡ []
unfolding upper_lines
upper_none at h = rw (ne_eqb (at % 65536) 0 h, upper_lines)

-- Lines one after the other are their texts one after the other.
pub file_append : (front back : List Line) → file_text (front ++ back) ≡ file_text front ++ file_text back
unfolding file_text
file_append [] back = refl
file_append (line ∷ lines) back = ap (λ (l : List ℕ). record_text line ++ l) (file_append lines back) ∙ sym (append_assoc (record_text line) (file_text lines) (file_text back))

-- A PART IS EMPTY, or a record's bytes and the rest.

lines_none : (at : ℕ) (bytes : List ℕ) → lines_from 0 at bytes ≡ []
unfolding lines_from
lines_none at bytes = refl

lines_more : (records at : ℕ) (bytes : List ℕ) → lines_from (suc records) at bytes ≡ record_lines at (take 16 bytes) ++ lines_from records (at + 16) (drop 16 bytes)
unfolding lines_from
lines_more records at bytes = refl

pub part_none : (at : ℕ) → part_lines at [] ≡ []
part_none at = lines_none at []

-- A record's bytes: 1 to 16, and 16 where others follow.
pub record Piece (bytes rest : List ℕ) : Type 0 where
  pub some : 1 ≤ length bytes
  pub most : length bytes ≤ 16
  pub full : 1 ≤ length rest → length bytes ≡ 16

module _ (at : ℕ) (bytes rest : List ℕ) (piece : Piece bytes rest) where
  records : (n : ℕ) → n ≡ length bytes + length rest → records_of n ≡ suc (records_of (length rest))
  records n e = go (below_or_not 0 (length rest))
    where
      go : (1 ≤ length rest) ⊎ (length rest ≤ 0) → records_of n ≡ suc (records_of (length rest))
      go (inl some) = let full = piece.full some in let q : (16 + length rest + 15) / 16 ≡ suc ((length rest + 15) / 16) = omega arith in ap (λ (m : ℕ). (m + 15) / 16) (let m : n ≡ 16 + length rest = omega arith in m) ∙ q
      go (inr none) = let z : length rest ≡ 0 = omega arith in let a = piece.some in let b = piece.most in rw z (let m : (n + 15) / 16 ≡ 1 = omega arith in m)

  first : take 16 (bytes ++ rest) ≡ bytes
  first = go (below_or_not 0 (length rest))
    where
      go : (1 ≤ length rest) ⊎ (length rest ≤ 0) → take 16 (bytes ++ rest) ≡ bytes
      go (inl some) = take_at bytes rest 16 (piece.full some)
      go (inr none) = rw (nil_of_length rest (omega arith)) (rw (append-nil bytes) (take_all 16 bytes piece.most))

  others : drop 16 (bytes ++ rest) ≡ rest
  others = go (below_or_not 0 (length rest))
    where
      go : (1 ≤ length rest) ⊎ (length rest ≤ 0) → drop 16 (bytes ++ rest) ≡ rest
      go (inl some) = drop_at bytes rest 16 (piece.full some)
      go (inr none) = rw (nil_of_length rest (omega arith)) (rw (append-nil bytes) (drop_of_length-le bytes {i = 16} piece.most))

  -- The lines after the first record's, of a rest that begins where it ends.
  after : part_lines (at + 16) rest ≡ part_lines (at + length bytes) rest
  after = go (below_or_not 0 (length rest))
    where
      go : (1 ≤ length rest) ⊎ (length rest ≤ 0) → part_lines (at + 16) rest ≡ part_lines (at + length bytes) rest
      go (inl some) = ap (λ (n : ℕ). part_lines (at + n) rest) (sym (piece.full some))
      go (inr none) = rw (nil_of_length rest (omega arith)) (part_none (at + 16) ∙ sym (part_none (at + length bytes)))

  pub part_first : part_lines at (bytes ++ rest) ≡ upper_lines at ++ data_line at bytes ∷ part_lines (at + length bytes) rest
  part_first =
      ap (λ (n : ℕ). lines_from n at (bytes ++ rest)) (records (length (bytes ++ rest)) (length-append bytes rest))
      ∙ lines_more (records_of (length rest)) at (bytes ++ rest)
      ∙ ap₂ (λ (x y : List ℕ). record_lines at x ++ lines_from (records_of (length rest)) (at + 16) y) first others
      ∙ ap (λ (l : List Line). record_lines at bytes ++ l) after
      ∙ append_assoc (upper_lines at) (data_line at bytes ∷ []) (part_lines (at + length bytes) rest)

  -- The same, with lines that follow.
  pub part_rows : (lines : List Line) → part_lines at (bytes ++ rest) ++ lines ≡ upper_lines at ++ data_line at bytes ∷ (part_lines (at + length bytes) rest ++ lines)
  part_rows lines =
      ap (λ (l : List Line). l ++ lines) part_first ∙ append_assoc (upper_lines at) (data_line at bytes ∷ part_lines (at + length bytes) rest) lines

-- What holds of no bytes, and of a record's bytes and a rest of which it holds, holds of every part.
pub by_records : (P : List ℕ → Type 0) → P [] → ((bytes rest : List ℕ) → Piece bytes rest → P rest → P (bytes ++ rest)) → (part : List ℕ) → P part
by_records P none more part = go (length part) part (omega arith)
  where
    go : (n : ℕ) (part : List ℕ) → length part ≤ n → P part
    go zero part h = subst P (sym (nil_of_length part (omega arith))) none
    go (suc n) part h = either (below_or_not 0 (length part)) (go n)
      where
        either : (1 ≤ length part) ⊎ (length part ≤ 0) → ((rest : List ℕ) → length rest ≤ n → P rest) → P part
        either (inl some) ih =
            let t = length-take 16 part in
            let d = length-drop 16 part in
            let piece : Piece (take 16 part) (drop 16 part) = record { some = omega arith; most = omega arith; full = λ s. omega arith } in
            subst P (take-append-drop 16 part) (more (take 16 part) (drop 16 part) piece (ih (drop 16 part) (omega arith)))
        either (inr none') ih = subst P (sym (nil_of_length part (omega arith))) none

-- PARTS JOIN.

lines_join : (k m at : ℕ) (front back : List ℕ) → length front ≡ 16 * k → lines_from (k + m) at (front ++ back) ≡ lines_from k at front ++ lines_from m (at + 16 * k) back
unfolding lines_from
lines_join zero m at [] back h = let a : 0 + m ≡ m = omega arith in let b : at + 16 * 0 ≡ at = omega arith in rw (a, b) refl
lines_join zero m at (x ∷ front) back h = absurd (omega arith)
lines_join (suc k) m at front back h =
    let a : suc k + m ≡ suc (k + m) = omega arith in
    let b : at + 16 + 16 * k ≡ at + 16 * suc k = omega arith in
    let ih = lines_join k m (at + 16) (drop 16 front) back (omega (arith, length-drop 16 front)) in
    rw (a, take-append-le 16 front back (omega arith), drop-append-le 16 front back (omega arith), ih, b) (sym (append_assoc (record_lines at (take 16 front)) (lines_from k (at + 16) (drop 16 front)) (lines_from m (at + 16 * suc k) back)))

parts_join : (at : ℕ) (front back : List ℕ) → length front % 16 ≡ 0 → part_text at (front ++ back) ≡ part_text at front ++ part_text (at + length front) back
parts_join at front back h =
    let k = records_of (length front) in
    let m = records_of (length back) in
    let all : records_of (length (front ++ back)) ≡ k + m = omega (arith, length-append front back) in
    let long : 16 * k ≡ length front = omega arith in
    rw all (ap file_text (lines_join k m at front back (sym long)) ∙ file_append (lines_from k at front) (lines_from m (at + 16 * k) back) ∙ rw long refl)

whole_text : (image : List ℕ) → canonical_text image ≡ part_text 0 image ++ record_text end_line
unfolding file_text
whole_text image = file_append (part_lines 0 image) (end_line ∷ []) ∙ ap (λ (l : List ℕ). part_text 0 image ++ l) (append-nil (record_text end_line))

pub in_parts : InParts
in_parts = record { join = parts_join; whole = whole_text }
