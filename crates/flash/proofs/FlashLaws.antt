-- Laws of bytes in their places: a span of a chip, and a chip with other bytes over a span.
use Prim.Native.Nat.{ℕ, zero, suc, ◌+◌, ◌-◌, ◌<◌, ◌≤◌}
use mathlib.Core.Path.{◌≡◌, refl, sym, ap, ◌∙◌}
use mathlib.Core.List.{List, [], ◌∷◌, ◌++◌, append_assoc, append-nil}
use native.Mathlib.Nat.{zero-add}
use native.Mathlib.Omega.{arith}
use mathlib.Core.Bool.{Bool, true, false}
use borrow.Author.Tests.{le-leb, leb-true}
use lib.Dec.{leb}
use lib.Bits.{bit_and}
use lib.ListN.{length, get_or, take, drop, length-append, length-replicate, get_or-replicate, length-drop, drop_of_length-le, get_or-append}
use lib.Seq.{paste, take_all, take-length, drop-drop, length-take-le, get_or-take, get_or-drop, get_or-append-add, take-append-le, drop-append-le, drop-append-add, take_at}
use Rattle.std.specs.Prelude.{Result, Ok, Err}
use Rattle.base.specs.Question.{ask}
use Rattle.base.specs.Refusal.{refused}
use Rattle.base.specs.Output.{front_filled}
use Rattle.base.proofs.Laws.{front_fits}
use Rattle.flash.specs.Flash.{erased, span, overwrite, overwrite_in_range, flash_answer, cleared}
use Rattle.flash.specs.Types.{NoRoom, Refusal}

pub span_at : (chip : List ℕ) (place count i : ℕ) → i < count → get_or (span chip place count) i 0 ≡ get_or chip (place + i) 0
span_at chip place count i h = get_or-take count (drop place chip) i 0 h ∙ get_or-drop place chip i 0

pub span_length : (chip : List ℕ) (place count : ℕ) → place + count ≤ length chip → length (span chip place count) ≡ count
span_length chip place count h = length-take-le count (drop place chip) (simp length-drop (omega arith))

-- inside a list it does not matter what is read outside
pub get_d_any : (l : List ℕ) (i d e : ℕ) → i < length l → get_or l i d ≡ get_or l i e
get_d_any [] i d e h = absurd (omega arith)
get_d_any (x ∷ l) zero d e h = refl
get_d_any (x ∷ l) (suc i) d e h = get_d_any l i d e (omega arith)

module _ (chip : List ℕ) (place : ℕ) (bytes : List ℕ) (fits : place + length bytes ≤ length chip) where
  front : length (take place chip) ≡ place
  front = length-take-le place chip (omega arith)

  pub overwrite_length : length (overwrite chip place bytes) ≡ length chip
  overwrite_length =
      length-append (take place chip) (bytes ++ drop (place + length bytes) chip)
      ∙ rw (front, length-append bytes (drop (place + length bytes) chip), length-drop (place + length bytes) chip) (omega arith)

  pub overwrite_before : (i d : ℕ) → i < place → get_or (overwrite chip place bytes) i d ≡ get_or chip i d
  overwrite_before i d h =
      get_or-append (take place chip) (bytes ++ drop (place + length bytes) chip) d i (rw front h)
      ∙ get_or-take place chip i d h

  rest_at : (i d : ℕ) → get_or (overwrite chip place bytes) (place + i) d ≡ get_or (bytes ++ drop (place + length bytes) chip) i d
  rest_at i d = rw front at (get_or-append-add (take place chip) (bytes ++ drop (place + length bytes) chip) i d)

  pub overwrite_inside : (i d : ℕ) → i < length bytes → get_or (overwrite chip place bytes) (place + i) d ≡ get_or bytes i d
  overwrite_inside i d h = rest_at i d ∙ get_or-append bytes (drop (place + length bytes) chip) d i h

  pub overwrite_after : (i d : ℕ) → place + length bytes ≤ i → get_or (overwrite chip place bytes) i d ≡ get_or chip i d
  overwrite_after i d h =
      let k : ℕ = i - place - length bytes in
      let e : i ≡ place + (length bytes + k) = omega arith in
      let f : place + length bytes + k ≡ place + (length bytes + k) = omega arith in
      ap (λ (n : ℕ). get_or (overwrite chip place bytes) n d) e
      ∙ rest_at (length bytes + k) d
      ∙ get_or-append-add bytes (drop (place + length bytes) chip) k d
      ∙ get_or-drop (place + length bytes) chip k d
      ∙ ap (λ (n : ℕ). get_or chip n d) (f ∙ sym e)

  -- what stands after the chip is not touched
  pub overwrite_append : (more : List ℕ) → overwrite (chip ++ more) place bytes ≡ overwrite chip place bytes ++ more
  overwrite_append more =
      rw (take-append-le place chip more (omega arith), drop-append-le (place + length bytes) chip more fits)
      (ap (λ (l : List ℕ). take place chip ++ l) (sym (append_assoc bytes (drop (place + length bytes) chip) more))
      ∙ sym (append_assoc (take place chip) (bytes ++ drop (place + length bytes) chip) more))

-- Bytes stored one by one stand over what was there;
pub paste_over : (chip : List ℕ) (place : ℕ) (bytes : List ℕ) → paste chip place bytes (length bytes) ≡ overwrite chip place bytes
paste_over chip place bytes = rw (take-length bytes) (append_assoc (take place chip) bytes (drop (place + length bytes) chip))

-- so do bytes copied to the front of what lies from the place on.
pub front_over : (chip : List ℕ) (place : ℕ) (bytes after : List ℕ) → after ≡ take (length bytes) bytes ++ drop (length bytes) (take (length chip - place) (drop place chip)) →
    take place chip ++ (after ++ drop (length chip - place) (drop place chip)) ≡ overwrite chip place bytes
front_over chip place bytes after e =
    let n : length (drop place chip) ≡ length chip - place = length-drop place chip in
    let all : take (length chip - place) (drop place chip) ≡ drop place chip = take_all (length chip - place) (drop place chip) (omega arith) in
    let none : drop (length chip - place) (drop place chip) ≡ [] = drop_of_length-le (drop place chip) {i = length chip - place} (omega arith) in
    let part : after ≡ bytes ++ drop (place + length bytes) chip = e ∙ rw (all, take-length bytes, drop-drop (length bytes) place chip) refl in
    ap (λ (l : List ℕ). take place chip ++ l) (rw none (append-nil after) ∙ part)

-- Where the span lies within the chip, its bytes are the new ones.
pub in_range : (chip : List ℕ) (place count : ℕ) (bytes : List ℕ) → place + count ≤ length chip → overwrite_in_range chip place count bytes ≡ overwrite chip place bytes
unfolding overwrite_in_range ask
in_range chip place count bytes h = rw (le-leb (place + count) (length chip) h) refl

-- So do bytes that take a part's place.
pub part_over : (chip : List ℕ) (place count : ℕ) (bytes part : List ℕ) → place + count ≤ length chip → length bytes ≡ count → part ≡ bytes →
    take place chip ++ (part ++ drop (place + count - place) (drop place chip)) ≡ overwrite_in_range chip place count bytes
part_over chip place count bytes part fits long e =
    let n : place + count - place ≡ length bytes = omega arith in
    rw e (ap (λ (l : List ℕ). take place chip ++ (bytes ++ l)) (ap (λ (k : ℕ). drop k (drop place chip)) n ∙ drop-drop (length bytes) place chip))
    ∙ sym (in_range chip place count bytes fits)

-- Output that is written part after part: the next part stands after those that fill the front.
pub front_on : (done buffer : List ℕ) (place count : ℕ) (bytes : List ℕ) → length done ≡ place → length bytes ≡ count → place + count ≤ length buffer →
    overwrite_in_range (front_filled done buffer) place count bytes ≡ front_filled (done ++ bytes) buffer
front_on done buffer place count bytes here long fits =
    ap (λ (l : List ℕ). overwrite_in_range l place count bytes) (front_fits done buffer (omega arith))
    ∙ in_range (done ++ rest) place count bytes (let n = length-append done rest in let m = length-drop (length done) buffer in omega arith)
    ∙ rw (take_at done rest place here) (ap (λ (l : List ℕ). done ++ (bytes ++ l)) after)
    ∙ sym (append_assoc done bytes (drop (length (done ++ bytes)) buffer))
    ∙ sym (front_fits (done ++ bytes) buffer (let n = length-append done bytes in omega arith))
  where
    rest : List ℕ
    rest = drop (length done) buffer

    after : drop (place + length bytes) (done ++ rest) ≡ drop (length (done ++ bytes)) buffer
    after =
        ap (λ (n : ℕ). drop (n + length bytes) (done ++ rest)) (sym here)
        ∙ drop-append-add done rest (length bytes)
        ∙ drop-drop (length bytes) (length done) buffer
        ∙ ap (λ (n : ℕ). drop n buffer) (sym (length-append done bytes))

-- Bytes over the beginning of what fills the front: the rest of it stays.
pub front_again : (done buffer : List ℕ) (count : ℕ) (bytes : List ℕ) → length bytes ≡ count → count ≤ length done → length done ≤ length buffer →
    overwrite_in_range (front_filled done buffer) 0 count bytes ≡ front_filled (bytes ++ drop count done) buffer
front_again done buffer count bytes long within fits =
    ap (λ (l : List ℕ). overwrite_in_range l 0 count bytes) (front_fits done buffer fits)
    ∙ in_range (done ++ rest) 0 count bytes (let n = length-append done rest in omega arith)
    ∙ ap (λ (l : List ℕ). bytes ++ l) (ap (λ (n : ℕ). drop n (done ++ rest)) (zero-add (length bytes) ∙ long) ∙ drop-append-le count done rest within)
    ∙ sym (append_assoc bytes (drop count done) rest)
    ∙ ap (λ (n : ℕ). (bytes ++ drop count done) ++ drop n buffer) (sym same)
    ∙ sym (front_fits (bytes ++ drop count done) buffer (omega (arith, same)))
  where
    rest : List ℕ
    rest = drop (length done) buffer

    same : length (bytes ++ drop count done) ≡ length done
    same = length-append bytes (drop count done) ∙ let n = length-drop count done in omega arith

-- What an erase and a program leave, byte by byte.
pub erased_length : (count : ℕ) → length (erased count) ≡ count
erased_length count = length-replicate {A = ℕ} count 0xFF

pub cleared_length : (old bytes : List ℕ) → length old ≡ length bytes → length (cleared old bytes) ≡ length bytes
unfolding cleared
cleared_length [] [] e = refl
cleared_length [] (b ∷ bytes) e = absurd (omega arith)
cleared_length (o ∷ old) [] e = absurd (omega arith)
cleared_length (o ∷ old) (b ∷ bytes) e = ap suc (cleared_length old bytes (omega arith))

pub cleared_at : (old bytes : List ℕ) (i : ℕ) → length old ≡ length bytes → i < length bytes → get_or (cleared old bytes) i 0 ≡ bit_and (get_or old i 0) (get_or bytes i 0)
unfolding cleared
cleared_at [] bytes i e h = absurd (omega arith)
cleared_at (o ∷ old) [] i e h = absurd (omega arith)
cleared_at (o ∷ old) (b ∷ bytes) zero e h = refl
cleared_at (o ∷ old) (b ∷ bytes) (suc i) e h = cleared_at old bytes i (omega arith) (omega arith)

-- FF stands at every place of an erased span.
pub erased_at : (count i : ℕ) → i < count → get_or (erased count) i 0 ≡ 0xFF
erased_at count i h = get_or-replicate count i 0xFF 0 h

-- a span's answer: done, or refused
abbrev pub yes : Result (Unit {0}) Refusal
yes = Ok tt

abbrev pub no : Result (Unit {0}) Refusal
no = refused NoRoom 0

-- A span that is not refused lies within the chip,
pub room : (chip_length place count : ℕ) → flash_answer chip_length place count ≡ yes → place + count ≤ chip_length
unfolding flash_answer ask
room chip_length place count e = go (leb (place + count) chip_length) refl e
  where
    go : (b : Bool) → leb (place + count) chip_length ≡ b → ask b no yes ≡ yes → place + count ≤ chip_length
    go true p q = leb-true (place + count) chip_length p
    go false p q = let z : ◌≡◌ {A = ℕ} 0 1 = cc in absurd (omega arith)

-- and where one is refused the chip stays.
pub stays : (chip : List ℕ) (place count : ℕ) (bytes : List ℕ) (r : Refusal) → flash_answer (length chip) place count ≡ Err r → chip ≡ overwrite_in_range chip place count bytes
unfolding flash_answer overwrite_in_range ask
stays chip place count bytes r e = go (leb (place + count) (length chip)) e
  where
    go : (b : Bool) → ask b no yes ≡ Err r → chip ≡ ask b chip (overwrite chip place bytes)
    go true q = let z : ◌≡◌ {A = ℕ} 0 1 = cc in absurd (omega arith)
    go false q = refl
