-- Where a chip's update area begins, as its segment 1 says: a well-formed chip names its own U, and a U that is found is one that segment 1 begins with the words for.
use Prim.Native.Nat.{ℕ, zero, suc, ◌+◌, ◌^◌, ◌<◌, ◌≤◌}
use mathlib.Core.Path.{◌≡◌, refl, sym, ap, subst, ◌∙◌}
use mathlib.Core.Bool.{Bool, true, false}
use mathlib.Core.List.{List, [], ◌∷◌}
use native.Mathlib.Omega.{arith}
use lib.ListN.{length, get_or, drop, length-drop}
use lib.Seq.{get_or-drop}
use Rattle.std.specs.Prelude.{Result, Ok, Err, Option, Some, None}
use Rattle.base.specs.Refusal.{refused}
use Rattle.base.proofs.Laws.{asked, asked_yes}
use Rattle.framing.proofs.Laws.{starts_at, starts_all, starts_differs, word_of_law, bytes_word}
use Rattle.kind.specs.Layout.{chip_length_allowed, segment}
use Rattle.kind.specs.Spi.{spi, spi_warm_boot}
use Rattle.kind.proofs.Laws.{chip_length_range, update_place_range}
use Rattle.chip.specs.Chip.{WellFormed}
use Rattle.chip.specs.UpdatePlace.{named_place, begins_for, place_case, place_answer}
use Rattle.chip.specs.Theorems.{NamedPlace}
use Rattle.chip.specs.Types.{BadChipLength, Refusal}

words_length : (update_place : ℕ) → length (spi_warm_boot update_place) ≡ 20
unfolding spi_warm_boot
words_length update_place = refl

-- Segment 1 begins for U where the 20 bytes of its words stand, and nowhere else.
begins_for_law : (update_place : ℕ) (chip : List ℕ) → segment + 20 ≤ length chip → ((j : ℕ) → j < 20 → get_or chip (segment + j) 0 ≡ get_or (spi_warm_boot update_place) j 0) → begins_for spi update_place chip ≡ true
begins_for_law update_place chip long same =
    let e = words_length update_place in
    let d = length-drop segment chip in
    starts_all (spi_warm_boot update_place) (drop segment chip) (omega arith) (λ j h. get_or-drop segment chip j 0 ∙ same j (omega arith))

begins_not : (update_place : ℕ) (chip : List ℕ) (j : ℕ) → j < 20 → (get_or chip (segment + j) 0 ≡ get_or (spi_warm_boot update_place) j 0 → ⊥) → begins_for spi update_place chip ≡ false
begins_not update_place chip j h differs =
    let e = words_length update_place in
    starts_differs (spi_warm_boot update_place) (drop segment chip) j (omega arith) (λ same. differs (sym (get_or-drop segment chip j 0) ∙ same))

-- A chip with an allowed length is answered by whether its segment 1 begins for the U that it names.
place_case_law : (chip : List ℕ) (begins : Bool) → chip_length_allowed (length chip) ≡ true → begins_for spi (named_place chip) chip ≡ begins → place_answer spi chip ≡ place_case begins (named_place chip)
unfolding place_answer
place_case_law chip begins allowed e = asked_yes _ _ _ allowed ∙ ap (λ (b : Bool). place_case b (named_place chip)) e

pub place_found : (chip : List ℕ) → chip_length_allowed (length chip) ≡ true → ((j : ℕ) → j < 20 → get_or chip (segment + j) 0 ≡ get_or (spi_warm_boot (named_place chip)) j 0) → place_answer spi chip ≡ Ok (Some (named_place chip))
unfolding place_case
place_found chip allowed same = place_case_law chip true allowed (begins_for_law (named_place chip) chip (let l = chip_length_range _ allowed in omega arith) same)

pub place_nothing : (chip : List ℕ) (j : ℕ) → chip_length_allowed (length chip) ≡ true → j < 20 → (get_or chip (segment + j) 0 ≡ get_or (spi_warm_boot (named_place chip)) j 0 → ⊥) → place_answer spi chip ≡ Ok None
unfolding place_case
place_nothing chip j allowed h differs = place_case_law chip false allowed (begins_not (named_place chip) chip j h differs)

-- Where segment 1 begins for a U, that is the U that it names.
named : (update_place : ℕ) (chip : List ℕ) → update_place < 2 ^ 32 → segment + 20 ≤ length chip → begins_for spi update_place chip ≡ true → named_place chip ≡ update_place
unfolding spi_warm_boot
named update_place chip small long begins =
    word_of_law chip (segment + 4) (omega arith)
    ∙ rw (byte 4 (omega arith), byte 5 (omega arith), byte 6 (omega arith), byte 7 (omega arith)) (bytes_word update_place small)
  where
    byte : (j : ℕ) → j < 20 → get_or chip (segment + j) 0 ≡ get_or (spi_warm_boot update_place) j 0
    byte j h = sym (get_or-drop segment chip j 0) ∙ starts_at (spi_warm_boot update_place) (drop segment chip) begins j (let e = words_length update_place in omega arith)

every : (update_place : ℕ) (chip : List ℕ) → update_place < 2 ^ 32 → chip_length_allowed (length chip) ≡ true → begins_for spi update_place chip ≡ true → place_answer spi chip ≡ Ok (Some update_place)
unfolding place_case
every update_place chip small allowed begins =
    let e : named_place chip ≡ update_place = named update_place chip small (let l = chip_length_range _ allowed in omega arith) begins in
    place_case_law chip true allowed (rw e begins) ∙ ap (λ (u : ℕ). Ok (Some u)) e

-- what an answer tells that is a U
refused_found : (r : Refusal) (update_place : ℕ) → ◌≡◌ {A = Result (Option ℕ) Refusal} (Err r) (Ok (Some update_place)) → ⊥
refused_found r update_place e = let z : ◌≡◌ {A = ℕ} 0 1 = cc in absurd (omega arith)

found_case : (begins : Bool) (place update_place : ℕ) → place_case begins place ≡ Ok (Some update_place) → (begins ≡ true) × (place ≡ update_place)
unfolding place_case
found_case true place update_place e = (refl, cc)
found_case false place update_place e = let z : ◌≡◌ {A = ℕ} 0 1 = cc in absurd (omega arith)

found : (update_place : ℕ) (chip : List ℕ) → place_answer spi chip ≡ Ok (Some update_place) → begins_for spi update_place chip ≡ true
unfolding place_answer
found update_place chip e =
    let q = asked (chip_length_allowed (length chip)) (refused BadChipLength 0) (place_case (begins_for spi (named_place chip) chip) (named_place chip)) (Ok (Some update_place)) e (refused_found (record { reason = BadChipLength; place = 0 }) update_place) in
    let f = found_case (begins_for spi (named_place chip) chip) (named_place chip) update_place q.1 in
    subst (λ (u : ℕ). begins_for spi u chip ≡ true) f.1 f.0

-- What would be read after a list's end makes no difference within it.
within : (bytes : List ℕ) (i : ℕ) → i < length bytes → (a b : ℕ) → get_or bytes i a ≡ get_or bytes i b
within [] i h a b = absurd (omega arith)
within (byte ∷ bytes) zero h a b = refl
within (byte ∷ bytes) (suc i) h a b = within bytes i (omega arith) a b

well_formed : (update_place : ℕ) (chip : List ℕ) → WellFormed spi update_place chip → place_answer spi chip ≡ Ok (Some update_place)
well_formed update_place chip formed =
    let l = chip_length_range _ formed.long in
    let r = update_place_range _ _ formed.room in
    every update_place chip (omega arith) formed.long (begins_for_law update_place chip (omega arith) (λ j h. formed.words j (omega arith) ∙ within (spi_warm_boot update_place) j (let e = words_length update_place in omega arith) 0xFF 0))

pub named_place_law : NamedPlace
named_place_law = record { well_formed = well_formed; found = found; every = every }
