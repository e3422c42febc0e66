-- A run on a chip that obeys, by its bytes: what stands on the chip when the orders before a phase's index have been obeyed, and that each order brings it further.
use Prim.Native.Nat.{ℕ, ◌+◌, ◌-◌, ◌*◌, ◌/◌, ◌%◌, ◌<◌, ◌≤◌}
use mathlib.Core.Path.{◌≡◌, sym, ap, ◌∙◌}
use mathlib.Core.Logic.{⊎_elim}
use mathlib.Core.Bool.{true}
use mathlib.Core.List.{List}
use native.Mathlib.Omega.{arith}
use lib.ListN.{length, get_or, get_or-eq_default}
use lib.Seq.{ext_get_or}
use Rattle.kind.specs.Layout.{page, segment, switch_at}
use Rattle.flash.specs.Flash.{erased}
use Rattle.kind.specs.Kind.{Kind}
use Rattle.chip.specs.Chip.{switch_word, Lawful}
use Rattle.life.specs.Types.{Layout}
use Rattle.flash.proofs.Laws.{get_d_any, span_at, span_length, erased_length, erased_at}
use Rattle.kind.proofs.Laws.{update_place_range, update_length_range}
use Rattle.orders.specs.Table.{by_phase, pages, count}
use Rattle.orders.specs.Orders.{erase, program, page_of, order_of}
use Rattle.comparison.specs.Comparison.{padded}
use Rattle.effects.specs.Effects.{leaves, obeyed, Bytes}
use Rattle.orders.proofs.Laws.{phases, area_segments, image_pages, area_pages, page_at_law, page_length}
use Rattle.updater.proofs.Laws.{Numbers, numbers_image}
use Rattle.comparison.proofs.Laws.{padded_at, padded_length}
use Rattle.effects.proofs.Laws.{Blank}
use Rattle.life.proofs.ObeyLaws.{Obeys, erase_obeys, erase_before, erase_inside, program_obeys, program_before, program_inside, program_after, look_obeys}
use Rattle.base.proofs.Laws.{below_or_not}

-- HOW FAR A CHIP IS when the orders before a phase's index have been obeyed:
--   1 to 5  segment 0 is FF; and
--   2       the segments before the index
--   3       the image's pages before the index stand in the update area, FF after them
--   4       the image, then FF to the end
--   6, 7    the switch is ON
abbrev Cleared : Layout → List ℕ → ℕ → Type 0
Cleared layout chip upto = (j : ℕ) → j < upto → get_or chip (layout.update_place + j) 0 ≡ 0xFF

abbrev Written : Layout → List ℕ → List ℕ → ℕ → Type 0
Written layout image chip upto =
    ((j : ℕ) → j < layout.update_length → j < upto → get_or chip (layout.update_place + j) 0 ≡ get_or image j 0xFF) ×
    ((j : ℕ) → j < layout.update_length → upto ≤ j → get_or chip (layout.update_place + j) 0 ≡ 0xFF)

abbrev Whole : Layout → List ℕ → List ℕ → Type 0
Whole layout image chip = (j : ℕ) → j < layout.update_length → get_or chip (layout.update_place + j) 0 ≡ get_or image j 0xFF

abbrev On : Kind → List ℕ → Type 0
On kind chip = (j : ℕ) → j < 4 → get_or chip (switch_at + j) 0 ≡ get_or kind.on j 0

unfoldable pub Progress : Kind → Layout → List ℕ → ℕ → ℕ → List ℕ → Type 0
Progress kind layout image phase i chip =
    by_phase phase
    (Unit {0})
    (Blank chip)
    (Blank chip × Cleared layout chip (segment * i))
    (Blank chip × Written layout image chip (page * i))
    (Blank chip × Whole layout image chip)
    (Blank chip)
    (On kind chip)
    (On kind chip)

-- An order that obeys brings the chip to its phase's next index, or to the next phase if it was the last.
pub record Advances (kind : Kind) (layout : Layout) (image : List ℕ) (phase i : ℕ) (chip : List ℕ) : Type 0 where
  pub obeys : Obeys (order_of kind layout image phase i) chip
  pub further : i + 1 < count layout (length image) phase → Progress kind layout image phase (i + 1) (obeyed (order_of kind layout image phase i) chip)
  pub last : count layout (length image) phase ≤ i + 1 → Progress kind layout image (phase + 1) 0 (obeyed (order_of kind layout image phase i) chip)

module _ (kind : Kind) (lawful : Lawful kind) (layout : Layout) (image : List ℕ) (numbers : Numbers layout (length image)) (bytes : Bytes image) where
  update_length : (layout.update_length % 4096 ≡ 0) × (4096 ≤ layout.update_length) × (layout.update_place + layout.update_length ≤ layout.chip_length)
  update_length = update_length_range layout.chip_length layout.update_place layout.update_length numbers.spans

  update_place : 12288 ≤ layout.update_place
  update_place = (update_place_range layout.chip_length layout.update_place numbers.starts).1

  short : length image ≤ layout.update_length
  short = (numbers_image layout (length image) numbers).1

  -- the places of the update area's segments and pages
  abbrev segment_at : ℕ → ℕ
  segment_at i = layout.update_place + segment * i

  abbrev page_at : ℕ → ℕ
  page_at i = layout.update_place + page * i

  -- a chip that has obeyed the program of a page
  abbrev page_written : ℕ → List ℕ → List ℕ
  page_written i chip = obeyed (program (page_at i) (page_of image i)) chip

  -- One phase: each of its orders advances.
  unfoldable pub Step : ℕ → Type 0
  Step phase = (i : ℕ) → i < count layout (length image) phase → (chip : List ℕ) → length chip ≡ layout.chip_length → Progress kind layout image phase i chip → Advances kind layout image phase i chip

  step_0 : Step 0
  unfolding Step Progress order_of by_phase count
  step_0 i h chip l p =
      let a = update_length in
      let fits : 0 + segment ≤ length chip = omega arith in
      record {
        obeys = erase_obeys chip 0 segment fits;
        further = λ k. absurd (omega arith);
        last = λ k j m. erase_inside chip 0 segment fits j (omega arith) (omega arith);
      }

  step_1 : Step 1
  unfolding Step Progress order_of by_phase count leaves
  step_1 i h chip l p =
      let a = update_length in
      let b : i < 16 = h in
      let e = erased_length page in
      record {
        obeys = look_obeys chip (page * i) (erased page) (omega arith) (λ j m. p (page * i + j) (omega arith) ∙ sym (erased_at page j (omega arith)));
        further = λ k. p;
        last = λ k. (p, λ j m. absurd (omega arith));
      }

  step_2 : Step 2
  unfolding Step Progress order_of by_phase count
  step_2 i h chip l p = record {
    obeys = erase_obeys chip (segment_at i) segment fits;
    further = λ k. (blank, λ j m. cleared_on j (omega arith));
    last = λ k.
        let c : layout.update_length / segment ≤ i + 1 = k in
        let a = update_length in
        (blank, (λ j m n. absurd (omega arith), λ j m n. cleared_on j (omega arith)));
  }
    where
      fits : segment_at i + segment ≤ length chip
      fits = let a = update_length in let s = area_segments layout (length image) i h in omega arith

      blank : Blank (obeyed (erase (segment_at i) segment) chip)
      blank j m = erase_before chip (segment_at i) segment fits j (let u = update_place in omega arith) ∙ p.0 j m

      cleared_on : Cleared layout (obeyed (erase (segment_at i) segment) chip) (segment * i + segment)
      cleared_on j m =
          ⊎_elim
          (λ n. erase_before chip (segment_at i) segment fits (layout.update_place + j) (omega arith) ∙ p.1 j n)
          (λ n. erase_inside chip (segment_at i) segment fits (layout.update_place + j) (omega arith) (omega arith))
          (below_or_not j (segment * i))

  step_3 : Step 3
  unfolding Step Progress order_of by_phase count
  step_3 i h chip l p = record {
    obeys = program_obeys chip (page_at i) (page_of image i) fits small;
    further = λ k. (blank, (λ j m n. written j m (omega arith), λ j m n. unwritten j m (omega arith)));
    last = λ k. (blank, λ j m. ⊎_elim (written j m) (λ n. all k j m n) (below_or_not j (page * i + page)));
  }
    where
      starts_in : page * i < length image
      starts_in = image_pages layout (length image) i h

      fits : page_at i + length (page_of image i) ≤ length chip
      fits = let a = update_length in let s = short in let q = page_length image i in omega (arith, starts_in)

      small : (j : ℕ) → j < length (page_of image i) → get_or (page_of image i) j 0 < 256
      small j m =
          let q = page_length image i in
          rw (page_at_law image i j 0 (omega arith)) (bytes (page * i + j) (omega arith))

      blank : Blank (page_written i chip)
      blank j m = program_before chip (page_at i) (page_of image i) fits small j (let u = update_place in omega arith) ∙ p.0 j m

      unwritten : (j : ℕ) → j < layout.update_length → page * i + page ≤ j → get_or (page_written i chip) (layout.update_place + j) 0 ≡ 0xFF
      unwritten j m n = program_after chip (page_at i) (page_of image i) fits small (layout.update_place + j) (let q = page_length image i in omega arith) ∙ p.1.1 j m (omega arith)

      within_page : (j : ℕ) → j < layout.update_length → page * i ≤ j → j < page * i + page → get_or (page_written i chip) (layout.update_place + j) 0 ≡ get_or image j 0xFF
      within_page j m a b = ⊎_elim inside beyond (below_or_not (j - page * i) (length (page_of image i)))
        where
          inside : j - page * i < length (page_of image i) → get_or (page_written i chip) (layout.update_place + j) 0 ≡ get_or image j 0xFF
          inside n =
              let q = page_length image i in
              let e : layout.update_place + j ≡ page_at i + (j - page * i) = omega arith in
              let f : page * i + (j - page * i) ≡ j = omega arith in
              ap (λ (k : ℕ). get_or (page_written i chip) k 0) e
              ∙ program_inside chip (page_at i) (page_of image i) fits small (j - page * i) n (ap (λ (k : ℕ). get_or chip k 0) (sym e) ∙ p.1.1 j m a)
              ∙ page_at_law image i (j - page * i) 0 (omega arith)
              ∙ ap (λ (k : ℕ). get_or image k 0) f
              ∙ get_d_any image j 0 0xFF (omega arith)

          beyond : length (page_of image i) ≤ j - page * i → get_or (page_written i chip) (layout.update_place + j) 0 ≡ get_or image j 0xFF
          beyond n =
              let q = page_length image i in
              program_after chip (page_at i) (page_of image i) fits small (layout.update_place + j) (omega arith)
              ∙ p.1.1 j m a
              ∙ sym (get_or-eq_default image 0xFF {n = j} (omega arith))

      written : (j : ℕ) → j < layout.update_length → j < page * i + page → get_or (page_written i chip) (layout.update_place + j) 0 ≡ get_or image j 0xFF
      written j m n =
          ⊎_elim
          (λ b. program_before chip (page_at i) (page_of image i) fits small (layout.update_place + j) (omega arith) ∙ p.1.0 j m b)
          (λ b. within_page j m b n)
          (below_or_not j (page * i))

      all : pages (length image) ≤ i + 1 → (j : ℕ) → j < layout.update_length → page * i + page ≤ j → get_or (page_written i chip) (layout.update_place + j) 0 ≡ get_or image j 0xFF
      all k j m n = unwritten j m n ∙ sym (get_or-eq_default image 0xFF {n = j} (omega arith))

  step_4 : Step 4
  unfolding Step Progress order_of by_phase count leaves
  step_4 i h chip l p =
      let a = update_length in
      let s = area_pages layout (length image) i h in
      let q = page_length image i in
      let f = padded_length page (page_of image i) (omega arith) in
      record {
        obeys = look_obeys chip (page_at i) (padded page (page_of image i)) (omega arith) (λ j m.
            let e : page_at i + j ≡ layout.update_place + (page * i + j) = omega arith in
            ap (λ (k : ℕ). get_or chip k 0) e ∙ p.1 (page * i + j) (omega arith) ∙ sym (padded_at page (page_of image i) j (omega arith) ∙ page_at_law image i j 0xFF (omega arith)));
        further = λ k. p;
        last = λ k. p.0;
      }

  step_5 : Step 5
  unfolding Step Progress order_of by_phase count
  step_5 i h chip l p =
      let a = update_length in
      let four = lawful.four in
      let fits : switch_at + length kind.on ≤ length chip = omega arith in
      let small : (j : ℕ) → j < length kind.on → get_or kind.on j 0 < 256 = λ j m. lawful.byte j (omega arith) in
      record {
        obeys = program_obeys chip switch_at kind.on fits small;
        further = λ k. absurd (omega arith);
        last = λ k j m. program_inside chip switch_at kind.on fits small j (omega arith) (p (switch_at + j) (omega arith));
      }

  step_6 : Step 6
  unfolding Step Progress order_of by_phase count leaves
  step_6 i h chip l p =
      let a = update_length in
      let four = lawful.four in
      record {
        obeys = look_obeys chip switch_at kind.on (omega arith) (λ j m. p j (omega arith));
        further = λ k. p;
        last = λ k. p;
      }

  -- Each order advances.
  pub advances : (phase : ℕ) → phase < 7 → Step phase
  advances = phases Step step_0 step_1 step_2 step_3 step_4 step_5 step_6

  -- A chip that has come to the end is ON.
  pub ends_on : (chip : List ℕ) → length chip ≡ layout.chip_length → Progress kind layout image 7 0 chip → kind.is_on (switch_word chip) ≡ true
  unfolding Progress by_phase
  ends_on chip l p =
      let a = update_length in
      let n : length (switch_word chip) ≡ 4 = span_length chip switch_at 4 (omega arith) in
      let e : switch_word chip ≡ kind.on = ext_get_or 0 (switch_word chip) kind.on (n ∙ sym lawful.four) (λ j h. span_at chip switch_at 4 j (omega arith) ∙ p j (omega arith)) in
      ap kind.is_on e ∙ lawful.on_on
