-- A well-formed chip stays so whatever an order may leave: an erase of segment 0, a program of the switch word, anything in the update area. Of any kind.
use Prim.Native.Nat.{ℕ, ◌+◌, ◌-◌, ◌<◌, ◌≤◌, min}
use mathlib.Core.Path.{◌≡◌, refl, sym, ap, subst, ◌∙◌}
use mathlib.Core.Logic.{◌⊎◌, inl, inr, ⊎_elim}
use mathlib.Core.List.{List}
use native.Mathlib.Omega.{arith}
use native.Mathlib.Nat.{zero-add}
use lib.Bits.{bit_and}
use lib.ListN.{length, get_or, get_or-replicate}
use lib.Seq.{ext_get_or}
use Rattle.kind.proofs.Laws.{chip_length_range, update_place_range}
use Rattle.kind.specs.Layout.{segment, switch_at, golden_at}
use Rattle.flash.specs.Flash.{erased, span, overwrite, cleared, after_program, bit}
use Rattle.chip.specs.Cut.{MayLeave}
use Rattle.kind.specs.Kind.{Kind}
use Rattle.chip.specs.Chip.{switch_word, golden_area, BitSuperset, LoadsAlone, WellFormed}
use Rattle.flash.proofs.Laws.{erased_length, cleared_length, cleared_at, span_at, span_length, overwrite_length, overwrite_before, overwrite_inside, overwrite_after, same_bits, all_ones, bit_most, bit_and_law}
use Rattle.chip.proofs.SwitchLaws.{word_at_law}

-- What an obeying chip would hold may be left, and so may what stood there.
pub obeyed_may : (chip : List ℕ) (place : ℕ) (obeyed : List ℕ) → ((i : ℕ) → i < length obeyed → get_or obeyed i 0 < 256) → MayLeave chip place obeyed obeyed
obeyed_may chip place obeyed bytes = record { fills = refl; bytes = bytes; mixed = λ low i h n m. inr refl }

pub old_may : (chip : List ℕ) (place : ℕ) (obeyed : List ℕ) → place + length obeyed ≤ length chip → ((i : ℕ) → i < length chip → get_or chip i 0 < 256) → MayLeave chip place obeyed (span chip place (length obeyed))
old_may chip place obeyed fits bytes = record {
  fills = span_length chip place (length obeyed) fits;
  bytes = λ i h.
      let e = span_length chip place (length obeyed) fits in
      rw (span_at chip place (length obeyed) i (omega arith)) (bytes (place + i) (omega arith));
  mixed = λ low i h n m. inl refl;
}

module _ (kind : Kind) (update_place : ℕ) (chip : List ℕ) (formed : WellFormed kind update_place chip) where
  long : 16384 ≤ length chip
  long = (chip_length_range (length chip) formed.long).0

  room : (12288 ≤ update_place) × (update_place < length chip)
  room = let u = update_place_range (length chip) update_place formed.room in (u.1, u.2)

  -- what a program of ON finds
  abbrev on_span : List ℕ
  on_span = span chip switch_at (length kind.on)

  -- The golden area lies between segment 1 and the update area.
  pub golden_stays : (after : List ℕ) → length after ≡ length chip → ((i : ℕ) → segment ≤ i → i < update_place → get_or after i 0 ≡ get_or chip i 0) → golden_area update_place after ≡ golden_area update_place chip
  golden_stays after e same =
      let r = room in
      let a : length (golden_area update_place after) ≡ update_place - golden_at = span_length after golden_at (update_place - golden_at) (omega arith) in
      let b : length (golden_area update_place chip) ≡ update_place - golden_at = span_length chip golden_at (update_place - golden_at) (omega arith) in
      ext_get_or 0 (golden_area update_place after) (golden_area update_place chip) (a ∙ sym b)
      (λ i h.
      span_at after golden_at (update_place - golden_at) i (omega arith)
      ∙ same (golden_at + i) (omega arith) (omega arith)
      ∙ sym (span_at chip golden_at (update_place - golden_at) i (omega arith)))

  -- What makes a chip well-formed lies below the update area.
  stays_well_formed : (after : List ℕ) → length after ≡ length chip → ((i : ℕ) → i < switch_at → get_or after i 0 ≡ 0xFF) → BitSuperset (switch_word after) kind.on →
      ((i : ℕ) → segment ≤ i → i < update_place → get_or after i 0 ≡ get_or chip i 0) → WellFormed kind update_place after
  stays_well_formed after e blank covers same = record {
    long = rw e formed.long;
    room = rw e formed.room;
    blank = blank;
    switch = covers;
    words = λ i h. same (segment + i) (omega arith) (let r = room in omega arith) ∙ formed.words i h;
    golden = subst (LoadsAlone kind) (sym (golden_stays after e same)) formed.golden;
  }

  -- An erase of segment 0 only raises bits of the switch word.
  pub erase_well_formed : (new : List ℕ) → MayLeave chip 0 (erased segment) new → WellFormed kind update_place (overwrite chip 0 new) × BitSuperset (switch_word (overwrite chip 0 new)) (switch_word chip)
  erase_well_formed new may = (stays_well_formed (overwrite chip 0 new) (overwrite_length chip 0 new fits) blank (covers kind.on formed.switch.has) outside, covers (switch_word chip) (λ j h n m. omega arith))
    where
      all : length new ≡ segment
      all = may.fills ∙ erased_length segment

      fits : 0 + length new ≤ length chip
      fits = let l = long in omega (arith, all)

      inside : (i : ℕ) → i < segment → get_or (overwrite chip 0 new) i 0 ≡ get_or new i 0
      inside i h = rw (zero-add i) at (overwrite_inside chip 0 new fits i 0 (omega (arith, all)))

      -- each bit is old, or 1
      old_or_one : (i : ℕ) → i < segment → (n : ℕ) → n < 8 → (bit n (get_or new i 0) ≡ bit n (get_or chip i 0)) ⊎ (bit n (get_or new i 0) ≡ 1)
      old_or_one i h n m =
          let old : get_or (span chip 0 (length (erased segment))) i 0 ≡ get_or chip i 0 =
          rw (zero-add i) at (span_at chip 0 (length (erased segment)) i (let e = erased_length segment in omega arith)) in
          let one : bit n (get_or (erased segment) i 0) ≡ 1 = ap (bit n) (get_or-replicate segment i 0xFF 0 h) ∙ all_ones 8 n m in
          ⊎_elim (λ e. inl (e ∙ ap (bit n) old)) (λ e. inr (e ∙ one)) (may.mixed (omega arith) i (omega (arith, all)) n m)

      blank : (i : ℕ) → i < switch_at → get_or (overwrite chip 0 new) i 0 ≡ 0xFF
      blank i h =
          inside i (omega arith)
          ∙ same_bits 8 (get_or new i 0) 0xFF (may.bytes i (omega (arith, all))) (omega arith)
          (λ n m.
          let one : bit n 0xFF ≡ 1 = all_ones 8 n m in
          ⊎_elim (λ e. e ∙ ap (bit n) (formed.blank i h)) (λ e. e ∙ sym one) (old_or_one i (omega arith) n m))

      word : (j : ℕ) → j < 4 → get_or (switch_word (overwrite chip 0 new)) j 0 ≡ get_or new (switch_at + j) 0
      word j h = word_at_law (overwrite chip 0 new) j h ∙ inside (switch_at + j) (omega arith)

      covers : (ones : List ℕ) → ((j : ℕ) → j < 4 → (n : ℕ) → n < 8 → bit n (get_or ones j 0) ≤ bit n (get_or (switch_word chip) j 0)) → BitSuperset (switch_word (overwrite chip 0 new)) ones
      covers ones below = record {
        whole = span_length (overwrite chip 0 new) switch_at 4 (let e = overwrite_length chip 0 new fits in let l = long in omega arith);
        bytes = λ j h. rw (word j h) (may.bytes (switch_at + j) (omega (arith, all)));
        has = λ j h n m.
            let b : bit n (get_or ones j 0) ≤ bit n (get_or chip (switch_at + j) 0) = rw (word_at_law chip j h) at (below j h n m) in
            let c = bit_most n (get_or ones j 0) in
            rw (word j h) (⊎_elim (λ e. omega arith) (λ e. omega arith) (old_or_one (switch_at + j) (omega arith) n m));
      }

      outside : (i : ℕ) → segment ≤ i → i < update_place → get_or (overwrite chip 0 new) i 0 ≡ get_or chip i 0
      outside i a b = overwrite_after chip 0 new fits i 0 (omega (arith, all))

  -- A program of ON keeps every 1 bit of ON in the switch word.
  pub program_well_formed : length kind.on ≡ 4 → (new : List ℕ) → MayLeave chip switch_at (after_program chip switch_at kind.on) new → WellFormed kind update_place (overwrite chip switch_at new)
  program_well_formed four new may = stays_well_formed (overwrite chip switch_at new) (overwrite_length chip switch_at new fits) blank covers outside
    where
      old_length : length on_span ≡ length kind.on
      old_length = span_length chip switch_at (length kind.on) (let l = long in omega arith)

      all : length new ≡ 4
      all = may.fills ∙ cleared_length on_span kind.on old_length ∙ four

      fits : switch_at + length new ≤ length chip
      fits = let l = long in omega (arith, all)

      blank : (i : ℕ) → i < switch_at → get_or (overwrite chip switch_at new) i 0 ≡ 0xFF
      blank i h = overwrite_before chip switch_at new fits i 0 h ∙ formed.blank i h

      outside : (i : ℕ) → segment ≤ i → i < update_place → get_or (overwrite chip switch_at new) i 0 ≡ get_or chip i 0
      outside i a b = overwrite_after chip switch_at new fits i 0 (omega (arith, all))

      word : (j : ℕ) → j < 4 → get_or (switch_word (overwrite chip switch_at new)) j 0 ≡ get_or new j 0
      word j h = word_at_law (overwrite chip switch_at new) j h ∙ overwrite_inside chip switch_at new fits j 0 (omega (arith, all))

      -- each bit is old, or old and ON's
      has : (j : ℕ) → j < 4 → (n : ℕ) → n < 8 → bit n (get_or kind.on j 0) ≤ bit n (get_or new j 0)
      has j h n m =
          let below : bit n (get_or kind.on j 0) ≤ bit n (get_or chip (switch_at + j) 0) = rw (word_at_law chip j h) at (formed.switch.has j h n m) in
          let old : get_or on_span j 0 ≡ get_or chip (switch_at + j) 0 = span_at chip switch_at (length kind.on) j (omega arith) in
          let long_obeyed : length (cleared on_span kind.on) ≡ 4 = cleared_length on_span kind.on old_length ∙ four in
          let first : get_or (span chip switch_at (length (cleared on_span kind.on))) j 0 ≡ get_or chip (switch_at + j) 0 = span_at chip switch_at (length (cleared on_span kind.on)) j (omega arith) in
          let and : bit n (get_or (cleared on_span kind.on) j 0) ≡ min (bit n (get_or chip (switch_at + j) 0)) (bit n (get_or kind.on j 0)) =
          ap (bit n) (cleared_at on_span kind.on j old_length (omega arith) ∙ ap (λ (x : ℕ). bit_and x (get_or kind.on j 0)) old)
          ∙ bit_and_law n (get_or chip (switch_at + j) 0) (get_or kind.on j 0) in
          ⊎_elim (λ e. let same = e ∙ ap (bit n) first in omega arith) (λ e. let same = e ∙ and in omega arith)
          (may.mixed (omega arith) j (omega (arith, all)) n m)

      covers : BitSuperset (switch_word (overwrite chip switch_at new)) kind.on
      covers = record {
        whole = span_length (overwrite chip switch_at new) switch_at 4 (let e = overwrite_length chip switch_at new fits in let l = long in omega arith);
        bytes = λ j h. rw (word j h) (may.bytes j (omega (arith, all)));
        has = λ j h n m. rw (word j h) (has j h n m);
      }

  -- Bytes in the update area, or after it, leave the switch word;
  pub area_switch : (place : ℕ) (new : List ℕ) → update_place ≤ place → place + length new ≤ length chip → switch_word (overwrite chip place new) ≡ switch_word chip
  area_switch place new far fits =
      let l = long in
      let n = overwrite_length chip place new fits in
      let a : length (switch_word (overwrite chip place new)) ≡ 4 = span_length (overwrite chip place new) switch_at 4 (omega arith) in
      let b : length (switch_word chip) ≡ 4 = span_length chip switch_at 4 (omega arith) in
      ext_get_or 0 (switch_word (overwrite chip place new)) (switch_word chip) (a ∙ sym b)
      (λ j h.
      word_at_law (overwrite chip place new) j (omega arith)
      ∙ overwrite_before chip place new fits (switch_at + j) 0 (let r = room in omega arith)
      ∙ sym (word_at_law chip j (omega arith)))

  -- and so anything may stand there.
  pub area_well_formed : (place : ℕ) (new : List ℕ) → update_place ≤ place → place + length new ≤ length chip → WellFormed kind update_place (overwrite chip place new)
  area_well_formed place new far fits = stays_well_formed (overwrite chip place new) (overwrite_length chip place new fits) blank covers outside
    where
      outside : (i : ℕ) → segment ≤ i → i < update_place → get_or (overwrite chip place new) i 0 ≡ get_or chip i 0
      outside i a b = overwrite_before chip place new fits i 0 (omega arith)

      blank : (i : ℕ) → i < switch_at → get_or (overwrite chip place new) i 0 ≡ 0xFF
      blank i h = overwrite_before chip place new fits i 0 (let r = room in omega arith) ∙ formed.blank i h

      covers : BitSuperset (switch_word (overwrite chip place new)) kind.on
      covers = subst (λ (w : List ℕ). BitSuperset w kind.on) (sym (area_switch place new far fits)) formed.switch
