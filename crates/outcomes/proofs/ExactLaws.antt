-- The list is exactly what the chip's own rule of damage permits, on any chip whose switch word is the old one.
use Prim.Native.Nat.{ℕ, zero, suc, ◌+◌, ◌-◌, ◌*◌, ◌/◌, ◌%◌, ◌^◌, ◌<◌, ◌≤◌, min}
use mathlib.Core.Path.{◌≡◌, refl, sym, ap, ap₂, subst, ◌∙◌}
use mathlib.Core.Logic.{◌⊎◌, inl, inr, ⊎_elim}
use mathlib.Core.List.{List, [], ◌∷◌, ◌++◌}
use native.Mathlib.Nat.{div-one, zero-add}
use native.Mathlib.Omega.{arith}
use lib.Bits.{bit_and}
use lib.ListN.{length, get_or, take, drop, length-append, length-take, length-drop, get_or-append}
use lib.Pow.{shr-shr, field, mod-mod-pow}
use lib.Seq.{ext_get_or, length-take-le, get_or-take, get_or-append-add}
use Rattle.base.proofs.Laws.{below_or_not}
use Rattle.framing.specs.Words.{bytes_of}
use Rattle.framing.proofs.Laws.{word_of, word_bytes}
use Rattle.kind.specs.Layout.{segment, switch_at}
use Rattle.flash.specs.Flash.{erased, span, overwrite, cleared, after_program, bit}
use Rattle.flash.proofs.Laws.{erased_length, erased_at, cleared_length, cleared_at, span_at, span_length, overwrite_length, overwrite_inside, all_ones, bit_and_law}
use Rattle.chip.specs.Chip.{switch_word}
use Rattle.chip.specs.Cut.{MayLeave}
use Rattle.chip.proofs.Laws.{word_at_law}
use Rattle.outcomes.specs.Outcomes.{mixtures, program_outcomes, erase_outcomes}
use Rattle.outcomes.specs.Theorems.{CanLeave, Listed, Exactly, OutcomesExact}
use Rattle.outcomes.proofs.ListLaws.{EachBit, in_list, listed_bits, listed_once}

-- A WORD'S BITS ARE THOSE OF ITS BYTES

-- the bit of a word that is bit n of its byte j, counted from the high byte
abbrev bit_at : ℕ → ℕ → ℕ
bit_at j n = 8 * (3 - j) + n

bit_of_byte : (m n a : ℕ) → n < 8 → bit n (a / 2 ^ m % 256) ≡ bit (m + n) a
bit_of_byte m n a h = go (7 - n) (omega arith)
  where
    go : (k : ℕ) → k + 1 + n ≡ 8 → bit n (a / 2 ^ m % 256) ≡ bit (m + n) a
    go k e =
        ap (λ (w : ℕ). bit n (a / 2 ^ m % 2 ^ w)) (sym e)
        ∙ ap (λ (q : ℕ). q % 2) (field (a / 2 ^ m) (k + 1) n)
        ∙ mod-mod-pow (a / 2 ^ m / 2 ^ n) k 1
        ∙ ap (λ (q : ℕ). q % 2) (shr-shr a m n)

byte_bit : (word j n : ℕ) → j < 4 → n < 8 → bit n (get_or (bytes_of word) j 0) ≡ bit (bit_at j n) word
byte_bit word zero n h m = bit_of_byte 24 n word m
byte_bit word (suc zero) n h m = bit_of_byte 16 n word m
byte_bit word (suc (suc zero)) n h m = bit_of_byte 8 n word m
byte_bit word (suc (suc (suc zero))) n h m = ap (λ (w : ℕ). bit n (w % 256)) (sym (div-one word)) ∙ bit_of_byte 0 n word m
byte_bit word (suc (suc (suc (suc j)))) n h m = absurd (omega arith)

byte_small : (word j : ℕ) → j < 4 → get_or (bytes_of word) j 0 < 256
byte_small word zero h = omega arith
byte_small word (suc zero) h = omega arith
byte_small word (suc (suc zero)) h = omega arith
byte_small word (suc (suc (suc zero))) h = omega arith
byte_small word (suc (suc (suc (suc j)))) h = absurd (omega arith)

-- every bit is one of a byte's
by_byte : (P : ℕ → Type 0) → ((j : ℕ) → j < 4 → (n : ℕ) → n < 8 → P (bit_at j n)) → (n : ℕ) → n < 32 → P n
by_byte P each n h = subst P (let e : bit_at (3 - n / 8) (n % 8) ≡ n = omega arith in e) (each (3 - n / 8) (omega arith) (n % 8) (omega arith))

-- THE RULE OF DAMAGE, for an order whose span ends with the switch word or is it: `before` bytes come first in the span.
module _ (chip : List ℕ) (place before : ℕ) (obeyed : List ℕ) (old number : ℕ) (ends : place + before ≡ switch_at) (fills : length obeyed ≡ before + 4)
    (bytes : (i : ℕ) → i < before → get_or obeyed i 0 < 256) (same : switch_word chip ≡ bytes_of old)
    (holds : (j : ℕ) → j < 4 → (n : ℕ) → n < 8 → bit n (get_or obeyed (before + j) 0) ≡ bit (bit_at j n) number) where
  long : switch_at + 4 ≤ length chip
  long =
      let e : length (switch_word chip) ≡ 4 = ap {B = ℕ} length same in
      let f : length (switch_word chip) ≡ min 4 (length chip - switch_at) = length-take 4 (drop switch_at chip) ∙ ap (λ (n : ℕ). min 4 n) (length-drop switch_at chip) in
      omega arith

  -- the bits of the old word
  old_bit : (j : ℕ) → j < 4 → (n : ℕ) → n < 8 → bit n (get_or (span chip place (length obeyed)) (before + j) 0) ≡ bit (bit_at j n) old
  old_bit j h n m =
      ap (bit n) (span_at chip place (length obeyed) (before + j) (omega arith) ∙ ap (λ (i : ℕ). get_or chip i 0) (let e : place + (before + j) ≡ switch_at + j = omega arith in e) ∙ sym (word_at_law chip j h) ∙ ap (λ (w : List ℕ). get_or w j 0) same)
      ∙ byte_bit old j n h m

  -- the switch word afterwards
  switch_at_law : (new : List ℕ) → length new ≡ before + 4 → (j : ℕ) → j < 4 → get_or (switch_word (overwrite chip place new)) j 0 ≡ get_or new (before + j) 0
  switch_at_law new e j h =
      let l = long in
      word_at_law (overwrite chip place new) j h
      ∙ ap (λ (i : ℕ). get_or (overwrite chip place new) i 0) (let f : switch_at + j ≡ place + (before + j) = omega arith in f)
      ∙ overwrite_inside chip place new (omega arith) (before + j) 0 (omega arith)

  switch_length : (new : List ℕ) → length new ≡ before + 4 → length (switch_word (overwrite chip place new)) ≡ 4
  switch_length new e = let l = long in span_length (overwrite chip place new) switch_at 4 (let f = overwrite_length chip place new (omega arith) in omega arith)

  -- A WORD OF THE LIST CAN BE LEFT: its bytes stand in the switch word, and before it what an obeying chip holds.
  module _ (word : ℕ) (listed : Listed word (mixtures 32 old number)) where
    abbrev new : List ℕ
    new = take before obeyed ++ bytes_of word

    front : length (take before obeyed) ≡ before
    front = length-take-le before obeyed (omega arith)

    new_length : length new ≡ before + 4
    new_length = length-append (take before obeyed) (bytes_of word) ∙ ap (λ (n : ℕ). n + 4) front

    in_front : (i : ℕ) → i < before → get_or new i 0 ≡ get_or obeyed i 0
    in_front i h = get_or-append (take before obeyed) (bytes_of word) 0 i (omega (arith, front)) ∙ get_or-take before obeyed i 0 h

    in_word : (j : ℕ) → get_or new (before + j) 0 ≡ get_or (bytes_of word) j 0
    in_word j = ap (λ (n : ℕ). get_or new (n + j) 0) (sym front) ∙ get_or-append-add (take before obeyed) (bytes_of word) j 0

    -- a place in the span lies before the word or in it
    by_place : (P : ℕ → Type 0) → ((i : ℕ) → i < before → P i) → ((j : ℕ) → j < 4 → P (before + j)) → (i : ℕ) → i < length new → P i
    by_place P early late i h =
        ⊎_elim (early i) (λ l. subst P (let e : before + (i - before) ≡ i = omega arith in e) (late (i - before) (omega (arith, new_length)))) (below_or_not i before)

    may : MayLeave chip place obeyed new
    may = record {
      fills = new_length ∙ sym fills;
      bytes = by_place (λ i. get_or new i 0 < 256) (λ i h. rw (in_front i h) (bytes i h)) (λ j h. rw (in_word j) (byte_small word j h));
      mixed = λ low. by_place (λ i. (n : ℕ) → n < 8 → (bit n (get_or new i 0) ≡ bit n (get_or (span chip place (length obeyed)) i 0)) ⊎ (bit n (get_or new i 0) ≡ bit n (get_or obeyed i 0)))
          (λ i h n m. inr (ap (bit n) (in_front i h)))
          (λ j h n m.
          let b : bit n (get_or new (before + j) 0) ≡ bit (bit_at j n) word = ap (bit n) (in_word j) ∙ byte_bit word j n h m in
          ⊎_elim (λ e. inl (b ∙ e ∙ sym (old_bit j h n m))) (λ e. inr (b ∙ e ∙ sym (holds j h n m))) ((listed_bits 32 old number word listed).1 (bit_at j n) (omega arith)));
    }

    can_leave : CanLeave chip place obeyed (bytes_of word)
    can_leave = record {
      new = new;
      may = may;
      left = ext_get_or 0 (switch_word (overwrite chip place new)) (bytes_of word) (switch_length new new_length) (λ j h. switch_at_law new new_length j (omega (arith, switch_length new new_length)) ∙ in_word j);
    }

  -- WHAT CAN BE LEFT IS THE BYTES OF A WORD OF THE LIST.
  module _ (switch : List ℕ) (can : CanLeave chip place obeyed switch) where
    all : length can.new ≡ before + 4
    all = can.may.fills ∙ fills

    abbrev byte : ℕ → ℕ
    byte j = get_or can.new (before + j) 0

    small : (j : ℕ) → j < 4 → byte j < 256
    small j h = can.may.bytes (before + j) (omega (arith, all))

    abbrev left_word : ℕ
    left_word = word_of (byte 0) (byte 1) (byte 2) (byte 3)

    its_bytes : bytes_of left_word ≡ byte 0 ∷ byte 1 ∷ byte 2 ∷ byte 3 ∷ []
    its_bytes = word_bytes (byte 0) (byte 1) (byte 2) (byte 3) (small 0 (omega arith)) (small 1 (omega arith)) (small 2 (omega arith)) (small 3 (omega arith))

    its_byte : (j : ℕ) → j < 4 → get_or (bytes_of left_word) j 0 ≡ byte j
    its_byte zero h = ap (λ (w : List ℕ). get_or w 0 0) its_bytes
    its_byte (suc zero) h = ap (λ (w : List ℕ). get_or w 1 0) its_bytes
    its_byte (suc (suc zero)) h = ap (λ (w : List ℕ). get_or w 2 0) its_bytes
    its_byte (suc (suc (suc zero))) h = ap (λ (w : List ℕ). get_or w 3 0) its_bytes
    its_byte (suc (suc (suc (suc j)))) h = absurd (omega arith)

    is_switch : bytes_of left_word ≡ switch
    is_switch =
        ext_get_or 0 (bytes_of left_word) (switch_word (overwrite chip place can.new)) (sym (switch_length can.new all)) (λ j h. its_byte j h ∙ sym (switch_at_law can.new all j h))
        ∙ can.left

    each : EachBit 32 old number left_word
    each = by_byte (λ n. (bit n left_word ≡ bit n old) ⊎ (bit n left_word ≡ bit n number))
        (λ j h n m.
        let b : bit (bit_at j n) left_word ≡ bit n (byte j) = sym (byte_bit left_word j n h m) ∙ ap (bit n) (its_byte j h) in
        ⊎_elim (λ e. inl (b ∙ e ∙ old_bit j h n m)) (λ e. inr (b ∙ e ∙ holds j h n m)) (can.may.mixed (omega arith) (before + j) (omega (arith, all)) n m))

    left_listed : (word : ℕ) × (bytes_of word ≡ switch) × Listed word (mixtures 32 old number)
    left_listed =
        let a = small 0 (omega arith) in
        let b = small 1 (omega arith) in
        let c = small 2 (omega arith) in
        let d = small 3 (omega arith) in
        let one = in_list 32 old number left_word (omega arith) each in
        (left_word, is_switch, omega arith)

  exactly : Exactly (mixtures 32 old number) chip place obeyed
  exactly = record { permitted = can_leave; complete = left_listed; once = listed_once 32 old number; whole = λ word listed. (listed_bits 32 old number word listed).0 }

-- a program of the switch word, and an erase of its segment
program_exactly : (chip : List ℕ) (old ordered : ℕ) → switch_word chip ≡ bytes_of old → Exactly (program_outcomes old ordered) chip switch_at (after_program chip switch_at (bytes_of ordered))
program_exactly chip old ordered same =
    exactly chip switch_at 0 (cleared (switch_word chip) (bytes_of ordered)) old (bit_and old ordered) refl (cleared_length (switch_word chip) (bytes_of ordered) four) (λ i h. absurd (omega arith)) same
    (λ j h n m.
    ap (λ (i : ℕ). bit n (get_or (cleared (switch_word chip) (bytes_of ordered)) i 0)) (zero-add j)
    ∙ ap (bit n) (cleared_at (switch_word chip) (bytes_of ordered) j four h ∙ ap (λ (w : List ℕ). bit_and (get_or w j 0) (get_or (bytes_of ordered) j 0)) same)
    ∙ bit_and_law n (get_or (bytes_of old) j 0) (get_or (bytes_of ordered) j 0)
    ∙ ap₂ (λ (x y : ℕ). min x y) (byte_bit old j n h m) (byte_bit ordered j n h m)
    ∙ sym (bit_and_law (bit_at j n) old ordered))
  where
    four : length (switch_word chip) ≡ 4
    four = ap {B = ℕ} length same

erase_exactly : (chip : List ℕ) (old : ℕ) → switch_word chip ≡ bytes_of old → Exactly (erase_outcomes old) chip 0 (erased segment)
erase_exactly chip old same =
    exactly chip 0 switch_at (erased segment) old 0xFFFFFFFF refl (erased_length segment) (λ i h. rw (erased_at segment i (omega arith)) (omega arith)) same
    (λ j h n m. ap (bit n) (erased_at segment (switch_at + j) (omega arith)) ∙ all_ones 8 n m ∙ sym (all_ones 32 (bit_at j n) (omega arith)))

pub outcomes_exact : OutcomesExact
outcomes_exact = record { program = program_exactly; erase = erase_exactly }
