-- The counts by the bits that can change are those of the list.
use Prim.Native.Nat.{ℕ, zero, suc, ◌+◌, ◌-◌, ◌*◌, ◌/◌, ◌%◌, ◌^◌, ◌<◌, ◌≤◌, min}
use mathlib.Core.Path.{◌≡◌, refl, sym, ap, ap₂, ◌∙◌}
use mathlib.Core.Bool.{true}
use mathlib.Core.Logic.{⊎_elim}
use native.Mathlib.Nat.{pow-succ'}
use native.Mathlib.Omega.{arith}
use borrow.Author.Tests.{eq-eqb, ne_eqb}
use lib.Bits.{bit_and, bit_xor, differ, and_lt, xor_lt}
use lib.Count.{ones, ones_in, ones_step}
use lib.Dec.{eqb}
use Rattle.base.specs.Question.{ask}
use Rattle.base.proofs.Laws.{false_of, below_or_not, equal_or_not}
use Rattle.framing.specs.Search.{begins_with}
use Rattle.framing.specs.Words.{bytes_of}
use Rattle.framing.proofs.Laws.{starts_at, bytes_word}
use Rattle.kind.specs.Spi.{spi, spi_on}
use Rattle.flash.specs.Flash.{bit}
use Rattle.flash.proofs.Laws.{same_bits, bit_most, bit_and_law, bit_xor_law, not_xor, bit_not, each_bit, no_bit_differs}
use Rattle.outcomes.specs.Outcomes.{mixtures, how_many, word_is_on, counts_of, program_counts, erase_counts}
use Rattle.outcomes.specs.Internal.{spi_on_word, outside, counts_by, changing_counts}
use Rattle.outcomes.specs.Theorems.{PowersOfTwo, OnAtMostOnce}
use Rattle.outcomes.proofs.ListLaws.{no_ones, mixtures_length, in_list, listed_bits, listed_once, same_count}

-- THE BITS THAT CAN CHANGE are those in which the old word and the obeyed one differ.

by_digit : (P : ℕ → Type 0) → P 0 → P 1 → (x : ℕ) → x ≤ 1 → P x
by_digit P none one zero h = none
by_digit P none one (suc zero) h = one
by_digit P none one (suc (suc x)) h = absurd (omega arith)

-- digit by digit: of a program, and of a word that agrees with the old one in every other bit
program_digit : (x y : ℕ) → x ≤ 1 → y ≤ 1 → min x (differ y 1) ≡ differ x (min x y)
program_digit x y p q =
    by_digit (λ x. min x (differ y 1) ≡ differ x (min x y))
    (by_digit (λ y. min 0 (differ y 1) ≡ differ 0 (min 0 y)) refl refl y q)
    (by_digit (λ y. min 1 (differ y 1) ≡ differ 1 (min 1 y)) refl refl y q) x p

outside_digit : (w x y : ℕ) → w ≤ 1 → x ≤ 1 → y ≤ 1 → min (differ w x) (differ (differ x y) 1) ≡ min (differ w x) (differ w y)
outside_digit w x y o p q =
    by_digit (λ w. min (differ w x) (differ (differ x y) 1) ≡ min (differ w x) (differ w y))
    (by_digit (λ x. min (differ 0 x) (differ (differ x y) 1) ≡ min (differ 0 x) (differ 0 y))
    (by_digit (λ y. min (differ 0 0) (differ (differ 0 y) 1) ≡ min (differ 0 0) (differ 0 y)) refl refl y q)
    (by_digit (λ y. min (differ 0 1) (differ (differ 1 y) 1) ≡ min (differ 0 1) (differ 0 y)) refl refl y q) x p)
    (by_digit (λ x. min (differ 1 x) (differ (differ x y) 1) ≡ min (differ 1 x) (differ 1 y))
    (by_digit (λ y. min (differ 1 0) (differ (differ 0 y) 1) ≡ min (differ 1 0) (differ 1 y)) refl refl y q)
    (by_digit (λ y. min (differ 1 1) (differ (differ 1 y) 1) ≡ min (differ 1 1) (differ 1 y)) refl refl y q) x p) w o

program_changes : (old ordered : ℕ) → old < 2 ^ 32 → ordered < 2 ^ 32 → bit_and old (0xFFFFFFFF - ordered) ≡ bit_xor old (bit_and old ordered)
program_changes old ordered p q =
    same_bits 32 (bit_and old (0xFFFFFFFF - ordered)) (bit_xor old (bit_and old ordered)) (and_lt 32 _ _ p (omega arith)) (xor_lt 32 _ _ p (and_lt 32 _ _ p q))
    (λ n h.
    bit_and_law n old (0xFFFFFFFF - ordered)
    ∙ ap (λ (b : ℕ). min (bit n old) b) (bit_not 32 n ordered q h)
    ∙ program_digit (bit n old) (bit n ordered) (bit_most n old) (bit_most n ordered)
    ∙ sym (bit_xor_law n old (bit_and old ordered) ∙ ap (λ (b : ℕ). differ (bit n old) b) (bit_and_law n old ordered)))

erase_changes : (old : ℕ) → old < 2 ^ 32 → 0xFFFFFFFF - old ≡ bit_xor old 0xFFFFFFFF
erase_changes = not_xor 32

-- ON AMONG THEM

-- ON differs from both in some bit exactly if it differs from the old one in one that cannot change.
outside_both : (old obeyed : ℕ) → old < 2 ^ 32 → obeyed < 2 ^ 32 → outside old (bit_xor old obeyed) ≡ bit_and (bit_xor spi_on_word old) (bit_xor spi_on_word obeyed)
outside_both old obeyed p q =
    let l : spi_on_word < 2 ^ 32 = omega arith in
    let c : bit_xor old obeyed < 2 ^ 32 = xor_lt 32 old obeyed p q in
    same_bits 32 (outside old (bit_xor old obeyed)) (bit_and (bit_xor spi_on_word old) (bit_xor spi_on_word obeyed))
    (and_lt 32 _ _ (xor_lt 32 _ _ l p) (omega arith)) (and_lt 32 _ _ (xor_lt 32 _ _ l p) (xor_lt 32 _ _ l q))
    (λ n h.
    bit_and_law n (bit_xor spi_on_word old) (0xFFFFFFFF - bit_xor old obeyed)
    ∙ ap₂ (λ (a b : ℕ). min a b) (bit_xor_law n spi_on_word old) (bit_not 32 n (bit_xor old obeyed) c h ∙ ap (λ (b : ℕ). differ b 1) (bit_xor_law n old obeyed))
    ∙ outside_digit (bit n spi_on_word) (bit n old) (bit n obeyed) (bit_most n spi_on_word) (bit_most n old) (bit_most n obeyed)
    ∙ sym (bit_and_law n (bit_xor spi_on_word old) (bit_xor spi_on_word obeyed) ∙ ap₂ (λ (a b : ℕ). min a b) (bit_xor_law n spi_on_word old) (bit_xor_law n spi_on_word obeyed)))

-- So this test tells whether it is in the list.
tested : (old obeyed : ℕ) → old < 2 ^ 32 → obeyed < 2 ^ 32 → ask (eqb (outside old (bit_xor old obeyed)) 0) 0 1 ≡ how_many (eqb spi_on_word) (mixtures 32 old obeyed)
unfolding ask
tested old obeyed p q = ⊎_elim is_listed not_listed (equal_or_not test 0)
  where
    test : ℕ
    test = outside old (bit_xor old obeyed)

    is_listed : test ≡ 0 → ask (eqb test 0) 0 1 ≡ how_many (eqb spi_on_word) (mixtures 32 old obeyed)
    is_listed e =
        rw (eq-eqb test 0 e)
        (sym (in_list 32 old obeyed spi_on_word (omega arith) (λ n h. each_bit old obeyed spi_on_word (sym (outside_both old obeyed p q) ∙ e) n)))

    not_listed : (test ≡ 0 → ⊥) → ask (eqb test 0) 0 1 ≡ how_many (eqb spi_on_word) (mixtures 32 old obeyed)
    not_listed n =
        rw (ne_eqb test 0 n)
        (⊎_elim (λ none. omega arith)
        (λ listed. absurd (n (outside_both old obeyed p q ∙ no_bit_differs 32 old obeyed spi_on_word p q (omega arith) (listed_bits 32 old obeyed spi_on_word listed).1)))
        (below_or_not (how_many (eqb spi_on_word) (mixtures 32 old obeyed)) 1))

-- A word is ON on an SPI chip where it is this number.
on_word : (word : ℕ) → word < 2 ^ 32 → word_is_on spi word ≡ eqb spi_on_word word
unfolding begins_with
on_word word l = ⊎_elim (λ e. sym (ap (word_is_on spi) e) ∙ ap (eqb spi_on_word) e) (λ n. false_of (word_is_on spi word) (λ on. n (sym (same on))) ∙ sym (ne_eqb spi_on_word word n)) (equal_or_not spi_on_word word)
  where
    same : word_is_on spi word ≡ true → word ≡ spi_on_word
    same on =
        let a : word / 2 ^ 24 % 256 ≡ 0xAA = starts_at spi_on (bytes_of word) on 0 (omega arith) in
        let b : word / 2 ^ 16 % 256 ≡ 0x99 = starts_at spi_on (bytes_of word) on 1 (omega arith) in
        let c : word / 2 ^ 8 % 256 ≡ 0x55 = starts_at spi_on (bytes_of word) on 2 (omega arith) in
        let d : word % 256 ≡ 0x66 = starts_at spi_on (bytes_of word) on 3 (omega arith) in
        sym (bytes_word word l) ∙ rw (a, b, c, d) refl

on_listed : (old obeyed : ℕ) → how_many (word_is_on spi) (mixtures 32 old obeyed) ≡ how_many (eqb spi_on_word) (mixtures 32 old obeyed)
on_listed old obeyed = same_count (word_is_on spi) (eqb spi_on_word) (mixtures 32 old obeyed) (λ word listed. on_word word (listed_bits 32 old obeyed word listed).0)

on_once : (old obeyed : ℕ) → (counts_of spi (mixtures 32 old obeyed)).on ≤ 1
unfolding counts_of
on_once old obeyed = rw (on_listed old obeyed) (listed_once 32 old obeyed spi_on_word)

pub on_at_most_once : OnAtMostOnce
on_at_most_once = record { program = λ old ordered. on_once old (bit_and old ordered); erase = λ old. on_once old 0xFFFFFFFF }

-- The counts by the bits that can change are those of the list.
counted : (old obeyed : ℕ) → old < 2 ^ 32 → obeyed < 2 ^ 32 → changing_counts old (bit_xor old obeyed) ≡ counts_of spi (mixtures 32 old obeyed)
unfolding changing_counts counts_of
counted old obeyed p q =
    ap₂ (λ (words on : ℕ). record { words = words; on = on }) (sym (mixtures_length 32 old obeyed p q)) (tested old obeyed p q ∙ sym (on_listed old obeyed))

pub program_counted : (old ordered : ℕ) → old < 2 ^ 32 → ordered < 2 ^ 32 → changing_counts old (bit_and old (0xFFFFFFFF - ordered)) ≡ program_counts spi old ordered
program_counted old ordered p q = ap (changing_counts old) (program_changes old ordered p q) ∙ counted old (bit_and old ordered) p (and_lt 32 _ _ p q)

pub erase_counted : (old : ℕ) → old < 2 ^ 32 → changing_counts old (0xFFFFFFFF - old) ≡ erase_counts spi old
erase_counted old p = ap (changing_counts old) (erase_changes old p) ∙ counted old 0xFFFFFFFF p (omega arith)

-- THE SAME FOR WORDS WRITTEN OUT, where it computes: the ones of a word of k bits, bit by bit.
ones_bits : (k n : ℕ) → n < 2 ^ k → ones n ≡ ones_in k n
unfolding ones_in
ones_bits zero n h = ap ones (let e : n ≡ 0 = omega arith in e) ∙ no_ones
ones_bits (suc k) n h = let p : 2 ^ suc k ≡ 2 * 2 ^ k = pow-succ' 2 k in ones_step n ∙ ap (λ (m : ℕ). n % 2 + m) (ones_bits k (n / 2) (omega arith))

computed : (old changing : ℕ) → changing < 2 ^ 32 → changing_counts old changing ≡ counts_by (ones_in 32 changing) (outside old changing)
unfolding changing_counts
computed old changing h = ap (λ (exponent : ℕ). counts_by exponent (outside old changing)) (ones_bits 32 changing h)

pub program_computed : (old ordered : ℕ) → old < 2 ^ 32 → ordered < 2 ^ 32 → program_counts spi old ordered ≡ counts_by (ones_in 32 (bit_and old (0xFFFFFFFF - ordered))) (outside old (bit_and old (0xFFFFFFFF - ordered)))
program_computed old ordered p q = sym (program_counted old ordered p q) ∙ computed old (bit_and old (0xFFFFFFFF - ordered)) (and_lt 32 _ _ p (omega arith))

pub erase_computed : (old : ℕ) → old < 2 ^ 32 → erase_counts spi old ≡ counts_by (ones_in 32 (0xFFFFFFFF - old)) (outside old (0xFFFFFFFF - old))
erase_computed old p = sym (erase_counted old p) ∙ computed old (0xFFFFFFFF - old) (omega arith)

pub powers_of_two : PowersOfTwo
powers_of_two = record {
  program = λ old ordered p q. mixtures_length 32 old (bit_and old ordered) p (and_lt 32 _ _ p q) ∙ ap (λ (mask : ℕ). 2 ^ ones mask) (sym (program_changes old ordered p q));
  erase = λ old p. mixtures_length 32 old 0xFFFFFFFF p (omega arith) ∙ ap (λ (mask : ℕ). 2 ^ ones mask) (sym (erase_changes old p));
}
