-- Laws of the list: how long it is, and which words are in it.
use Prim.Native.Nat.{ℕ, zero, suc, ◌+◌, ◌*◌, ◌/◌, ◌%◌, ◌^◌, ◌<◌, ◌≤◌}
use mathlib.Core.Path.{◌≡◌, refl, sym, ap, ap₂, ◌∙◌}
use mathlib.Core.Bool.{Bool, true, false}
use mathlib.Core.Logic.{◌⊎◌, inl, inr, ⊎_elim}
use mathlib.Core.List.{List, [], ◌∷◌, ◌++◌, map}
use native.Mathlib.Nat.{pow-succ', suc-mul, zero-add, mul-zero, zero-mul, one-mul, mul-add, add-mul}
use native.Mathlib.Omega.{arith}
use borrow.Author.Tests.{eq-eqb, ne_eqb, eqb-true, eqb-false}
use lib.Bits.{bit_xor, differ, xor_step}
use lib.Count.{ones, ones_step}
use lib.Dec.{eqb}
use lib.ListN.{length, get_or, length-append, length-map}
use lib.Pow.{pow-add}
use Rattle.base.proofs.Laws.{below_or_not, equal_or_not}
use Rattle.flash.specs.Flash.{bit}
use Rattle.flash.proofs.Laws.{half_bit, differ_most}
use Rattle.outcomes.specs.Outcomes.{endings, with_lowest_bit, mixtures, one_if, how_many}
use Rattle.outcomes.specs.Theorems.{Listed}

eqb_same : (a b c d : ℕ) → (a ≡ b → c ≡ d) → (c ≡ d → a ≡ b) → eqb a b ≡ eqb c d
eqb_same a b c d to from = ⊎_elim (λ e. eq-eqb a b e ∙ sym (eq-eqb c d (to e))) (λ n. ne_eqb a b n ∙ sym (ne_eqb c d (λ e. n (from e)))) (equal_or_not a b)

-- HOW LONG IT IS

with_lowest_length : (bits words : List ℕ) → length (with_lowest_bit bits words) ≡ length bits * length words
unfolding with_lowest_bit
with_lowest_length [] words = omega arith
with_lowest_length (b ∷ bits) words =
    length-append (map (λ word. word * 2 + b) words) (with_lowest_bit bits words)
    ∙ ap₂ (λ (x y : ℕ). x + y) (length-map words (λ word. word * 2 + b)) (with_lowest_length bits words)
    ∙ let s : suc (length bits) * length words ≡ length bits * length words + length words = suc-mul (length bits) (length words) in omega arith

-- One bit has two endings where the two differ.
endings_length : (x y : ℕ) → x < 2 → y < 2 → length (endings x y) ≡ 2 ^ differ x y
unfolding endings
endings_length zero zero p q = refl
endings_length zero (suc zero) p q = refl
endings_length (suc zero) zero p q = refl
endings_length (suc zero) (suc zero) p q = refl
endings_length zero (suc (suc y)) p q = absurd (omega arith)
endings_length (suc zero) (suc (suc y)) p q = absurd (omega arith)
endings_length (suc (suc x)) y p q = absurd (omega arith)

pub no_ones : ones 0 ≡ 0
unfolding ones
no_ones = refl

-- Two to the number of bits in which the old word and the obeyed one differ.
pub mixtures_length : (k old obeyed : ℕ) → old < 2 ^ k → obeyed < 2 ^ k → length (mixtures k old obeyed) ≡ 2 ^ ones (bit_xor old obeyed)
unfolding mixtures
mixtures_length zero old obeyed p q =
    let a : old ≡ 0 = omega arith in
    let b : obeyed ≡ 0 = omega arith in
    sym (ap (λ (x : ℕ). 2 ^ x) (ap ones (ap₂ bit_xor a b) ∙ no_ones))
mixtures_length (suc k) old obeyed p q =
    let w : 2 ^ suc k ≡ 2 * 2 ^ k = pow-succ' 2 k in
    let rest : length (mixtures k (old / 2) (obeyed / 2)) ≡ 2 ^ ones (bit_xor (old / 2) (obeyed / 2)) = mixtures_length k (old / 2) (obeyed / 2) (omega arith) (omega arith) in
    let s : bit_xor old obeyed ≡ bit_xor (old / 2) (obeyed / 2) * 2 + differ (old % 2) (obeyed % 2) = xor_step old obeyed in
    let d : differ (old % 2) (obeyed % 2) ≤ 1 = differ_most (old % 2) (obeyed % 2) (omega arith) (omega arith) in
    let low : bit_xor old obeyed % 2 ≡ differ (old % 2) (obeyed % 2) = omega arith in
    let high : bit_xor old obeyed / 2 ≡ bit_xor (old / 2) (obeyed / 2) = omega arith in
    with_lowest_length (endings (old % 2) (obeyed % 2)) (mixtures k (old / 2) (obeyed / 2))
    ∙ ap₂ (λ (x y : ℕ). x * y) (endings_length (old % 2) (obeyed % 2) (omega arith) (omega arith)) rest
    ∙ sym (pow-add 2 (differ (old % 2) (obeyed % 2)) (ones (bit_xor (old / 2) (obeyed / 2))))
    ∙ ap (λ (x : ℕ). 2 ^ x) (sym (ones_step (bit_xor old obeyed) ∙ ap₂ (λ (x y : ℕ). x + ones y) low high))

-- WHICH WORDS ARE IN IT

how_many_append : (test : ℕ → Bool) (xs ys : List ℕ) → how_many test (xs ++ ys) ≡ how_many test xs + how_many test ys
unfolding how_many
how_many_append test [] ys = sym (zero-add (how_many test ys))
how_many_append test (x ∷ xs) ys = let h : how_many test (xs ++ ys) ≡ how_many test xs + how_many test ys = how_many_append test xs ys in omega arith

-- Among words with a lowest bit more, a word is found by that bit and by the rest of it.
lowest_bit : (word b : ℕ) (words : List ℕ) → b < 2 → how_many (eqb word) (map (λ w. w * 2 + b) words) ≡ one_if (eqb (word % 2) b) * how_many (eqb (word / 2)) words
unfolding how_many one_if
lowest_bit word b [] small = sym (mul-zero (one_if (eqb (word % 2) b)))
lowest_bit word b (w ∷ words) small =
    ap₂ (λ (x y : ℕ). x + y) (one (equal_or_not (word % 2) b)) (lowest_bit word b words small)
    ∙ sym (mul-add (one_if (eqb (word % 2) b)) (one_if (eqb (word / 2) w)) (how_many (eqb (word / 2)) words))
  where
    one : (word % 2 ≡ b) ⊎ (word % 2 ≡ b → ⊥) → one_if (eqb word (w * 2 + b)) ≡ one_if (eqb (word % 2) b) * one_if (eqb (word / 2) w)
    one (inl e) = rw (eq-eqb (word % 2) b e, eqb_same word (w * 2 + b) (word / 2) w (λ s. omega arith) (λ s. omega arith)) (sym (one-mul (one_if (eqb (word / 2) w))))
    one (inr n) = rw (ne_eqb (word % 2) b n, ne_eqb word (w * 2 + b) (λ s. n (omega arith))) (sym (zero-mul (one_if (eqb (word / 2) w))))

-- So it is in the list as many times as its lowest bit is among the bits, times as often as the rest of it is among the words.
with_lowest_count : (word : ℕ) (bits words : List ℕ) → ((i : ℕ) → i < length bits → get_or bits i 0 < 2) → how_many (eqb word) (with_lowest_bit bits words) ≡ how_many (eqb (word % 2)) bits * how_many (eqb (word / 2)) words
unfolding with_lowest_bit how_many
with_lowest_count word [] words small = sym (zero-mul (how_many (eqb (word / 2)) words))
with_lowest_count word (b ∷ bits) words small =
    how_many_append (eqb word) (map (λ w. w * 2 + b) words) (with_lowest_bit bits words)
    ∙ ap₂ (λ (x y : ℕ). x + y) (lowest_bit word b words (small 0 (omega arith))) (with_lowest_count word bits words (λ i h. small (suc i) (omega arith)))
    ∙ sym (add-mul (one_if (eqb (word % 2) b)) (how_many (eqb (word % 2)) bits) (how_many (eqb (word / 2)) words))

-- Endings are bits, each named one time: a bit is among them if it is one of the two, and else not.
abbrev pick : ℕ → ℕ → Bool → List ℕ
pick x y t = elim t [ true ↦ x ∷ [] | false ↦ x ∷ y ∷ [] ]

endings_bits : (x y : ℕ) → x < 2 → y < 2 → (i : ℕ) → i < length (endings x y) → get_or (endings x y) i 0 < 2
unfolding endings
endings_bits x y p q = go (eqb x y)
  where
    go : (t : Bool) → (i : ℕ) → i < length (pick x y t) → get_or (pick x y t) i 0 < 2
    go true zero h = p
    go true (suc i) h = absurd (omega arith)
    go false zero h = p
    go false (suc zero) h = q
    go false (suc (suc i)) h = absurd (omega arith)

module _ (d x y : ℕ) where
  one_ending : (d ≡ x) ⊎ (d ≡ y) → how_many (eqb d) (endings x y) ≡ 1
  unfolding endings how_many one_if
  one_ending e = go (eqb x y) refl (equal_or_not d x) (equal_or_not d y)
    where
      go : (t : Bool) → eqb x y ≡ t → (d ≡ x) ⊎ (d ≡ x → ⊥) → (d ≡ y) ⊎ (d ≡ y → ⊥) → how_many (eqb d) (pick x y t) ≡ 1
      go true s (inl a) b = rw (eq-eqb d x a) refl
      go true s (inr a) b = absurd (⊎_elim a (λ f. a (f ∙ sym (eqb-true x y s))) e)
      go false s (inl a) (inl b) = absurd (eqb-false x y s (sym a ∙ b))
      go false s (inl a) (inr b) = rw (eq-eqb d x a, ne_eqb d y b) refl
      go false s (inr a) (inl b) = rw (ne_eqb d x a, eq-eqb d y b) refl
      go false s (inr a) (inr b) = absurd (⊎_elim a b e)

  no_ending : (d ≡ x → ⊥) → (d ≡ y → ⊥) → how_many (eqb d) (endings x y) ≡ 0
  unfolding endings how_many one_if
  no_ending a b = go (eqb x y)
    where
      go : (t : Bool) → how_many (eqb d) (pick x y t) ≡ 0
      go true = rw (ne_eqb d x a) refl
      go false = rw (ne_eqb d x a, ne_eqb d y b) refl

-- each of k bits is that of one of two words
abbrev pub EachBit : ℕ → ℕ → ℕ → ℕ → Type 0
EachBit k old obeyed word = (n : ℕ) → n < k → (bit n word ≡ bit n old) ⊎ (bit n word ≡ bit n obeyed)

first_bit : (k old obeyed word : ℕ) → EachBit (suc k) old obeyed word → (word % 2 ≡ old % 2) ⊎ (word % 2 ≡ obeyed % 2)
first_bit k old obeyed word each = ⊎_elim (λ e. inl (omega arith)) (λ e. inr (omega arith)) (each 0 (omega arith))

-- A word of k bits is in the list, one time, if each bit is one of the two,
pub in_list : (k old obeyed word : ℕ) → word < 2 ^ k → EachBit k old obeyed word → how_many (eqb word) (mixtures k old obeyed) ≡ 1
unfolding mixtures how_many one_if
in_list zero old obeyed word l each = rw (eq-eqb word 0 (omega arith)) refl
in_list (suc k) old obeyed word l each =
    let w : 2 ^ suc k ≡ 2 * 2 ^ k = pow-succ' 2 k in
    with_lowest_count word (endings (old % 2) (obeyed % 2)) (mixtures k (old / 2) (obeyed / 2)) (endings_bits (old % 2) (obeyed % 2) (omega arith) (omega arith))
    ∙ ap₂ (λ (x y : ℕ). x * y) (one_ending (word % 2) (old % 2) (obeyed % 2) (first_bit k old obeyed word each))
    (in_list k (old / 2) (obeyed / 2) (word / 2) (omega arith) (λ n m. rw (half_bit n word, half_bit n old, half_bit n obeyed) (each (suc n) (omega arith))))

-- and else it is not.
pub listed_bits : (k old obeyed word : ℕ) → Listed word (mixtures k old obeyed) → (word < 2 ^ k) × EachBit k old obeyed word
unfolding mixtures how_many one_if
listed_bits zero old obeyed word listed = ⊎_elim (λ e. (omega arith, λ n m. absurd (omega arith))) (λ n. absurd (let z : 1 ≤ 0 = rw (ne_eqb word 0 n) at listed in omega arith)) (equal_or_not word 0)
listed_bits (suc k) old obeyed word listed = by_first (equal_or_not (word % 2) (old % 2)) (equal_or_not (word % 2) (obeyed % 2)) (listed_bits k (old / 2) (obeyed / 2) (word / 2))
  where
    rest : List ℕ
    rest = mixtures k (old / 2) (obeyed / 2)

    product : 1 ≤ how_many (eqb (word % 2)) (endings (old % 2) (obeyed % 2)) * how_many (eqb (word / 2)) rest
    product = rw (with_lowest_count word (endings (old % 2) (obeyed % 2)) rest (endings_bits (old % 2) (obeyed % 2) (omega arith) (omega arith))) at listed

    all : (word % 2 ≡ old % 2) ⊎ (word % 2 ≡ obeyed % 2) → (Listed (word / 2) rest → (word / 2 < 2 ^ k) × EachBit k (old / 2) (obeyed / 2) (word / 2)) → (word < 2 ^ suc k) × EachBit (suc k) old obeyed word
    all first more =
        let one : 1 * how_many (eqb (word / 2)) rest ≡ how_many (eqb (word / 2)) rest = one-mul (how_many (eqb (word / 2)) rest) in
        let h = more (rw (one_ending (word % 2) (old % 2) (obeyed % 2) first, one) at product) in
        let w : 2 ^ suc k ≡ 2 * 2 ^ k = pow-succ' 2 k in
        let l : word / 2 < 2 ^ k = h.0 in
        (omega arith, by_bit first h.1)
      where
        by_bit : (word % 2 ≡ old % 2) ⊎ (word % 2 ≡ obeyed % 2) → EachBit k (old / 2) (obeyed / 2) (word / 2) → EachBit (suc k) old obeyed word
        by_bit first each zero m = ⊎_elim (λ e. inl (omega arith)) (λ e. inr (omega arith)) first
        by_bit first each (suc n) m = rw (half_bit n word, half_bit n old, half_bit n obeyed) at (each n (omega arith))

    by_first : (word % 2 ≡ old % 2) ⊎ (word % 2 ≡ old % 2 → ⊥) → (word % 2 ≡ obeyed % 2) ⊎ (word % 2 ≡ obeyed % 2 → ⊥) →
        (Listed (word / 2) rest → (word / 2 < 2 ^ k) × EachBit k (old / 2) (obeyed / 2) (word / 2)) → (word < 2 ^ suc k) × EachBit (suc k) old obeyed word
    by_first (inl a) b more = all (inl a) more
    by_first (inr a) (inl b) more = all (inr b) more
    by_first (inr a) (inr b) more =
        let z : 0 * how_many (eqb (word / 2)) rest ≡ 0 = zero-mul (how_many (eqb (word / 2)) rest) in
        absurd (let no : 1 ≤ 0 = rw (no_ending (word % 2) (old % 2) (obeyed % 2) a b, z) at product in omega arith)

-- No word is in the list twice.
pub listed_once : (k old obeyed word : ℕ) → how_many (eqb word) (mixtures k old obeyed) ≤ 1
listed_once k old obeyed word = ⊎_elim (λ none. omega arith) (λ listed. let b = listed_bits k old obeyed word listed in let one = in_list k old obeyed word b.0 b.1 in omega arith) (below_or_not (how_many (eqb word) (mixtures k old obeyed)) 1)

-- Tests that agree on every word listed count the same.
pub same_count : (test other : ℕ → Bool) (words : List ℕ) → ((word : ℕ) → Listed word words → test word ≡ other word) → how_many test words ≡ how_many other words
unfolding how_many one_if
same_count test other [] agree = refl
same_count test other (w ∷ words) agree =
    ap₂ (λ (t : Bool) (n : ℕ). one_if t + n) (agree w (rw (eq-eqb w w refl) (omega arith)))
    (same_count test other words (λ word listed. agree word (omega arith)))
