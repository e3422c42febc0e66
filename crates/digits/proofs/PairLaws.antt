-- Laws of pairs by their place in the text: which they are, how many, and what they add to.
use Prim.Native.Nat.{ℕ, zero, suc, ◌+◌, ◌*◌, ◌<◌}
use mathlib.Core.Path.{◌≡◌, refl, ap, ◌∙◌}
use mathlib.Core.List.{List, ◌∷◌}
use native.Mathlib.Nat.{add-zero}
use native.Mathlib.Omega.{arith}
use borrow.Author.Count.{below_more}
use lib.ListN.{length, get_or, take, drop}
use Rattle.digits.specs.Digit.{byte_sum}
use Rattle.std.specs.Prelude.{Option, Some, None}
use Rattle.digits.specs.Pairs.{pair_at, IsPair, ArePairs, pairs_at, Summed}

module _ (text : List ℕ) where
  on : (at j : ℕ) → at + 2 + 2 * j ≡ at + 2 * suc j
  on at j = omega arith

  pub length_pairs : (k at : ℕ) → length (pairs_at text at k) ≡ k
  unfolding pairs_at
  length_pairs zero at = refl
  length_pairs (suc k) at = ap suc (length_pairs k (at + 2))

  pub get_or_pairs : (j k at : ℕ) → j < k → get_or (pairs_at text at k) j 0 ≡ pair_at text (at + 2 * j)
  unfolding pairs_at
  get_or_pairs j zero at h = absurd (omega arith)
  get_or_pairs zero (suc k) at h = rw add-zero refl
  get_or_pairs (suc j) (suc k) at h = get_or_pairs j k (at + 2) (omega arith) ∙ rw on refl

  pub drop_pairs : (j k at : ℕ) → drop j (pairs_at text at (j + k)) ≡ pairs_at text (at + 2 * j) k
  unfolding pairs_at
  drop_pairs zero k at = let a : 0 + k ≡ k = omega arith in let b : at + 2 * 0 ≡ at = omega arith in rw (a, b) refl
  drop_pairs (suc j) k at = let a : suc j + k ≡ suc (j + k) = omega arith in rw a (drop_pairs j k (at + 2) ∙ rw on refl)

  pub take_pairs : (k m at : ℕ) → take k (pairs_at text at (k + m)) ≡ pairs_at text at k
  unfolding pairs_at
  take_pairs zero m at = refl
  take_pairs (suc k) m at = let a : suc k + m ≡ suc (k + m) = omega arith in rw a (ap (λ (l : List ℕ). pair_at text at ∷ l) (take_pairs k m (at + 2)))

  pub total_pairs : (k at : ℕ) → byte_sum (pairs_at text at (k + 1)) ≡ byte_sum (pairs_at text at k) + pair_at text (at + 2 * k)
  unfolding pairs_at byte_sum
  total_pairs zero at = let b : at + 2 * 0 ≡ at = omega arith in rw b (omega arith)
  total_pairs (suc k) at =
      let a : suc k + 1 ≡ suc (k + 1) = omega arith in
      let ih : byte_sum (pairs_at text (at + 2) (k + 1)) ≡ byte_sum (pairs_at text (at + 2) k) + pair_at text (at + 2 * suc k) = total_pairs k (at + 2) ∙ rw on refl in
      rw a (omega arith)

  pub are_more : (at k : ℕ) → ArePairs text at k → IsPair text (at + 2 * k) → ArePairs text at (k + 1)
  are_more at k h p = below_more (λ (j : ℕ). IsPair text (at + 2 * j)) k h p

-- What the sum of pairs told: that they are pairs, and what they add to; or that one is none.
pub summed_pairs : (text : List ℕ) (at count n : ℕ) (s : Option ℕ) → Summed text at count s → s ≡ Some n → ArePairs text at count × (n ≡ byte_sum (pairs_at text at count))
unfolding Summed
summed_pairs text at count n s h e = rw e at h

pub summed_none : (text : List ℕ) (at count : ℕ) (s : Option ℕ) → Summed text at count s → s ≡ None → ArePairs text at count → ⊥
unfolding Summed
summed_none text at count s h e = rw e at h
