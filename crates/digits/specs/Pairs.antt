-- Pairs of digits by their place in the text. Only contracts of functions that are no public calls cite it.
use Rattle.std.specs.Prelude.{ℕ, zero, suc, ◌+◌, ◌*◌, ◌<◌, ◌≡◌, List, [], ◌∷◌, get_or, Option, Some, None}
use Rattle.digits.specs.Digit.{digit_of, byte_sum}

abbrev pub pair_at : List ℕ → ℕ → ℕ
pair_at text at = 16 * digit_of (get_or text at 0) + digit_of (get_or text (at + 1) 0)

-- two pairs as a number, high byte first
abbrev pub two_pairs_at : List ℕ → ℕ → ℕ
two_pairs_at text at = pair_at text at * 256 + pair_at text (at + 2)

abbrev pub IsPair : List ℕ → ℕ → Type 0
IsPair text at = (digit_of (get_or text at 0) < 16) × (digit_of (get_or text (at + 1) 0) < 16)

abbrev pub ArePairs : List ℕ → ℕ → ℕ → Type 0
ArePairs text at count = (j : ℕ) → j < count → IsPair text (at + 2 * j)

unfoldable pub pairs_at : List ℕ → ℕ → ℕ → List ℕ
pairs_at text at zero = []
pairs_at text at (suc count) = pair_at text at ∷ pairs_at text (at + 2) count

-- what a sum of pairs says of them
unfoldable pub Summed : List ℕ → ℕ → ℕ → Option ℕ → Type 0
Summed text at count (Some sum) = ArePairs text at count × (sum ≡ byte_sum (pairs_at text at count))
Summed text at count None = ArePairs text at count → ⊥
