-- The table that a digit's value is looked up in. Only contracts of functions that are no public calls cite it.
use Rattle.std.specs.Prelude.{ℕ, ◌<◌, ◌≡◌, List, length, get_or}
use Rattle.digits.specs.Digit.{digit_of}

-- the digit's value of each of the 256 characters
pub record DigitTable (values : List ℕ) : Type 0 where
  pub size : length values ≡ 256
  pub entry : (c : ℕ) → c < 256 → get_or values c 0 ≡ digit_of c
