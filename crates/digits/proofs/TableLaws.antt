-- A rule of a table, proved at all of its entries by one test that is computed, one entry after the other.
use Prim.Native.Nat.{ℕ, zero, suc, ◌+◌, ◌<◌}
use mathlib.Core.Path.{◌≡◌, refl}
use mathlib.Core.Bool.{Bool, true, ◌&&◌}
use mathlib.Core.List.{List, [], ◌∷◌, ◌++◌}
use native.Mathlib.Nat.{add-zero}
use native.Mathlib.Omega.{arith}
use borrow.Author.Tests.{eqb-true}
use lib.Dec.{eqb}
use lib.ListN.{length, get_or, replicate}
use Rattle.base.proofs.Laws.{both_true}
use Rattle.digits.specs.Digit.{digits, place_in, digit_of}
use Rattle.digits.specs.Table.{DigitTable}

-- each entry, from place i on, is what the rule says of its place
abbrev pub agrees : (ℕ → ℕ) → ℕ → List ℕ → Bool
agrees rule i [] = true
agrees rule i (x ∷ xs) = eqb x (rule i) && agrees rule (suc i) xs

entry_from : (rule : ℕ → ℕ) (xs : List ℕ) (i : ℕ) → agrees rule i xs ≡ true → (k : ℕ) → k < length xs → get_or xs k 0 ≡ rule (i + k)
entry_from rule [] i t k h = absurd (omega arith)
entry_from rule (x ∷ xs) i t zero h = rw add-zero (eqb-true x (rule i) (both_true (eqb x (rule i)) (agrees rule (suc i) xs) t).0)
entry_from rule (x ∷ xs) i t (suc k) h =
    let e : suc i + k ≡ i + suc k = omega arith in
    rw e at (entry_from rule xs (suc i) (both_true (eqb x (rule i)) (agrees rule (suc i) xs) t).1 k (omega arith))

pub entry : (rule : ℕ → ℕ) (xs : List ℕ) → agrees rule 0 xs ≡ true → (k : ℕ) → k < length xs → get_or xs k 0 ≡ rule k
entry rule xs t k h = let e : 0 + k ≡ k = omega arith in rw e at (entry_from rule xs 0 t k h)

-- The code's table: up to 0 to 9, up to A to F, and after them.
unfoldable pub values : List ℕ
values =
    replicate 48 16 ++ (0 ∷ 1 ∷ 2 ∷ 3 ∷ 4 ∷ 5 ∷ 6 ∷ 7 ∷ 8 ∷ 9 ∷ replicate 7 16)
    ++ (10 ∷ 11 ∷ 12 ∷ 13 ∷ 14 ∷ 15 ∷ replicate 185 16)

pub digit_table : DigitTable values
unfolding values digit_of place_in digits
digit_table = record { size = refl; entry = entry digit_of values refl }
