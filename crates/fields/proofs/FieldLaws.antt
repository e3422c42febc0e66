-- Laws of numbers as text.
use Prim.Native.Nat.{ℕ, zero, suc, ◌+◌, ◌-◌, ◌*◌, ◌/◌, ◌%◌, ◌^◌, ◌<◌, ◌≤◌}
use mathlib.Core.Path.{◌≡◌, refl, sym, ap, ap₂, ◌∙◌}
use mathlib.Core.Bool.{Bool, true, false}
use mathlib.Core.List.{List, [], ◌∷◌, ◌++◌}
use native.Mathlib.Nat.{pow-suc}
use native.Mathlib.Omega.{arith}
use borrow.Author.Tests.{lt-ltb, le-ltb, ltb-true, ltb-false}
use lib.Dec.{ltb, lit≤}
use lib.ListN.{length, get_or, set, length-append}
use lib.Seq.{paste}
use Rattle.fields.specs.Fields.{decimal_in, decimal}
use Rattle.digits.specs.Digit.{digits, hexadecimal}
use Rattle.fields.proofs.PutLaws.{put_behind}

-- A field of so many digits is so long.
pub length_hexadecimal : (count n : ℕ) → length (hexadecimal count n) ≡ count
unfolding hexadecimal
length_hexadecimal zero n = refl
length_hexadecimal (suc count) n =
    let h : length (hexadecimal count (n / 16)) ≡ count = length_hexadecimal count (n / 16) in
    omega (arith, length-append (hexadecimal count (n / 16)) (get_or digits (n % 16) 0 ∷ []))

-- Its last digit stands after those of the number's sixteenth.
pub hexadecimal_step : (count n : ℕ) → 0 < count → hexadecimal count n ≡ hexadecimal (count - 1) (n / 16) ++ get_or digits (n % 16) 0 ∷ []
unfolding hexadecimal
hexadecimal_step zero n h = absurd (omega arith)
hexadecimal_step (suc count) n h = let e : count ≡ suc count - 1 = omega arith in ap (λ (k : ℕ). hexadecimal k (n / 16) ++ get_or digits (n % 16) 0 ∷ []) e

-- A number below ten is its digit,
pub decimal_small : (n : ℕ) → n < 10 → decimal n ≡ (48 + n) ∷ []
unfolding decimal_in
decimal_small n h = rw (lt-ltb n 10 h, decimal_in) refl

-- which is one byte.
pub length_small : (n : ℕ) → n < 10 → length (decimal n) ≡ 1
length_small n h = ap (λ (s : List ℕ). length s) (decimal_small n h)

-- Any bound above the number gives all its digits.
enough : (a b n : ℕ) → n < a → n < b → decimal_in a n ≡ decimal_in b n
unfolding decimal_in
enough zero b n h k = absurd (omega arith)
enough (suc a) zero n h k = absurd (omega arith)
enough (suc a) (suc b) n h k = go (ltb n 10) refl (λ l m. enough a b (n / 10) l m)
  where
    go : (t : Bool) → ltb n 10 ≡ t → (n / 10 < a → n / 10 < b → decimal_in a (n / 10) ≡ decimal_in b (n / 10)) → decimal_in (suc a) n ≡ decimal_in (suc b) n
    go true e ih = rw (e, decimal_in) refl
    go false e ih = let l : 10 ≤ n = ltb-false n 10 e in rw (e, decimal_in) (ap (λ (s : List ℕ). s ++ (48 + n % 10) ∷ []) (ih (omega arith) (omega arith)))

-- A number of more: its last digit stands after those of its tenth.
pub decimal_step : (n : ℕ) → 10 ≤ n → decimal n ≡ decimal (n / 10) ++ (48 + n % 10) ∷ []
unfolding decimal_in
decimal_step n h = rw (le-ltb n 10 h, decimal_in) (ap (λ (s : List ℕ). s ++ (48 + n % 10) ∷ []) (enough n (suc (n / 10)) (n / 10) (omega arith) (omega arith)))

-- That is one digit more.
pub length_step : (n : ℕ) → 10 ≤ n → length (decimal n) ≡ length (decimal (n / 10)) + 1
length_step n h = ap (λ (s : List ℕ). length s) (decimal_step n h) ∙ length-append (decimal (n / 10)) ((48 + n % 10) ∷ [])

-- A number below a power of ten has at most so many digits.
pub length_below : (k n : ℕ) → n < 10 ^ suc k → length (decimal n) ≤ suc k
length_below zero n h = let l : n < 10 = h in omega (arith, length_small n l)
length_below (suc k) n h = go (ltb n 10) refl (length_below k (n / 10))
  where
    go : (t : Bool) → ltb n 10 ≡ t → (n / 10 < 10 ^ suc k → length (decimal (n / 10)) ≤ suc k) → length (decimal n) ≤ suc (suc k)
    go true e ih = omega (arith, length_small n (ltb-true n 10 e))
    go false e ih =
        let l : 10 ≤ n = ltb-false n 10 e in
        let b : n < 10 ^ suc k * 10 = rw (pow-suc 10 (suc k)) at h in
        let i : length (decimal (n / 10)) ≤ suc k = ih (omega (arith, b)) in
        omega (arith, length_step n l)

-- So one of 64 bits has at most 20.
pub length_word : (n : ℕ) → n < 2 ^ 64 → length (decimal n) ≤ 20
length_word n h = length_below 19 n (let b : 2 ^ 64 ≤ 10 ^ 20 = lit≤ tt in omega arith)

-- Its tenth has one less.
pub length_tenth : (n : ℕ) → 10 ≤ n → n < 2 ^ 64 → length (decimal (n / 10)) + 1 ≤ 20
length_tenth n more h = omega (arith, length_step n more, length_word n h)

-- The last hexadecimal digit is stored before the others.
pub digit_behind : (d characters : List ℕ) (at count n : ℕ) → characters ≡ digits → 0 < count → at + count ≤ length d →
    paste (set d (at + (count - 1)) (get_or characters (n % 16) 0)) at (hexadecimal (count - 1) (n / 16)) (count - 1) ≡ paste d at (hexadecimal count n) count
digit_behind d characters at count n same some room =
    let one : count - 1 + 1 ≡ count = omega arith in
    ap (λ (l : List ℕ). paste (set d (at + (count - 1)) (get_or l (n % 16) 0)) at (hexadecimal (count - 1) (n / 16)) (count - 1)) same
    ∙ put_behind d at (hexadecimal (count - 1) (n / 16)) (count - 1) (get_or digits (n % 16) 0) (length_hexadecimal (count - 1) (n / 16)) (omega arith)
    ∙ ap₂ (λ (s : List ℕ) (k : ℕ). paste d at s k) (sym (hexadecimal_step count n some)) one
