-- Laws of digits: a digit and its value, both ways; the digits of bytes, and what bytes add to.
use Prim.Native.Nat.{ℕ, zero, suc, ◌+◌, ◌*◌, ◌/◌, ◌%◌, ◌<◌, ◌≤◌}
use mathlib.Core.Path.{◌≡◌, refl, sym, ap}
use mathlib.Core.Bool.{Bool, true, false, ◌&&◌}
use mathlib.Core.List.{List, [], ◌∷◌, ◌++◌}
use native.Mathlib.Omega.{arith}
use borrow.Author.Tests.{eqb-true, lt-ltb, ltb-true, ltb-false}
use lib.Dec.{eqb, ltb}
use lib.ListN.{length, get_or}
use Rattle.base.proofs.Laws.{both_true}
use Rattle.digits.specs.Digit.{digits, hex, byte_sum, place_in, digit_of, is_digit}

place_most : (ds : List ℕ) (c : ℕ) → place_in ds c ≤ length ds
unfolding place_in
place_most [] c = omega arith
place_most (d ∷ ds) c = go (eqb c d) refl (place_most ds c)
  where
    go : (b : Bool) → eqb c d ≡ b → place_in ds c ≤ length ds → place_in (d ∷ ds) c ≤ length (d ∷ ds)
    go true e ih = rw (e, place_in) (omega arith)
    go false e ih = rw (e, place_in) (omega arith)

pub digit_most : (c : ℕ) → digit_of c ≤ 16
unfolding digit_of digits
digit_most c = place_most digits c

-- a test that holds at each number below another, computed
abbrev below : (ℕ → Bool) → ℕ → Bool
below test zero = true
below test (suc n) = test n && below test n

at_below : (test : ℕ → Bool) (n : ℕ) → below test n ≡ true → (k : ℕ) → k < n → test k ≡ true
at_below test zero t k h = absurd (omega arith)
at_below test (suc n) t k h = go (ltb k n) refl (at_below test n (both_true (test n) (below test n) t).1 k)
  where
    go : (b : Bool) → ltb k n ≡ b → (k < n → test k ≡ true) → test k ≡ true
    go true l ih = ih (ltb-true k n l)
    go false l ih = let e : k ≡ n = omega (arith, ltb-false k n l) in rw e (both_true (test n) (below test n) t).0

-- the digit of a number below 16 has its value
pub digit_value : (n : ℕ) → n < 16 → digit_of (get_or digits n 0) ≡ n
unfolding digit_of place_in digits
digit_value n h = eqb-true _ _ (at_below (λ (k : ℕ). eqb (digit_of (get_or digits k 0)) k) 16 refl n h)

place_here : (d c : ℕ) (ds : List ℕ) → eqb c d ≡ true → place_in (d ∷ ds) c ≡ 0
unfolding place_in
place_here d c ds e = rw (e, place_in)

place_on : (d c : ℕ) (ds : List ℕ) → eqb c d ≡ false → place_in (d ∷ ds) c ≡ suc (place_in ds c)
unfolding place_in
place_on d c ds e = rw (e, place_in)

-- a digit is that of its value
place_of : (ds : List ℕ) (c : ℕ) → place_in ds c < length ds → get_or ds (place_in ds c) 0 ≡ c
place_of [] c h = absurd (omega arith)
place_of (d ∷ ds) c h = go (eqb c d) refl (place_of ds c)
  where
    go : (b : Bool) → eqb c d ≡ b → (place_in ds c < length ds → get_or ds (place_in ds c) 0 ≡ c) → get_or (d ∷ ds) (place_in (d ∷ ds) c) 0 ≡ c
    go true e ih = rw (place_here d c ds e) (sym (eqb-true c d e))
    go false e ih = rw (place_on d c ds e) (ih (let k : suc (place_in ds c) < suc (length ds) = rw (place_on d c ds e) at h in omega arith))

pub value_digit : (c : ℕ) → digit_of c < 16 → get_or digits (digit_of c) 0 ≡ c
unfolding digit_of digits
value_digit c h = place_of digits c h

pub is_digit_law : (n : ℕ) → n < 16 → is_digit (get_or digits n 0) ≡ true
is_digit_law n h = lt-ltb (digit_of (get_or digits n 0)) 16 (rw (digit_value n h) h)

-- two digits and the byte they make
pub byte_of : (b : ℕ) → b < 256 → 16 * digit_of (get_or digits (b / 16) 0) + digit_of (get_or digits (b % 16) 0) ≡ b
byte_of b h =
    let e : digit_of (get_or digits (b / 16) 0) ≡ b / 16 = digit_value (b / 16) (omega arith) in
    let f : digit_of (get_or digits (b % 16) 0) ≡ b % 16 = digit_value (b % 16) (omega arith) in
    rw (e, f) (omega arith)

pub hex_long : (bytes : List ℕ) → length (hex bytes) ≡ 2 * length bytes
unfolding hex
hex_long [] = refl
hex_long (b ∷ bytes) = let h = hex_long bytes in omega arith

-- The digits of bytes and more bytes stand one after the other;
pub hex_append : (xs ys : List ℕ) → hex (xs ++ ys) ≡ hex xs ++ hex ys
unfolding hex
hex_append [] ys = refl
hex_append (x ∷ xs) ys = ap (λ (l : List ℕ). get_or digits (x / 16) 0 ∷ get_or digits (x % 16) 0 ∷ l) (hex_append xs ys)

-- a byte more adds itself.
pub total_end : (xs : List ℕ) (x : ℕ) → byte_sum (xs ++ x ∷ []) ≡ byte_sum xs + x
unfolding byte_sum
total_end [] x = omega arith
total_end (y ∷ ys) x = let ih : byte_sum (ys ++ x ∷ []) ≡ byte_sum ys + x = total_end ys x in omega arith
