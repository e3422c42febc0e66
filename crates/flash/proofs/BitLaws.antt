-- Laws of a number's bits.
use Prim.Native.Nat.{ℕ, zero, suc, ◌+◌, ◌-◌, ◌*◌, ◌/◌, ◌%◌, ◌^◌, ◌<◌, ◌≤◌, min}
use mathlib.Core.Path.{◌≡◌, refl, sym, ap, ap₂, ◌∙◌}
use mathlib.Core.Logic.{◌⊎◌, inl, inr, ⊎_elim}
use native.Mathlib.Nat.{pow-succ', div-div-eq-div-mul, zero-div, mod-eq_of_lt}
use native.Mathlib.Omega.{arith}
use lib.Bits.{bit_and, bit_xor, differ, and_lt, and_mask, and_shr, and_step, xor_add_and, xor_lt, xor_shr, xor_step}
use Rattle.flash.specs.Flash.{bit}

-- bit n of a number's half is bit n + 1 of the number
pub half_bit : (n a : ℕ) → bit n (a / 2) ≡ bit (suc n) a
half_bit n a = ap (λ (q : ℕ). q % 2) (div-div-eq-div-mul a 2 (2 ^ n) ∙ ap (λ (d : ℕ). a / d) (sym (pow-succ' 2 n)))

-- Numbers of k bits are equal when their bits are.
pub same_bits : (k a b : ℕ) → a < 2 ^ k → b < 2 ^ k → ((n : ℕ) → n < k → bit n a ≡ bit n b) → a ≡ b
same_bits zero a b h l same = omega arith
same_bits (suc k) a b h l same =
    let p : 2 ^ suc k ≡ 2 * 2 ^ k = pow-succ' 2 k in
    let low : a / 1 % 2 ≡ b / 1 % 2 = same 0 (omega arith) in
    let high : a / 2 ≡ b / 2 = same_bits k (a / 2) (b / 2) (omega arith) (omega arith) (λ n m. half_bit n a ∙ same (suc n) (omega arith) ∙ sym (half_bit n b)) in
    omega arith

-- All k bits of 2^k - 1 are 1.
pub all_ones : (k n : ℕ) → n < k → bit n (2 ^ k - 1) ≡ 1
all_ones zero n h = absurd (omega arith)
all_ones (suc k) zero h =
    let p : 2 ^ suc k ≡ 2 * 2 ^ k = pow-succ' 2 k in
    let q : 0 < 2 ^ k = pow_positive k in
    let e : (2 ^ suc k - 1) / 1 % 2 ≡ 1 = omega arith in e
  where
    pow_positive : (k : ℕ) → 0 < 2 ^ k
    pow_positive zero = omega arith
    pow_positive (suc k) = let p : 2 ^ suc k ≡ 2 * 2 ^ k = pow-succ' 2 k in let q = pow_positive k in omega arith
all_ones (suc k) (suc n) h =
    let p : 2 ^ suc k ≡ 2 * 2 ^ k = pow-succ' 2 k in
    let half : (2 ^ suc k - 1) / 2 ≡ 2 ^ k - 1 = omega arith in
    sym (half_bit n (2 ^ suc k - 1)) ∙ ap (bit n) half ∙ all_ones k n (omega arith)

-- A bit is at most 1.
pub bit_most : (n a : ℕ) → bit n a ≤ 1
bit_most n a = omega arith

-- bit n of a conjunction
pub bit_and_law : (n a b : ℕ) → bit n (bit_and a b) ≡ min (bit n a) (bit n b)
bit_and_law n a b =
    let x = a / 2 ^ n in
    let y = b / 2 ^ n in
    let s : bit_and x y ≡ bit_and (x / 2) (y / 2) * 2 + min (x % 2) (y % 2) = and_step x y in
    let e : bit_and x y % 2 ≡ min (x % 2) (y % 2) = omega arith in
    ap (λ (q : ℕ). q % 2) (and_shr a b n) ∙ e

-- Whether two digits differ is a digit.
pub differ_most : (x y : ℕ) → x ≤ 1 → y ≤ 1 → differ x y ≤ 1
differ_most zero y p q = q
differ_most (suc x) zero p q = p
differ_most (suc x) (suc y) p q = differ_most x y (omega arith) (omega arith)

-- bit n of a difference
pub bit_xor_law : (n a b : ℕ) → bit n (bit_xor a b) ≡ differ (bit n a) (bit n b)
bit_xor_law n a b =
    let x = a / 2 ^ n in
    let y = b / 2 ^ n in
    let s : bit_xor x y ≡ bit_xor (x / 2) (y / 2) * 2 + differ (x % 2) (y % 2) = xor_step x y in
    let d : differ (x % 2) (y % 2) ≤ 1 = differ_most (x % 2) (y % 2) (omega arith) (omega arith) in
    let e : bit_xor x y % 2 ≡ differ (x % 2) (y % 2) = omega arith in
    ap (λ (q : ℕ). q % 2) (xor_shr a b n) ∙ e

-- The complement of a number of k bits differs from it in each of them.
pub not_xor : (k a : ℕ) → a < 2 ^ k → 2 ^ k - 1 - a ≡ bit_xor a (2 ^ k - 1)
not_xor k a h =
    let s : bit_xor a (2 ^ k - 1) + bit_and a (2 ^ k - 1) * 2 ≡ a + (2 ^ k - 1) = xor_add_and a (2 ^ k - 1) in
    let m : bit_and a (2 ^ k - 1) ≡ a = and_mask a k ∙ mod-eq_of_lt h in
    omega arith

pub bit_not : (k n a : ℕ) → a < 2 ^ k → n < k → bit n (2 ^ k - 1 - a) ≡ differ (bit n a) 1
bit_not k n a h m = ap (bit n) (not_xor k a h) ∙ bit_xor_law n a (2 ^ k - 1) ∙ ap (λ (b : ℕ). differ (bit n a) b) (all_ones k n m)

-- A digit that differs from not both others is one of them,
equal_one : (x y z : ℕ) → x ≤ 1 → y ≤ 1 → z ≤ 1 → min (differ x y) (differ x z) ≡ 0 → (x ≡ y) ⊎ (x ≡ z)
equal_one zero zero z p q r e = inl refl
equal_one zero (suc y) zero p q r e = inr refl
equal_one zero (suc y) (suc z) p q r e = absurd (omega arith)
equal_one (suc zero) zero zero p q r e = absurd (omega arith)
equal_one (suc zero) zero (suc z) p q r e = inr (omega arith)
equal_one (suc zero) (suc y) z p q r e = inl (omega arith)
equal_one (suc (suc x)) y z p q r e = absurd (omega arith)

-- and the other way round.
differ_self : (x : ℕ) → differ x x ≡ 0
differ_self zero = refl
differ_self (suc x) = differ_self x

one_equal : (x y z : ℕ) → (x ≡ y) ⊎ (x ≡ z) → min (differ x y) (differ x z) ≡ 0
one_equal x y z =
    ⊎_elim
    (λ e. let d : differ x y ≡ 0 = rw (sym e) (differ_self x) in omega arith)
    (λ e. let d : differ x z ≡ 0 = rw (sym e) (differ_self x) in omega arith)

-- bit n of what differs from both
differing : (n old ordered new : ℕ) → bit n (bit_and (bit_xor new old) (bit_xor new ordered)) ≡ min (differ (bit n new) (bit n old)) (differ (bit n new) (bit n ordered))
differing n old ordered new = bit_and_law n (bit_xor new old) (bit_xor new ordered) ∙ ap₂ (λ (x y : ℕ). min x y) (bit_xor_law n new old) (bit_xor_law n new ordered)

zero_bit : (n : ℕ) → bit n 0 ≡ 0
zero_bit n = ap (λ (q : ℕ). q % 2) (zero-div (2 ^ n))

-- Where no bit differs from both, each is old or ordered,
pub each_bit : (old ordered new : ℕ) → bit_and (bit_xor new old) (bit_xor new ordered) ≡ 0 → (n : ℕ) → (bit n new ≡ bit n old) ⊎ (bit n new ≡ bit n ordered)
each_bit old ordered new none n =
    equal_one (bit n new) (bit n old) (bit n ordered) (bit_most n new) (bit_most n old) (bit_most n ordered)
    (sym (differing n old ordered new) ∙ ap (bit n) none ∙ zero_bit n)

-- and the other way round, in numbers of k bits.
pub no_bit_differs : (k old ordered new : ℕ) → old < 2 ^ k → ordered < 2 ^ k → new < 2 ^ k → ((n : ℕ) → n < k → (bit n new ≡ bit n old) ⊎ (bit n new ≡ bit n ordered)) →
    bit_and (bit_xor new old) (bit_xor new ordered) ≡ 0
no_bit_differs k old ordered new p q r each =
    same_bits k (bit_and (bit_xor new old) (bit_xor new ordered)) 0 (and_lt k _ _ (xor_lt k _ _ r p) (xor_lt k _ _ r q)) (let z : 0 < 2 ^ k = omega arith in z)
    (λ n m. differing n old ordered new ∙ one_equal (bit n new) (bit n old) (bit n ordered) (each n m) ∙ sym (zero_bit n))
