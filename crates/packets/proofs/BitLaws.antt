-- A set of numbers as bits: that it is the set that a definition says is decided for all numbers below a bound at once, by computing.
use Prim.Native.Nat.{ℕ, zero, suc, ◌<◌}
use mathlib.Core.Path.{◌≡◌, refl, sym, subst}
use mathlib.Core.Bool.{Bool, true, false, ◌&&◌, beq}
use mathlib.Core.Logic.{inl, inr}
use native.Mathlib.Omega.{arith}
use Rattle.packets.specs.Header.{in_set}
use Rattle.base.proofs.Laws.{both_true, below_or_not}

beq_equal : (a b : Bool) → beq a b ≡ true → a ≡ b
beq_equal true true e = refl
beq_equal true false e = sym e
beq_equal false true e = e
beq_equal false false e = refl

unfoldable pub is_set_of : ℕ → (ℕ → Bool) → ℕ → Bool
is_set_of bits says zero = true
is_set_of bits says (suc n) = beq (in_set bits n) (says n) && is_set_of bits says n

pub set_below : (bits : ℕ) (says : ℕ → Bool) (n : ℕ) → is_set_of bits says n ≡ true → (i : ℕ) → i < n → in_set bits i ≡ says i
unfolding is_set_of
set_below bits says zero e i below = absurd (omega (arith, below))
set_below bits says (suc n) e i below =
    let (last, lower) = both_true (beq (in_set bits n) (says n)) (is_set_of bits says n) e in
    elim (below_or_not i n) [
      | inl less ↦ set_below bits says n lower i less
      | inr more ↦ subst (λ (j : ℕ). in_set bits j ≡ says j) (omega (arith, below, more)) (beq_equal _ _ last)
    ]
