-- `count_changing` meets its contract.
use Prim.Native.Nat.{ℕ, ◌*◌, ◌%◌, ◌^◌, ◌<◌}
use mathlib.Core.Path.{◌≡◌, refl, ap, ap₂, ◌∙◌}
use native.Mathlib.Nat.{one-mul, mod-eq_of_lt}
use native.Mathlib.Omega.{arith}
use mathlib.Core.Bool.{Bool, true, false}
use mir.Val.{bool_byte}
use lib.Dec.{eqb}
use lib.Count.{ones, ones-le}
use lib.Pow.{pow-lt}
use Rattle.base.specs.Question.{ask}
use Rattle.outcomes.specs.Internal.{outside, changing_counts}
use Rattle.outcomes.proofs.count_changing.Goals as goal

-- At most 32 bits are set, so the shift loses nothing.
shifted : (changing : ℕ) → changing < 2 ^ 32 → 1 * 2 ^ ones changing % 2 ^ 64 ≡ 2 ^ ones changing
shifted changing h =
    let few = ones-le 32 changing h in
    let wide : 2 ^ ones changing < 2 ^ 64 = pow-lt {j = 64} (omega arith) in
    ap (λ (n : ℕ). n % 2 ^ 64) (one-mul (2 ^ ones changing)) ∙ mod-eq_of_lt wide

one : (b : Bool) → bool_byte b ≡ ask b 0 1
unfolding ask
one true = refl
one false = refl

pub returns : goal.returns
unfolding changing_counts
returns c =
    ap₂ (λ (words on : ℕ). record { words = words; on = on })
    (shifted c.args.changing c.ranges.changing.fits)
    (c.from-on.ensures ∙ rw c.from_be_bytes.ensures (one (eqb (outside c.args.old c.args.changing) 0)))
