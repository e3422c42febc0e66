-- Laws of one pair: a digit's character is computed, at all 16 of them, and two characters are a byte's digits.
use Prim.Native.Nat.{ℕ, ◌+◌, ◌/◌, ◌%◌, ◌<◌, ◌≤◌}
use mathlib.Core.Path.{◌≡◌, refl, sym}
use mathlib.Core.Bool.{true, false}
use mathlib.Core.List.{List, [], ◌∷◌}
use native.Mathlib.Omega.{arith}
use borrow.Author.Tests.{lt-ltb, le-ltb}
use lib.Dec.{ltb}
use lib.ListN.{length, get_or, set}
use lib.Seq.{paste}
use Rattle.digits.specs.Digit.{digits, hex}
use Rattle.digits.proofs.Laws.{entry}
use Rattle.fields.proofs.Laws.{paste_one, paste_byte}

abbrev computed : ℕ → ℕ
computed n = elim (ltb n 10) [ true ↦ 48 + n | false ↦ 55 + n ]

is-computed : (n : ℕ) → n < 16 → get_or digits n 0 ≡ computed n
unfolding digits
is-computed = entry computed digits refl

pub low_digit : (n : ℕ) → n < 10 → get_or digits n 0 ≡ 48 + n
low_digit n h = rw (is-computed n (omega arith), lt-ltb n 10 h, computed) refl

pub high_digit : (n : ℕ) → 10 ≤ n → n < 16 → get_or digits n 0 ≡ 55 + n
high_digit n more h = rw (is-computed n h, le-ltb n 10 more, computed) refl

pub put_digits : (d : List ℕ) (at byte : ℕ) → at + 2 ≤ length d →
    paste d at (hex (byte ∷ [])) 2 ≡ set (set d at (get_or digits (byte / 16) 0)) (at + 1) (get_or digits (byte % 16) 0)
unfolding hex
put_digits d at byte room =
    let high = get_or digits (byte / 16) 0 in
    sym (paste_byte d at (high ∷ []) 1 (get_or digits (byte % 16) 0) (set d at high) (at + 1) (paste_one d at high (omega arith)) refl refl (omega arith))
