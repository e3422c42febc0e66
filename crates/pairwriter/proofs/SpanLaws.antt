-- Laws of bytes: one byte more, as its digits and as its value.
use Prim.Native.Nat.{ℕ, ◌+◌, ◌*◌, ◌<◌, ◌≤◌}
use mathlib.Core.Path.{◌≡◌, refl, sym, ap, ap₂, ◌∙◌}
use mathlib.Core.List.{List, [], ◌∷◌, ◌++◌}
use native.Mathlib.Numerals.{add-one}
use native.Mathlib.Omega.{arith}
use lib.ListN.{length, get_or, take}
use lib.Seq.{paste, take-suc, length-take-le}
use Rattle.digits.specs.Digit.{hex, byte_sum}
use Rattle.digits.proofs.Laws.{hex_long, hex_append, total_end}
use Rattle.fields.proofs.Laws.{paste_paste}

-- Nothing adds to nothing, and has no digits.
pub no_sum : byte_sum [] ≡ 0
unfolding byte_sum
no_sum = refl

pub no_digits : hex [] ≡ []
unfolding hex
no_digits = refl

module _ (bytes : List ℕ) (i : ℕ) (h : i < length bytes) where
  next : take (i + 1) bytes ≡ take i bytes ++ get_or bytes i 0 ∷ []
  next = rw (add-one, take-suc bytes i 0 h) refl

  pub next_sum : byte_sum (take (i + 1) bytes) ≡ byte_sum (take i bytes) + get_or bytes i 0
  next_sum = ap byte_sum next ∙ total_end (take i bytes) (get_or bytes i 0)

  -- The next byte's digits, put after those of the bytes before it.
  pub next_put : (d mid : List ℕ) (at : ℕ) → mid ≡ paste d at (hex (take i bytes)) (2 * i) → at + 2 * (i + 1) ≤ length d →
      paste mid (at + 2 * i) (hex (get_or bytes i 0 ∷ [])) 2 ≡ paste d at (hex (take (i + 1) bytes)) (2 * (i + 1))
  next_put d mid at put room =
      let byte = get_or bytes i 0 ∷ [] in
      let long : length (take i bytes) ≡ i = length-take-le i bytes (omega arith) in
      let two : 2 * i + 2 ≡ 2 * (i + 1) = omega arith in
      ap (λ (l : List ℕ). paste l (at + 2 * i) (hex byte) 2) put
      ∙ paste_paste d at (hex (take i bytes)) (2 * i) (hex byte) 2 (omega (arith, hex_long (take i bytes))) (hex_long byte) (omega arith)
      ∙ ap₂ (λ (l : List ℕ) (k : ℕ). paste d at l k) (sym (ap hex next ∙ hex_append (take i bytes) byte)) two
