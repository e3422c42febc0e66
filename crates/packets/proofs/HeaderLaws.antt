-- What a word says as a header, by its highest bits: the writes of type 1 and of type 2.
use Prim.Native.Nat.{ℕ, ◌/◌, ◌%◌, ◌^◌, ◌<◌}
use mathlib.Core.Path.{◌≡◌, refl}
use mathlib.Core.Bool.{true}
use native.Mathlib.Omega.{arith}
use borrow.Author.Tests.{eq-eqb, ne_eqb}
use Rattle.base.specs.Question.{ask}
use Rattle.packets.specs.Header.{field, CMD, register_ok, type1_of, type2_of, head_of}
use Rattle.packets.specs.Types.{Type1, Type2}

reserved_clear : (word : ℕ) → word % 2 ^ 13 < 2 ^ 11 → field word 11 2 ≡ 0
reserved_clear word low = omega arith

pub type1_write : (word : ℕ) → word / 2 ^ 18 ≡ 0x0C00 → word % 2 ^ 13 < 2 ^ 11 → register_ok (field word 13 5) ≡ true → head_of word ≡ Type1 (field word 13 5) (word % 2 ^ 11)
unfolding head_of type1_of ask
type1_write word high low ok =
    let kind : word / 2 ^ 29 ≡ 1 = omega (arith, high) in
    let reserved : field word 18 9 ≡ 0 = omega (arith, high) in
    let operation : field word 27 2 ≡ 2 = omega (arith, high) in
    rw (eq-eqb _ _ kind, head_of) (simp (eq-eqb _ _ reserved, eq-eqb _ _ (reserved_clear word low), eq-eqb _ _ operation, ok))

pub type2_write : (word : ℕ) → word / 2 ^ 27 ≡ 0x0A → head_of word ≡ Type2 (word % 2 ^ 27)
unfolding head_of type2_of ask
type2_write word high =
    let kind : word / 2 ^ 29 ≡ 2 = omega (arith, high) in
    let operation : field word 27 2 ≡ 2 = omega (arith, high) in
    rw (ne_eqb (word / 2 ^ 29) 1 (λ h. omega (arith, h, kind)), head_of) (simp (eq-eqb _ _ kind, eq-eqb _ _ operation))

-- CMD may be named.
pub command_ok : register_ok CMD ≡ true
unfolding register_ok
command_ok = refl
