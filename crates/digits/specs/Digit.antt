-- Capital hexadecimal digits both ways: numbers to characters, and characters to values. Document 01, "MCS text" and "Proof cases".
use Rattle.std.specs.Prelude.{ℕ, zero, suc, ◌+◌, ◌/◌, ◌%◌, Bool, true, false, List, [], ◌∷◌, ◌++◌, eqb, ltb, get_or}

-- the capital hexadecimal digits: 0 to 9, A to F
unfoldable pub digits : List ℕ
digits =
    0x30 ∷ 0x31 ∷ 0x32 ∷ 0x33 ∷ 0x34 ∷ 0x35 ∷ 0x36 ∷ 0x37 ∷ 0x38 ∷ 0x39
    ∷ 0x41 ∷ 0x42 ∷ 0x43 ∷ 0x44 ∷ 0x45 ∷ 0x46 ∷ []

-- Numbers to characters.

-- `count` digits of a number, the highest first
unfoldable pub hexadecimal : ℕ → ℕ → List ℕ
hexadecimal zero n = []
hexadecimal (suc count) n = hexadecimal count (n / 16) ++ get_or digits (n % 16) 0 ∷ []

-- bytes as pairs of digits
unfoldable pub hex : List ℕ → List ℕ
hex [] = []
hex (byte ∷ bytes) = get_or digits (byte / 16) 0 ∷ get_or digits (byte % 16) 0 ∷ hex bytes

-- what bytes add to
unfoldable pub byte_sum : List ℕ → ℕ
byte_sum [] = 0
byte_sum (byte ∷ bytes) = byte + byte_sum bytes

-- Characters to values.

-- where a character is in a list; the list's length where it is not
unfoldable pub place_in : List ℕ → ℕ → ℕ
place_in [] c = 0
place_in (d ∷ ds) c = elim (eqb c d) [ true ↦ 0 | false ↦ suc (place_in ds c) ]

-- the value of a character as a capital hexadecimal digit, 16 where it is none
unfoldable pub digit_of : ℕ → ℕ
digit_of c = place_in digits c

abbrev pub is_digit : ℕ → Bool
is_digit c = ltb (digit_of c) 16
