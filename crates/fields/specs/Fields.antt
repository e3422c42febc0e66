-- Text and numbers as the bytes of a report. Document 01, "Proof cases": the program `bootreport`.
use Rattle.std.specs.Prelude.{ℕ, zero, suc, ◌+◌, ◌/◌, ◌%◌, true, false, List, [], ◌∷◌, ◌++◌, ltb}
use Prim.Native.Char.{code}
use Prim.Native.String.{String, [] as no_text, ◌∷◌ as ◌then◌}

-- the bytes of a text
unfoldable pub ascii : String → List ℕ
ascii no_text = []
ascii (c then text) = code c ∷ ascii text

-- a number in decimal, given a bound on the number of its digits
unfoldable pub decimal_in : ℕ → ℕ → List ℕ
decimal_in zero n = []
decimal_in (suc most) n = elim (ltb n 10) [ true ↦ (48 + n) ∷ [] | false ↦ decimal_in most (n / 10) ++ (48 + n % 10) ∷ [] ]

-- It has no more digits than one for each unit.
abbrev pub decimal : ℕ → List ℕ
decimal n = decimal_in (suc n) n
