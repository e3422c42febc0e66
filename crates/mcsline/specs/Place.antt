-- What only the contracts of functions that are not public calls cite: lines by their place in the text. No promise of a public call rests on it.
use Rattle.std.specs.Prelude.{ℕ, ◌+◌, ◌*◌, ◌≤◌, ◌≡◌, true, false, List, [], ◌∷◌, eqb, length, get_or, drop, Option, Some, None, Result, Ok, Err}
use Rattle.digits.specs.Digit.{byte_sum}
use Rattle.digits.specs.Pairs.{pair_at, pairs_at}
use Rattle.mcsline.specs.Record.{LF, CR, Data, ExtendedLinearAddress, End}
use Rattle.mcsline.specs.Line.{line_spells, Parsed, parsed}
use Rattle.mcsline.specs.Types.{Reason, BadLine, CodeLine, DataLine, ExtendedLinearAddressLine, EndLine, Shape}

-- the length of a line end that begins with two characters, 0 where they are none
unfoldable pub ending_of : ℕ → ℕ → ℕ
ending_of a b = elim (eqb a LF) [ true ↦ 1 | false ↦ elim (eqb a CR) [ true ↦ elim (eqb b LF) [ true ↦ 2 | false ↦ 0 ] | false ↦ 0 ] ]

abbrev pub ending_at : List ℕ → ℕ → ℕ
ending_at text at = ending_of (get_or text at 0) (get_or text (at + 1) 0)

-- the characters up to the first LF, that included
unfoldable pub first_line : List ℕ → List ℕ
first_line [] = []
first_line (c ∷ cs) = elim (eqb c LF) [ true ↦ c ∷ [] | false ↦ c ∷ first_line cs ]

abbrev pub line_at : List ℕ → ℕ → List ℕ
line_at text at = first_line (drop at text)

-- a line that passes questions 14 to 16
abbrev pub Sound : List ℕ → Type 0
Sound line = (reason : Reason) → parsed line ≡ Err reason → ⊥

-- a line of `count` data bytes with all its characters in order, up to `end`
pub record Orderly (text : List ℕ) (at count end : ℕ) : Type 0 where
  pub spells : line_spells (line_at text at) ≡ Some (pairs_at text (at + 1) (count + 5))
  pub counted : count ≡ pair_at text (at + 1)
  pub ends : end ≡ at + length (line_at text at)
  pub long : at + 2 * count + 11 ≤ length text

unfoldable pub ShapeIs : List ℕ → ℕ → Option Shape → Type 0
ShapeIs text at (Some shape) = Orderly text at shape.count shape.end × (shape.sum ≡ byte_sum (pairs_at text (at + 1) (shape.count + 5)))
ShapeIs text at None = parsed (line_at text at) ≡ Err BadLine

-- a parsed line in the code's form, with the place after it
unfoldable pub as_line : Parsed → ℕ → Result CodeLine Reason
as_line (Err reason) end = Err reason
as_line (Ok (Data address bytes)) end = Ok (DataLine address (length bytes) end)
as_line (Ok (ExtendedLinearAddress half)) end = Ok (ExtendedLinearAddressLine half end)
as_line (Ok End) end = Ok (EndLine end)
