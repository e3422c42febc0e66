-- What a text holds. Document 01, "MCS text" and questions 11 and 12.
use Rattle.std.specs.Prelude.{ℕ, ◌+◌, ◌*◌, Bool, true, false, List, [], ◌∷◌, ◌++◌, eqb, leb, length, Result, Ok}
use Rattle.base.specs.Refusal.{refused}
use Rattle.mcs.specs.Types.{BadAddress, BadEnd, Refusal}
use Rattle.base.specs.Question.{ask}
use Rattle.mcsline.specs.Record.{LF}
use Rattle.mcsline.specs.Line.{parsed, by_parsed}

-- Lines.

-- a character before the first line
unfoldable pub prepend : ℕ → List (List ℕ) → List (List ℕ)
prepend c [] = (c ∷ []) ∷ []
prepend c (line ∷ lines) = (c ∷ line) ∷ lines

-- The lines of a text, each with its LF. What follows the last LF is a line too: one without its end.
unfoldable pub lines_of : List ℕ → List (List ℕ)
lines_of [] = []
lines_of (c ∷ cs) = elim (eqb c LF) [ true ↦ (c ∷ []) ∷ lines_of cs | false ↦ prepend c (lines_of cs) ]

-- The file.

-- Address rule: the first starts at 0, each next where the last ended, none past a multiple of 65,536.
unfoldable pub follows : ℕ → ℕ → ℕ → ℕ → Bool
follows half address next count = ask (eqb (half * 65536 + address) next) false (leb (address + count) 65536)

-- the image that a text holds, or a refusal
abbrev pub Reading : Type 0
Reading = Result (List ℕ) Refusal

-- are there no lines?
unfoldable pub is_empty : List (List ℕ) → Bool
is_empty [] = true
is_empty (line ∷ lines) = false

-- Lines in order, from a place on, with the upper half in force and the image so far; the last is the end record, with nothing after it.
unfoldable pub read_lines : List (List ℕ) → ℕ → ℕ → List ℕ → Reading
read_lines [] place half image = refused BadEnd place
read_lines (line ∷ lines) place half image =
    by_parsed (parsed line)
    (λ reason. refused reason place)
    (λ address bytes. ask (follows half address (length image) (length bytes)) (refused BadAddress place) (read_lines lines (place + length line) half (image ++ bytes)))
    (λ upper. read_lines lines (place + length line) upper image)
    (ask (is_empty lines) (refused BadEnd (place + length line)) (Ok image))

abbrev pub read_text : List ℕ → Reading
read_text text = read_lines (lines_of text) 0 0 []
