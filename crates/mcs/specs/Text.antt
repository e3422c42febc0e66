-- The text of a file, from what it holds. Document 01, "MCS text".
use Rattle.std.specs.Prelude.{ℕ, ◌+◌, ◌*◌, ◌≤◌, ◌≡◌, List, [], ◌∷◌, ◌++◌, length}
use Rattle.mcsline.specs.Record.{Data, ExtendedLinearAddress, End, Line, Row, record_text, Fit}

-- a file's text: its lines, one after the other
unfoldable pub file_text : List Line → List ℕ
file_text [] = []
file_text (line ∷ lines) = record_text line ++ file_text lines

-- Which lists of lines are files, and of which image.

-- The lines after an upper half and the image so far: data records start where the last ended, none goes past a multiple of 65,536, and the last line is the end record.
unfoldable pub FileFrom : ℕ → List ℕ → List Line → List ℕ → Type 0
FileFrom half image [] whole = ⊥
FileFrom half image (Row (Data address bytes) ending ∷ lines) whole =
    Fit (Data address bytes) × (half * 65536 + address ≡ length image) × (address + length bytes ≤ 65536) × FileFrom half (image ++ bytes) lines whole
FileFrom half image (Row (ExtendedLinearAddress upper) ending ∷ lines) whole = Fit (ExtendedLinearAddress upper) × FileFrom upper image lines whole
FileFrom half image (Row End ending ∷ lines) whole = (lines ≡ []) × (image ≡ whole)

-- lines that are a file of an image
abbrev pub FileOf : List Line → List ℕ → Type 0
FileOf lines image = FileFrom 0 [] lines image
