-- The text that an image is written to. Document 02, M-100: "a type 04 record before the data at every multiple of 65,536, the first at 0, then records of 16 bytes, the last shorter, capitals, LF, end record". Capitals are every record's (`mcsline`).
use Rattle.std.specs.Prelude.{ℕ, zero, suc, ◌+◌, ◌*◌, ◌/◌, ◌%◌, true, false, List, [], ◌∷◌, ◌++◌, eqb, length, take, drop}
use Rattle.mcsline.specs.Record.{Lf, Data, ExtendedLinearAddress, End, Line, Row}
use Rattle.mcs.specs.Text.{file_text}

-- The lines of one record's bytes, which begin at `at` in the image: where that is a multiple of 65,536 its upper half comes first.
abbrev pub upper_line : ℕ → Line
upper_line at = Row (ExtendedLinearAddress (at / 65536)) Lf

unfoldable pub upper_lines : ℕ → List Line
upper_lines at = elim (eqb (at % 65536) 0) [ true ↦ upper_line at ∷ [] | false ↦ [] ]

abbrev pub data_line : ℕ → List ℕ → Line
data_line at bytes = Row (Data (at % 65536) bytes) Lf

abbrev pub record_lines : ℕ → List ℕ → List Line
record_lines at bytes = upper_lines at ++ data_line at bytes ∷ []

-- how many records n bytes take: of 16 bytes, the last shorter
abbrev pub records_of : ℕ → ℕ
records_of n = (n + 15) / 16

-- so many records, from `at` in the image on
unfoldable pub lines_from : ℕ → ℕ → List ℕ → List Line
lines_from zero at bytes = []
lines_from (suc records) at bytes = record_lines at (take 16 bytes) ++ lines_from records (at + 16) (drop 16 bytes)

-- A PART of an image, which begins at `at`, a multiple of 16: its lines, and their text.
abbrev pub part_lines : ℕ → List ℕ → List Line
part_lines at part = lines_from (records_of (length part)) at part

abbrev pub part_text : ℕ → List ℕ → List ℕ
part_text at part = file_text (part_lines at part)

-- THE TEXT of an image: its lines and the end record's.
abbrev pub end_line : Line
end_line = Row End Lf

abbrev pub canonical_lines : List ℕ → List Line
canonical_lines image = part_lines 0 image ++ end_line ∷ []

abbrev pub canonical_text : List ℕ → List ℕ
canonical_text image = file_text (canonical_lines image)

-- How long the text of n bytes is: 16 characters for each upper half, 44 for each record of 16 bytes, 12 and two a byte for a shorter one, and 12 for the end record.
unfoldable pub shorter_length : ℕ → ℕ
shorter_length zero = 0
shorter_length (suc less) = 12 + 2 * suc less

abbrev pub canonical_length : ℕ → ℕ
canonical_length n = 16 * ((n + 65535) / 65536) + 44 * (n / 16) + shorter_length (n % 16) + 12
