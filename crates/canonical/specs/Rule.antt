-- The form as the paper says it, without the writer: a rule of lines that are a file. Document 02, M-100: "a type 04 record before the data at every multiple of 65,536, the first at 0, then records of 16 bytes, the last shorter, capitals, LF, end record. An image is 1 to 16,777,216 bytes." What every file keeps is not said again (`FileOf`): data records start where the last ended, and none goes past a multiple of 65,536, so that one starts at each; the upper halves are those of the addresses; the end record is last. Capitals are every record's.
use Rattle.std.specs.Prelude.{ℕ, ◌+◌, ◌%◌, ◌≤◌, ◌≡◌, Bool, true, false, List, [], ◌∷◌, ◌++◌, eqb, length}
use Rattle.mcsline.specs.Record.{Lf, Data, ExtendedLinearAddress, End, Line, Row}
use Rattle.mcs.specs.Text.{file_text, FileOf}
use Rattle.kind.specs.Layout.{longest_chip, image_length_allowed}

-- "An image is 1 to 16,777,216 bytes": question 4 of one that is written. Whether it loads is not asked.
abbrev pub writable : ℕ → Bool
writable n = image_length_allowed longest_chip n

-- the bytes of the data records, one after the other
unfoldable pub data_of : List Line → List ℕ
data_of [] = []
data_of (Row (Data address bytes) ending ∷ lines) = bytes ++ data_of lines
data_of (Row (ExtendedLinearAddress half) ending ∷ lines) = data_of lines
data_of (Row End ending ∷ lines) = data_of lines

-- "LF"
unfoldable pub AllLf : List Line → Type 0
AllLf [] = Unit {0}
AllLf (Row record' ending ∷ lines) = (ending ≡ Lf) × AllLf lines

-- "Records of 16 bytes, the last shorter": no data record has more, and one that other data follow has no fewer.
unfoldable pub Sixteens : List Line → Type 0
Sixteens [] = Unit {0}
Sixteens (Row (Data address bytes) ending ∷ lines) = (length bytes ≤ 16) × (1 ≤ length (data_of lines) → length bytes ≡ 16) × Sixteens lines
Sixteens (Row (ExtendedLinearAddress half) ending ∷ lines) = Sixteens lines
Sixteens (Row End ending ∷ lines) = Sixteens lines

-- "A type 04 record before the data at every multiple of 65,536, the first at 0", and nowhere else: given how many data bytes came before, and whether the line before is of type 04. A data record comes right after one exactly if it starts at a multiple of 65,536; no other record does.
unfoldable pub UppersBefore : ℕ → Bool → List Line → Type 0
UppersBefore at upper [] = Unit {0}
UppersBefore at upper (Row (Data address bytes) ending ∷ lines) = (upper ≡ eqb (at % 65536) 0) × UppersBefore (at + length bytes) false lines
UppersBefore at upper (Row (ExtendedLinearAddress half) ending ∷ lines) = (upper ≡ false) × UppersBefore at true lines
UppersBefore at upper (Row End ending ∷ lines) = (upper ≡ false) × UppersBefore at false lines

-- A text is IN THE FORM if it is that of lines that are a file of an image of 1 to 16,777,216 bytes, and the lines keep these rules.
pub record InForm (text : List ℕ) : Type 0 where
  pub lines : List Line
  pub image : List ℕ
  pub written : text ≡ file_text lines
  pub file : FileOf lines image
  pub long : writable (length image) ≡ true
  pub lf : AllLf lines
  pub sixteens : Sixteens lines
  pub uppers : UppersBefore 0 false lines
