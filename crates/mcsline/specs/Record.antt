-- The text of a record, from what it holds. Document 01, "MCS text".
use Rattle.std.specs.Prelude.{ℕ, ◌-◌, ◌/◌, ◌%◌, ◌<◌, ◌≤◌, List, [], ◌∷◌, ◌++◌, length}
use Rattle.digits.specs.Digit.{hex, byte_sum}

abbrev pub LF : ℕ
LF = 0x0A

abbrev pub CR : ℕ
CR = 0x0D

abbrev pub COLON : ℕ
COLON = 0x3A

-- A line ends in LF or CR LF.
pub data Ending : Type 0 where
  Lf : Ending
  CrLf : Ending

unfoldable pub ending_text : Ending → List ℕ
ending_text Lf = LF ∷ []
ending_text CrLf = CR ∷ LF ∷ []

-- A line is a colon and capital hexadecimal pairs.
unfoldable pub line_text : List ℕ → Ending → List ℕ
line_text pairs ending = COLON ∷ hex pairs ++ ending_text ending

-- Records: type 00 has an address and data, type 04 the upper half of later addresses, type 01 is the end record.
pub data Record : Type 0 where
  Data : (address : ℕ) → (bytes : List ℕ) → Record
  ExtendedLinearAddress : (half : ℕ) → Record
  End : Record

-- a record's pairs but for the sum: count, address (2 bytes), type; and its data bytes
abbrev pub header : ℕ → ℕ → ℕ → List ℕ
header type address count = count ∷ address / 256 ∷ address % 256 ∷ type ∷ []

abbrev pub body : ℕ → ℕ → List ℕ → List ℕ
body type address bytes = header type address (length bytes) ++ bytes

unfoldable pub body_of : Record → List ℕ
body_of (Data address bytes) = body 0x00 address bytes
body_of (ExtendedLinearAddress half) = body 0x04 0 (half / 256 ∷ half % 256 ∷ [])
body_of End = body 0x01 0 []

-- All its pairs add to 0 modulo 256: the sum is what is missing.
unfoldable pub checksum : List ℕ → ℕ
checksum body = (256 - byte_sum body % 256) % 256

unfoldable pub pairs_of : Record → List ℕ
pairs_of r = body_of r ++ checksum (body_of r) ∷ []

-- a record's line
pub data Line : Type 0 where
  Row : Record → Ending → Line

unfoldable pub record_text : Line → List ℕ
record_text (Row r ending) = line_text (pairs_of r) ending

-- Which records there are.

unfoldable pub AllBytes : List ℕ → Type 0
AllBytes [] = Unit {0}
AllBytes (byte ∷ bytes) = (byte < 256) × AllBytes bytes

-- Data records have 1 to 255 bytes; an address and an upper half have two.
unfoldable pub Fit : Record → Type 0
Fit (Data address bytes) = (address < 65536) × (1 ≤ length bytes) × (length bytes ≤ 255) × AllBytes bytes
Fit (ExtendedLinearAddress half) = half < 65536
Fit End = Unit {0}
