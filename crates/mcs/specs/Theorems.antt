-- What is proved of MCS text, which is defined twice: by writing it (`Text`) and by reading it (`Reading`).
use Rattle.std.specs.Prelude.{ℕ, ◌*◌, ◌≤◌, ◌≡◌, List, length, Ok, Err}
use Rattle.mcsline.specs.Record.{Line}
use Rattle.mcs.specs.Text.{file_text, FileOf}
use Rattle.base.specs.Refusal.{number_of}
use Rattle.mcs.specs.Types.{BadLine, BadEnd, Refusal}
use Rattle.mcs.specs.Reading.{read_text}

-- The texts that are read are exactly those of files, each to its image.
pub record RoundTrip : Type 0 where
  -- The text of a file of an image holds the image,
  pub file_holds : (lines : List Line) (image : List ℕ) → FileOf lines image → read_text (file_text lines) ≡ Ok image
  -- and a text that holds an image is that of a file of it.
  pub holds_file : (text image : List ℕ) → read_text text ≡ Ok image → (lines : List Line) × ((text ≡ file_text lines) × FileOf lines image)

-- A text has two characters at least for each byte of the image that it holds.
abbrev pub TextLength : Type 0
TextLength = (text image : List ℕ) → read_text text ≡ Ok image → 2 * length image ≤ length text

-- A text that holds none is refused with one of question 11's and 12's numbers, 14 to 18, at a place within it or at its end.
abbrev pub TextRefusals : Type 0
TextRefusals = (text : List ℕ) (refusal : Refusal) → read_text text ≡ Err refusal → (number_of BadLine ≤ number_of refusal.reason) × (number_of refusal.reason ≤ number_of BadEnd) × (refusal.place ≤ length text)
