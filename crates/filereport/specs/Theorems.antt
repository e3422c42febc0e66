-- What is proved of the report of an image file: how long it can be.
use Rattle.std.specs.Prelude.{ℕ, ◌≤◌, ◌≡◌, List, length, Ok}
use Rattle.filereport.specs.Filereport.{file_report, file_answer}

-- The length of a report with 2,046 writes, as many as an image of the golden area's 8,192 bytes can have: a line of 27 bytes each, a first line of 14 and a last of 25.
abbrev pub longest_report : ℕ
longest_report = 55281

-- No report of an image file is longer than `longest_report`, whatever the text, so a buffer of that length is never refused.
pub record FileReportFits : Type 0 where
  pub bound : (text : List ℕ) → length (file_report text) ≤ longest_report
  pub written : (text : List ℕ) (room : ℕ) → longest_report ≤ room → file_answer text room ≡ Ok (length (file_report text))
