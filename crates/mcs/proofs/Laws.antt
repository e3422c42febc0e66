-- What crates above may count on of the reader, beside its contract: which texts hold an image, how long they are, and how the others are refused; and the lines of a text from a place on.
use Rattle.mcs.specs.Theorems.{RoundTrip}
use Rattle.mcs.proofs.FileLaws.{file_holds, holds_file}
pub use Rattle.mcs.proofs.FileLaws.{joined, joined_lines, lines_file, no_file, fit_end, no_lines_left, joined_none, written_more, holds_room}
pub use Rattle.mcs.proofs.AnswerLaws.{read_says, refused_says}
pub use Rattle.mcs.proofs.RefusalLaws.{text_refusals}
pub use Rattle.mcs.proofs.LinesLaws.{line_first}
pub use Rattle.mcs.proofs.ReadingLaws.{none_none, lines_end}

pub round_trip : RoundTrip
round_trip = record { file_holds = file_holds; holds_file = holds_file }
