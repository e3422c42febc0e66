-- `part::put_end` meets its contract: the end record's line is its text.
use Rattle.recordwriter.proofs.LineLaws.{end_text_law}
use Rattle.recordwriter.proofs.part.put_end.Goals as goal

pub returns : goal.returns
returns c = record { place = c.put_record.ensures.place; output = rw end_text_law c.put_record.ensures.output }
