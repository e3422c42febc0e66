-- `reportlines::put_write` meets its contract: the pieces, one after the other, are the line.
use Rattle.fields.specs.Fields.{ascii}
use Rattle.fields.proofs.Laws.{wrote_then}
use Rattle.reportlines.specs.Reportlines.{write_line}
use Rattle.reportlines.proofs.put_write.Goals as goal

pub returns : goal.returns
unfolding write_line ascii
returns c = wrote_then (wrote_then (wrote_then (wrote_then (wrote_then (wrote_then c.put.ensures c.put_hexadecimal.ensures) c.put-2.ensures) c.put_hexadecimal-2.ensures) c.put-3.ensures) c.put_hexadecimal-3.ensures) c.put-4.ensures
