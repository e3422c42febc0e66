-- `reportlines::put_stuck` meets its contract: the pieces, one after the other, are the line.
use Rattle.fields.specs.Fields.{ascii}
use Rattle.fields.proofs.Laws.{wrote_then}
use Rattle.reportlines.specs.Reportlines.{stuck_line}
use Rattle.reportlines.proofs.put_stuck.Goals as goal

pub returns : goal.returns
unfolding stuck_line ascii
returns c = wrote_then (wrote_then c.put.ensures c.put_hexadecimal.ensures) c.put-2.ensures
