-- `loadlines::put_report` meets its contract: the lines, one after the other, are the report.
use Rattle.fields.proofs.Laws.{wrote_then}
use Rattle.loadlines.proofs.put_report.Goals as goal

pub returns : goal.returns
returns c = wrote_then (wrote_then c.put_loaded.ensures c.put_writes.ensures) c.put_end.ensures
