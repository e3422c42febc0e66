-- `reportlines::put_refused` meets its contract: the pieces, one after the other, are the line.
use Rattle.fields.specs.Fields.{ascii}
use Rattle.fields.proofs.Laws.{wrote_then}
use Rattle.reportlines.specs.Reportlines.{refused_line}
use Rattle.reportlines.proofs.put_refused.Goals as goal

pub returns : goal.returns
unfolding refused_line ascii
returns c = wrote_then (wrote_then (wrote_then (wrote_then c.put.ensures c.put_decimal.ensures) c.put-2.ensures) c.put_decimal-2.ensures) c.put-3.ensures
