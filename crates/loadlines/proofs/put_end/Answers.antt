-- `loadlines::put_end` meets its contract: the pieces, one after the other, are the line.
use Rattle.fields.specs.Fields.{ascii}
use Rattle.fields.proofs.Laws.{wrote_then}
use Rattle.reportlines.specs.Reportlines.{end_line}
use Rattle.loadlines.proofs.put_end.Goals as goal

pub returns : goal.returns
unfolding end_line ascii
returns c =
    wrote_then (wrote_then (wrote_then (wrote_then c.put.ensures c.put_hexadecimal.ensures) c.put-2.ensures) c.put_decimal.ensures) c.put-3.ensures
