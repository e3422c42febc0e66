-- `loadlines::put_loaded` meets its contract.
use Rattle.fields.specs.Fields.{ascii}
use Rattle.reportlines.specs.Reportlines.{loaded_line}
use Rattle.loadlines.proofs.put_loaded.Goals as goal

pub returns-then-jumped : goal.returns-then-jumped
unfolding loaded_line ascii
returns-then-jumped c = rw c.if-jumped.true c.put.ensures

pub returns-else-jumped : goal.returns-else-jumped
unfolding loaded_line ascii
returns-else-jumped c = rw c.if-jumped.false c.put-else-jumped.ensures
