-- `after_program` meets its contract.
use mathlib.Core.Path.{◌∙◌}
use Rattle.outcomes.proofs.CountLaws.{program_counted}
use Rattle.outcomes.proofs.after_program.Goals as goal

pub returns : goal.returns
returns c = c.count_changing.ensures ∙ program_counted c.args.old c.args.ordered c.ranges.old.fits c.ranges.ordered.fits
