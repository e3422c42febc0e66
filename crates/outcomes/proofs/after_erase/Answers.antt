-- `after_erase` meets its contract.
use mathlib.Core.Path.{◌∙◌}
use Rattle.outcomes.proofs.CountLaws.{erase_counted}
use Rattle.outcomes.proofs.after_erase.Goals as goal

pub returns : goal.returns
returns c = c.count_changing.ensures ∙ erase_counted c.args.old c.ranges.old.fits
