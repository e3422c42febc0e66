-- `comparison::padded_page` meets its contract.
use mathlib.Core.Path.{◌∙◌}
use Rattle.kind.specs.Layout.{page}
use Rattle.comparison.proofs.ComparisonLaws.{filled_all}
use Rattle.comparison.proofs.padded_page.Goals as goal

pub returns : goal.returns
returns c = c.copy.ensures ∙ filled_all page c.args.bytes.now c.requires
