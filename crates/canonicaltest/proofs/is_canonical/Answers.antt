-- `is_canonical` meets its contract: the pass is the test.
use mathlib.Core.Path.{◌∙◌}
use Rattle.canonical.proofs.Laws.{pass_exact}
use Rattle.canonicaltest.proofs.is_canonical.Goals as goal

pub returns : goal.returns
returns c = c.passes.ensures ∙ pass_exact c.args.text.now
