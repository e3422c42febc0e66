-- `most_in` meets its contract.
use mathlib.Core.Path.{sym}
use native.Mathlib.Omega.{arith}
use Rattle.heaviest.proofs.ImageLaws.{most_few, most_many}
use Rattle.heaviest.proofs.most_in.Goals as goal

pub returns-then-words-le-TYPE1_WORDS : goal.returns-then-words-le-TYPE1_WORDS
returns-then-words-le-TYPE1_WORDS c = sym (most_few c.args.words (omega arith))

pub returns : goal.returns
returns c = sym (most_many c.args.words (omega arith))
