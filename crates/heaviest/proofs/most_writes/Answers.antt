-- `most_writes` meets its contract.
use Rattle.std.proofs.Common.{◌≡◌, sym, ◌∙◌, true, arith}
use Rattle.base.specs.Question.{ask}
use Rattle.base.proofs.Laws.{asked_ok}
use Rattle.heaviest.specs.Heaviest.{heaviest_length_allowed}
use Rattle.heaviest.proofs.ImageLaws.{allowed_range}
use Rattle.heaviest.proofs.most_writes.Goals as goal
use Rattle.heaviest.proofs.most_writes.Goals.{In_ok-ask}

allowed : (c : In_ok-ask) → heaviest_length_allowed c.args.image_length ≡ true
allowed c = sym c.length_allowed.ensures ∙ asked_ok _ _ (sym c.ask.ensures ∙ c.in_ok-ask.was)

pub most_in-requires : goal.most_in-requires
most_in-requires c = let r = allowed_range c.args.image_length (allowed (goal.at.most_in-requires c).In_ok-ask) in omega arith
