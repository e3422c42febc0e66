-- The data words of every packet that a reader answers lie within the image.
use Rattle.std.proofs.Common.{sym, ◌∙◌}
use Rattle.imagereader.proofs.Laws.{found_inside}
use Rattle.chipcases.proofs.all_packets.Goals as goal

pub loop-init : goal.loop-init
loop-init g c = λ found e. found_inside _ _ found (sym c.first_from-answer.ensures.same ∙ e)

pub loop-preserved : goal.loop-preserved
loop-preserved g c = λ found e. found_inside _ _ found (sym c.next_from-answer.ensures.same ∙ e)
