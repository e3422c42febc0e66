-- `line::parse_sound` meets its contract: of a line that passes, the count says where it ends.
use native.Mathlib.Omega.{arith}
use Rattle.mcsline.proofs.ShapeLaws.{sound_long}
use Rattle.mcsline.proofs.line.parse_sound.Goals as goal

pub pair-count-requires : goal.pair-count-requires
pair-count-requires c = let l = sound_long c.args.text.now c.args.at c.requires.0 c.requires.1 in omega arith
