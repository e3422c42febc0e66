-- `header::register_ok` meets its contract: for each register its bit is what the definition says.
use Rattle.std.proofs.Common.{refl, ◌∙◌}
use Rattle.packets.specs.Header.{register_ok}
use Rattle.packets.proofs.BitLaws.{is_set_of, set_below}
use Rattle.packets.specs.declared.header.TheConstants.{REGISTERS}
use Rattle.packets.proofs.header.register_ok.Goals as goal

pub returns : goal.returns
unfolding is_set_of register_ok
returns c = c.is_in.ensures ∙ set_below REGISTERS register_ok 32 refl c.args.register c.requires
