-- `header::is_plain_register` meets its contract: for each register its bit is what the definition says.
use Rattle.std.proofs.Common.{refl, ◌∙◌}
use Rattle.packets.specs.Header.{register_ok, plain_register}
use Rattle.packets.proofs.BitLaws.{is_set_of, set_below}
use Rattle.packets.specs.declared.header.TheConstants.{PLAIN}
use Rattle.packets.proofs.header.is_plain_register.Goals as goal

pub returns : goal.returns
unfolding is_set_of plain_register register_ok
returns c = c.is_in.ensures ∙ set_below PLAIN plain_register 32 refl c.args.register c.requires
