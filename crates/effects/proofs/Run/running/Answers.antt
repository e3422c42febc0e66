-- `effects::Run::running` meets its contract.
use lib.ListN.{length}
use Rattle.updater.proofs.Laws.{fits_own}
use Rattle.effects.proofs.Run.running.Goals as goal

pub invariant_of-result : goal.invariant_of-result
invariant_of-result c = let run = c.args.self.now in record { fitting = fits_own run.state (length run.image.now) run.fits; going = c.requires }
