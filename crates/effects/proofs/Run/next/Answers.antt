-- `effects::Run::next` meets its contract.
use lib.ListN.{length}
use Rattle.updater.proofs.Laws.{after_fits}
use Rattle.effects.proofs.Run.next.Goals as goal

pub invariant_of-result : goal.invariant_of-result
invariant_of-result c =
    let run = c.args.self in
    record { fits = rw (c.after_order.ensures, c.running.ensures) (after_fits run.state (length run.image.now) run.fits c.requires) }
