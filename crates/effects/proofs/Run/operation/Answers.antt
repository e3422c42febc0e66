-- `effects::Run::operation` meets its contract.
use mathlib.Core.Path.{ap, ◌∙◌}
use lib.ListN.{length}
use Rattle.kind.specs.Spi.{spi}
use Rattle.orders.specs.Orders.{operation_of}
use Rattle.updater.specs.State.{current_order}
use Rattle.updater.proofs.Laws.{fits_says}
use Rattle.effects.specs.Types.{State}
use Rattle.effects.proofs.Run.operation.Goals as goal

pub returns : goal.returns
returns c =
    let run = c.args.self.now in
    let same = ap (λ (s : State). s.image_length) c.running.ensures ∙ (fits_says run.state (length run.image.now) run.fits).same in
    c.operation.ensures run.image.now same ∙ ap (λ (s : State). operation_of (current_order spi s run.image.now)) c.running.ensures
