-- `State::order` meets its contract.
use mathlib.Core.Path.{ap, ◌∙◌}
use Rattle.base.proofs.Laws.{gives}
use Rattle.kind.specs.Spi.{spi}
use Rattle.updater.specs.Run.{order_numbers}
use Rattle.updater.specs.Types.{State}
use Rattle.updater.proofs.RunLaws.{fits_same}
use Rattle.updater.proofs.CallLaws.{goes_on, order_goes_on, order_refuses}
use Rattle.updater.proofs.state.State.order.Goals as goal

pub bytes-requires : goal.bytes-requires
bytes-requires c =
    let g = goes_on c.args.self _ _ c.in-Ok.run' c.ask_running.ensures c.in-Ok.is in
    ap (λ (s : State). s.image_length) g.0 ∙ fits_same c.args.self _ g.1

pub returns-in-Ok : goal.returns-in-Ok
returns-in-Ok c =
    let state = c.args.self in
    let image = c.args.image.now in
    let g = goes_on state _ _ c.in-Ok.run' c.ask_running.ensures c.in-Ok.is in
    let operation = c.operation.ensures image (ap (λ (s : State). s.image_length) g.0 ∙ fits_same state _ g.1) in
    gives order_numbers _ _ (rw (operation, c.bytes.ensures, g.0) (order_goes_on spi state image g.1 g.2))

pub returns-in-Err : goal.returns-in-Err
returns-in-Err c = gives order_numbers _ _ (order_refuses spi c.args.self _ _ _ c.ask_running.ensures c.in-Err.is)
