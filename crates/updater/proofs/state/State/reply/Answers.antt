-- `State::reply` meets its contract.
use Rattle.base.proofs.Laws.{gives}
use Rattle.kind.specs.Spi.{spi}
use Rattle.updater.specs.Run.{reply_numbers}
use Rattle.updater.proofs.OrderLaws.{index_at}
use Rattle.updater.proofs.CallLaws.{goes_on, reply_goes_on, reply_refuses, places_small}
use Rattle.updater.proofs.state.State.reply.Goals as goal

pub judge-judgement-requires : goal.judge-judgement-requires
judge-judgement-requires c =
    let state = c.args.self in
    let g = goes_on state _ _ c.in-Ok.run' c.ask_running.ensures c.in-Ok.is in
    (index_at state c.args.image.now g.1 g.2, places_small state _ g.1 g.2)

pub returns-in-Ok : goal.returns-in-Ok
returns-in-Ok c =
    let args = c.args in
    let g = goes_on args.self _ _ c.in-Ok.run' c.ask_running.ensures c.in-Ok.is in
    gives reply_numbers _ _ (rw (c.reply_judged.ensures, c.judge-judgement.ensures, g.0) (reply_goes_on args.self args.image.now args.reply_kind args.bytes.now g.1 g.2))

pub returns-in-Err : goal.returns-in-Err
returns-in-Err c = gives reply_numbers _ _ (reply_refuses spi c.args.self _ _ _ _ _ c.ask_running.ensures c.in-Err.is)
