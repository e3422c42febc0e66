-- `tealsettle_order` meets its contract.
use mathlib.Core.Path.{sym, ap, ◌∙◌}
use Rattle.std.proofs.Common.{Err}
use Rattle.base.specs.Question.{ask}
use Rattle.base.proofs.Laws.{asked_err}
use Rattle.updater.specs.Run.{order_refused}
use Rattle.runresults.specs.Run.{order_result}
use Rattle.host.specs.Types.{BadState}
use Rattle.host.proofs.run.tealsettle_order.Goals as goal

pub returns-in-Err : goal.returns-in-Err
unfolding ask
returns-in-Err c =
    let told = asked_err c.has_number.result BadState c.in-Err.refusal (sym c.ask.ensures ∙ c.in-Err.is) in
    rw (sym c.has_number.ensures ∙ told.0) (c.into.ensures ∙ ap (λ refusal. order_result record { result = Err refusal; bytes = (order_refused BadState).bytes }) (sym told.1))
