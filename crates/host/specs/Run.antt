-- The functions that a C host calls, each as one definition for what it returns and, where it writes, one for the lent bytes. Here: a run.
use Rattle.std.specs.Prelude.{ℕ, List}
use Rattle.results.specs.Kinds.{ask_kind}
use Rattle.base.specs.Refusal.{refused}
use Rattle.host.specs.Types.{BadChipLength, BadState, Layout, State, TealsettleStart, TealsettleOrder, TealsettleReply, TealsettleFinished}
use Rattle.kind.specs.Spi.{spi}
use Rattle.starts.specs.Starts.{start_answer}
use Rattle.updater.specs.Run.{order_refused, order_answer, refused_reply, reply_answer, finished_answer}
use Rattle.runresults.specs.Run.{start_result, order_result, reply_result, finished_result}

-- `tealsettle_start`
abbrev pub start_call : ℕ → Layout → List ℕ → TealsettleStart
start_call kind layout image = start_result (ask_kind kind (refused BadChipLength 0) (start_answer spi layout image))

-- `tealsettle_order`
abbrev pub order_call : ℕ → State → List ℕ → TealsettleOrder
order_call kind state image = order_result (ask_kind kind (order_refused BadState) (order_answer spi state image))

-- `tealsettle_reply`
abbrev pub reply_call : ℕ → State → List ℕ → ℕ → List ℕ → TealsettleReply
reply_call kind state image reply_kind bytes = reply_result (ask_kind kind (refused_reply BadState 0 state) (reply_answer spi state image reply_kind bytes))

-- `tealsettle_finished`
abbrev pub finished_call : ℕ → State → TealsettleFinished
finished_call kind state = finished_result (ask_kind kind (refused BadState 0) (finished_answer state))
