-- Questions 6 and 7 by themselves, and the answer to a reply that was judged. Only contracts of functions that are no public calls cite it.
use Rattle.std.specs.Prelude.{ℕ, Result, Ok, Err}
use Rattle.base.specs.Refusal.{refused}
use Rattle.base.specs.Question.{ask}
use Rattle.updater.specs.Types.{BadState, RunEnded, BadReply, Refusal, Judgement, NotAsked, Agrees, JudgedDiffers, State, Reply, Next, Stopped, RefusedReply}
use Rattle.updater.specs.declared.state.Running.{Running}
use Rattle.updater.specs.State.{after, ended, fits, running}
use Rattle.updater.specs.Run.{refused_reply, stop_of}

-- does the state fit, and does the run go on?
unfoldable pub running_asked : State → ℕ → Result State Refusal
running_asked state lent = ask (fits state lent) (refused BadState 0) (ask (running state) (refused RunEnded 0) (Ok state))

-- the same of the code's type: the state of a run that goes on, or why it is refused
unfoldable pub state_of : Result Running Refusal → Result State Refusal
state_of (Ok run) = Ok run.state
state_of (Err r) = Err r

unfoldable pub on_judged : Judgement → State → Result Reply RefusedReply
on_judged NotAsked state = refused_reply BadReply 0 state
on_judged Agrees state = Ok (Next (after state))
on_judged (JudgedDiffers address) state = Ok (Stopped (stop_of state.phase) address (ended state (stop_of state.phase)))
