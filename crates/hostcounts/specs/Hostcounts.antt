-- The functions that a C host calls, each as one definition for what it returns. Here: how a run's orders are counted. The calls that count switch words or writes take no kind, and are defined in `outcomes` and in `heaviest`.
use Rattle.std.specs.Prelude.{ℕ}
use Rattle.results.specs.Kinds.{ask_kind}
use Rattle.base.specs.Refusal.{refused}
use Rattle.starts.specs.Starts.{total_answer, progress_answer}
use Rattle.runresults.specs.Counts.{total_result, progress_result}
use Rattle.hostcounts.specs.Types.{BadChipLength, BadState, Layout, State, TealsettleTotal, TealsettleProgress}

-- `tealsettle_total`
abbrev pub total_call : ℕ → Layout → ℕ → TealsettleTotal
total_call kind layout n = total_result (ask_kind kind (refused BadChipLength 0) (total_answer layout n))

-- `tealsettle_progress`
abbrev pub progress_call : ℕ → State → TealsettleProgress
progress_call kind state = progress_result (ask_kind kind (refused BadState 0) (progress_answer state))
