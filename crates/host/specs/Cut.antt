-- The functions that a C host calls, each as one definition for what it returns and, where it writes, one for the lent bytes. Here: a run that is cut.
use Rattle.std.specs.Prelude.{ℕ, List}
use Rattle.results.specs.Kinds.{ask_kind}
use Rattle.base.specs.Refusal.{refused}
use Rattle.kind.specs.Spi.{spi}
use Rattle.bench.specs.Bench.{bench_layout, bench_answer, bench_output}
use Rattle.host.specs.Types.{BadChipLength, TealsettleBench}
use Rattle.runresults.specs.Cut.{bench_result}

-- `tealsettle_cut_run`, and its chip
abbrev pub bench_call : ℕ → List ℕ → ℕ → ℕ → List ℕ → ℕ → List ℕ → TealsettleBench
bench_call kind chip update_place update_length image k damage =
    bench_result (ask_kind kind (refused BadChipLength 0) (bench_answer spi (bench_layout chip update_place update_length) chip image k damage))

abbrev pub bench_call_output : ℕ → List ℕ → ℕ → ℕ → List ℕ → ℕ → List ℕ → List ℕ
bench_call_output kind chip update_place update_length image k damage =
    ask_kind kind chip (bench_output (bench_answer spi (bench_layout chip update_place update_length) chip image k damage) spi (bench_layout chip update_place update_length) chip image k damage)
