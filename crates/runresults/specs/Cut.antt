-- A C host gets an answer's numbers, each in a field: number and place, then the values in the order of the fields. What does not apply is 0. Here for a run that is cut.
use Rattle.std.specs.Prelude.{Result}
use Rattle.bench.specs.Bench.{bench_numbers}
use Rattle.runresults.specs.Run.{state_fields}
use Rattle.runresults.specs.Types.{Refusal, State, TealsettleBench}

-- `tealsettle_cut_run`: the state before the cut order, or at the run's end; or a refusal, which leaves the chip as it was
unfoldable pub bench_result : Result State Refusal → TealsettleBench
bench_result answer = record {
  number = (bench_numbers answer).number;
  place = (bench_numbers answer).place;
  state = state_fields (bench_numbers answer).values;
}
