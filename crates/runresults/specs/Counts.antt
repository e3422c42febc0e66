-- A C host gets an answer's numbers, each in a field: number and place, then the values in the order of the fields. What does not apply is 0. Here for how a run's orders are counted.
use Rattle.std.specs.Prelude.{ℕ, Result}
use Rattle.base.specs.Answer.{value}
use Rattle.starts.specs.Starts.{total_numbers, progress_numbers}
use Rattle.runresults.specs.Types.{Refusal, RunProgress, TealsettleTotal, TealsettleProgress}

-- `tealsettle_total`: how many orders, or a refusal
unfoldable pub total_result : Result ℕ Refusal → TealsettleTotal
total_result answer = record {
  number = (total_numbers answer).number;
  place = (total_numbers answer).place;
  orders = value (total_numbers answer) 0;
}

-- `tealsettle_progress`: the order's number, counted from 1, and how many orders; or a refusal
unfoldable pub progress_result : Result RunProgress Refusal → TealsettleProgress
progress_result answer = record {
  number = (progress_numbers answer).number;
  place = (progress_numbers answer).place;
  order = value (progress_numbers answer) 0;
  orders = value (progress_numbers answer) 1;
}
