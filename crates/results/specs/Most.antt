-- A C host gets an answer's numbers, each in a field: number and place, then the values in the order of the fields. What does not apply is 0. Here for the greatest number of writes.
use Rattle.std.specs.Prelude.{ℕ, Result}
use Rattle.base.specs.Answer.{value}
use Rattle.heaviest.specs.Heaviest.{most_numbers}
use Rattle.results.specs.Types.{Refusal, TealsettleMost}

-- `tealsettle_most_writes` and `tealsettle_heaviest_image`: how many writes, or a refusal
unfoldable pub most_result : Result ℕ Refusal → TealsettleMost
most_result answer = record {
  number = (most_numbers answer).number;
  place = (most_numbers answer).place;
  writes = value (most_numbers answer) 0;
}
