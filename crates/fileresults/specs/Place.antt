-- A C host gets an answer's numbers, each in a field: number and place, then the values in the order of the fields. What does not apply is 0. Here for where a chip's update area begins.
use Rattle.std.specs.Prelude.{ℕ, Option, Result}
use Rattle.base.specs.Answer.{value}
use Rattle.chip.specs.UpdatePlace.{place_numbers}
use Rattle.fileresults.specs.Types.{Refusal, TealsettlePlace}

-- `tealsettle_update_place`: U, or that segment 1 names none, or a refusal
unfoldable pub place_result : Result (Option ℕ) Refusal → TealsettlePlace
place_result answer = record {
  number = (place_numbers answer).number;
  place = (place_numbers answer).place;
  found = value (place_numbers answer) 0;
  update = value (place_numbers answer) 1;
}
