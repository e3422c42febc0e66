-- A C host gets an answer's numbers, each in a field: number and place, then the values in the order of the fields. What does not apply is 0. Here for a chip's switch.
use Rattle.std.specs.Prelude.{Result}
use Rattle.base.specs.Answer.{value}
use Rattle.chip.specs.Switch.{switch_numbers}
use Rattle.fileresults.specs.Types.{Refusal, Switch, TealsettleSwitch}

-- `tealsettle_switch`: 1 for ON, 0 for OFF; or a refusal
unfoldable pub switch_result : Result Switch Refusal → TealsettleSwitch
switch_result answer = record {
  number = (switch_numbers answer).number;
  place = (switch_numbers answer).place;
  on = value (switch_numbers answer) 0;
}
