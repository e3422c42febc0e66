-- The switch word: the public call as one definition. Document 01, "The chip".
use Rattle.std.specs.Prelude.{ℕ, Bool, true, false, List, [], ◌∷◌, length, Result, Ok}
use Rattle.base.specs.Question.{ask}
use Rattle.base.specs.Answer.{Numbered, in_numbers}
use Rattle.base.specs.Refusal.{refused}
use Rattle.kind.specs.Layout.{chip_length_allowed}
use Rattle.kind.specs.Kind.{Kind}
use Rattle.chip.specs.Chip.{switch_word}
use Rattle.chip.specs.Types.{BadChipLength, Refusal, Switch, SwitchOn, SwitchOff}

-- in numbers: 1 for ON, 0 for OFF
unfoldable pub switch_values : Switch → List ℕ
switch_values SwitchOn = 1 ∷ []
switch_values SwitchOff = 0 ∷ []

abbrev pub switch_numbers : Result Switch Refusal → Numbered
switch_numbers = in_numbers switch_values

-- `switch::read`: question 1, then ON or OFF
unfoldable pub switch_case : Bool → Result Switch Refusal
switch_case true = Ok SwitchOn
switch_case false = Ok SwitchOff

unfoldable pub switch_answer : Kind → List ℕ → Result Switch Refusal
switch_answer kind chip = ask (chip_length_allowed (length chip)) (refused BadChipLength 0) (switch_case (kind.is_on (switch_word chip)))
