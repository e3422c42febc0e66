-- A C host gets an answer's numbers, each in a field: number and place, then the values in the order of the fields. What does not apply is 0. Here for the writer of MCS text.
use Rattle.std.specs.Prelude.{ℕ, Result}
use Rattle.base.specs.Answer.{value}
use Rattle.mcswriter.specs.Mcswriter.{text_numbers}
use Rattle.hosttexts.specs.Types.{Refusal, TealsettleText}

-- `tealsettle_mcs_write` and `tealsettle_mcs_length`: how long the text is, or a refusal
unfoldable pub text_result : Result ℕ Refusal → TealsettleText
text_result answer = record {
  number = (text_numbers answer).number;
  place = (text_numbers answer).place;
  length = value (text_numbers answer) 0;
}
