-- A C host gets an answer's numbers, each in a field: number and place, then the values in the order of the fields. What does not apply is 0. Here for the reader of MCS text.
use Rattle.std.specs.Prelude.{ℕ, Result}
use Rattle.base.specs.Answer.{value}
use Rattle.mcs.specs.Reader.{read_numbers}
use Rattle.results.specs.Types.{Refusal, TealsettleRead}

-- `tealsettle_mcs_read`: how many bytes were read, or a refusal
unfoldable pub read_result : Result ℕ Refusal → TealsettleRead
read_result answer = record {
  number = (read_numbers answer).number;
  place = (read_numbers answer).place;
  length = value (read_numbers answer) 0;
}
