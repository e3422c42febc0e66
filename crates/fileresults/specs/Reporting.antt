-- A C host gets an answer's numbers, each in a field: number and place, then the values in the order of the fields. What does not apply is 0. Here for a report.
use Rattle.std.specs.Prelude.{ℕ, Result}
use Rattle.base.specs.Answer.{value}
use Rattle.report.specs.Refusal.{report_numbers}
use Rattle.fileresults.specs.Types.{Refusal, TealsettleReport}

-- `tealsettle_report`: how long the report is, or a refusal
unfoldable pub report_result : Result ℕ Refusal → TealsettleReport
report_result answer = record {
  number = (report_numbers answer).number;
  place = (report_numbers answer).place;
  length = value (report_numbers answer) 0;
}
