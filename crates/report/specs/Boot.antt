-- The report of a chip. Document 01, "Proof cases": the program `bootreport`; and question 13.
use Rattle.std.specs.Prelude.{ℕ, List, ◌++◌, length, Result}
use Rattle.base.specs.Question.{ask}
use Rattle.base.specs.Refusal.{refused}
use Rattle.base.specs.Output.{front_filled}
use Rattle.kind.specs.Layout.{chip_length_allowed}
use Rattle.kind.specs.Kind.{Kind}
use Rattle.reportlines.specs.Reportlines.{loaded_line, write_lines, end_line, stuck_line}
use Rattle.report.specs.Types.{BadChipLength, Refusal, Outcome, Loaded, OutcomeIprog, Stuck}
use Rattle.report.specs.Refusal.{written}

-- the report of a chip whose reading came to this
unfoldable pub report_of : Kind → List ℕ → Outcome → List ℕ
report_of kind chip (Loaded sync end writes jumped) = loaded_line jumped ++ write_lines (kind.lists chip (Loaded sync end writes jumped)) ++ end_line end writes
report_of kind chip (OutcomeIprog place) = stuck_line place
report_of kind chip (Stuck place) = stuck_line place

-- what a chip loads, as text
abbrev pub chip_report : Kind → List ℕ → List ℕ
chip_report kind chip = report_of kind chip (kind.reads chip)

-- `boot::report`: question 1, then 13 (refusal 19)
unfoldable pub chip_answer : Kind → List ℕ → ℕ → Result ℕ Refusal
chip_answer kind chip room = ask (chip_length_allowed (length chip)) (refused BadChipLength 0) (written (chip_report kind chip) room)

unfoldable pub chip_output : Kind → List ℕ → List ℕ → List ℕ
chip_output kind chip buffer = ask (chip_length_allowed (length chip)) buffer (front_filled (chip_report kind chip) buffer)
