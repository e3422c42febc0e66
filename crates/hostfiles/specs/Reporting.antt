-- The functions that a C host calls, each as one definition for what it returns and, where it writes, one for the lent bytes. Here: reports.
use Rattle.std.specs.Prelude.{ℕ, List, length}
use Rattle.base.specs.Refusal.{refused}
use Rattle.kind.specs.Spi.{spi}
use Rattle.report.specs.Boot.{chip_answer, chip_output}
use Rattle.results.specs.Kinds.{ask_kind}
use Rattle.fileresults.specs.Reporting.{report_result}
use Rattle.hostfiles.specs.Types.{BadChipLength, TealsettleReport}

-- `tealsettle_report`, and its buffer
abbrev pub report_call : ℕ → List ℕ → List ℕ → TealsettleReport
report_call kind chip buffer = report_result (ask_kind kind (refused BadChipLength 0) (chip_answer spi chip (length buffer)))

abbrev pub report_call_output : ℕ → List ℕ → List ℕ → List ℕ
report_call_output kind chip buffer = ask_kind kind buffer (chip_output spi chip buffer)
