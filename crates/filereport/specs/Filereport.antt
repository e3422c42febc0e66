-- The report of an image file. Document 01, "Proof cases": the program `bootreport`.
use Rattle.std.specs.Prelude.{ℕ, List, leb, length, Result, Ok, Err}
use Rattle.base.specs.Refusal.{number_of}
use Rattle.kind.specs.Spi.{spi}
use Rattle.base.specs.Question.{ask}
use Rattle.mcs.specs.Reading.{read_text}
use Rattle.kind.specs.Layout.{layout_of}
use Rattle.builder.specs.Builder.{built_chip, build_answer}
use Rattle.filereport.specs.Types.{NoRoom, Refusal, Layout}
use Rattle.reportlines.specs.Reportlines.{refused_line}
use Rattle.report.specs.Boot.{chip_report}
use Rattle.report.specs.Refusal.{written}
use Rattle.base.specs.Output.{front_filled}

-- It builds F 32,768, U 16,384, A 16,384,
abbrev pub report_layout : Layout
report_layout = layout_of 32768 16384 16384

-- and prints what loads. A refusal prints its number and place.
unfoldable pub on_built : List ℕ → Result (Unit {0}) Refusal → List ℕ
on_built golden (Ok done) = chip_report spi (built_chip spi report_layout golden)
on_built golden (Err r) = refused_line (number_of r.reason) r.place

abbrev pub built_report : List ℕ → List ℕ
built_report golden = on_built golden (build_answer spi report_layout golden report_layout.chip_length)

unfoldable pub on_reading : Result (List ℕ) Refusal → List ℕ
on_reading (Ok image) = built_report image
on_reading (Err r) = refused_line (number_of r.reason) r.place

-- Input above 65,536 bytes prints `REFUSED 19 0`.
unfoldable pub file_report : List ℕ → List ℕ
file_report text = ask (leb (length text) 65536) (refused_line (number_of NoRoom) 0) (on_reading (read_text text))

-- `filereport::report`: every text has a report, so only 19
abbrev pub file_answer : List ℕ → ℕ → Result ℕ Refusal
file_answer text room = written (file_report text) room

abbrev pub file_output : List ℕ → List ℕ → List ℕ
file_output text buffer = front_filled (file_report text) buffer
