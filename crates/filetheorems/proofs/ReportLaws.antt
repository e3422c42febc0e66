-- Laws of the function for reports: how large a buffer a report needs.
use Prim.Native.Nat.{ℕ, ◌+◌, ◌*◌, ◌≤◌}
use mathlib.Core.Path.{◌≡◌, refl}
use mathlib.Core.Bool.{Bool, true, false}
use mathlib.Core.List.{List}
use native.Mathlib.Omega.{arith}
use borrow.Author.Tests.{le-leb}
use lib.ListN.{length}
use Rattle.std.proofs.Common.{Ok}
use Rattle.base.specs.Answer.{in_numbers}
use Rattle.base.specs.Refusal.{refused}
use Rattle.base.specs.Question.{ask}
use Rattle.kind.specs.Spi.{spi}
use Rattle.kind.specs.Layout.{longest_chip, chip_length_allowed}
use Rattle.kind.proofs.Laws.{chip_length_range}
use Rattle.configreader.specs.Configreader.{read_chip}
use Rattle.bootreader.specs.Boot.{boot_case, boot_numbers, boot_answer}
use Rattle.heaviest.specs.Heaviest.{most_in, most_writes}
use Rattle.heaviest.proofs.Laws.{nothing_loads_more}
use Rattle.reportlines.specs.Reportlines.{stuck_line}
use Rattle.report.specs.Refusal.{written}
use Rattle.report.specs.Boot.{report_of, chip_report, chip_answer}
use Rattle.report.proofs.Laws.{loaded_length}
use Rattle.results.specs.Boot.{boot_result}
use Rattle.fileresults.specs.Reporting.{report_result}
use Rattle.fields.proofs.Laws.{length_below}
use Rattle.reportlines.proofs.Laws.{length_stuck}
use Rattle.filetheorems.specs.Theorems.{ReportFits}
use Rattle.filetheorems.specs.Types.{BadChipLength, Outcome, Loaded, OutcomeIprog, Stuck}

text_fits : (text : List ℕ) (room : ℕ) → length text ≤ room → (report_result (written text room)).number ≡ 0
unfolding written ask report_result in_numbers
text_fits text room h = rw (le-leb (length text) room h) refl

-- The report of a chip that loads: 35 bytes, 27 for each write, and the number of writes, which has seven digits at most: no chip has more than 16,777,216 bytes, and so none more than 4,194,301 writes.
loaded_fits : (chip : List ℕ) (sync end writes : ℕ) (jumped : Bool) → length chip ≤ longest_chip → read_chip chip ≡ Loaded sync end writes jumped → length (chip_report spi chip) ≤ 27 * writes + 42
unfolding most_in
loaded_fits chip sync end writes jumped h e =
    let most = nothing_loads_more.reading 1 false chip 0 sync end writes jumped (omega arith) e in
    let fits : most_writes (length chip) ≤ 4194301 = nothing_loads_more.grows (length chip) longest_chip h in
    let digits = length_below 6 writes (omega arith) in
    omega (arith, loaded_length chip sync end writes jumped e)

pub report_fits : ReportFits
unfolding ask chip_answer boot_answer boot_case boot_result boot_numbers report_of report_result in_numbers
report_fits chip buffer = go (chip_length_allowed (length chip)) refl (read_chip chip) refl
  where
    go : (b : Bool) → chip_length_allowed (length chip) ≡ b → (o : Outcome) → read_chip chip ≡ o → (boot_result (ask b (refused BadChipLength 0) (Ok (boot_case o)))).number ≡ 0 →
        27 * (boot_result (ask b (refused BadChipLength 0) (Ok (boot_case o)))).writes + 64 ≤ length buffer → (report_result (ask b (refused BadChipLength 0) (written (report_of spi chip o) (length buffer)))).number ≡ 0
    go false a o e h room = absurd (omega arith)
    go true a (Loaded sync end writes jumped) e h room =
        let fits = loaded_fits chip sync end writes jumped (chip_length_range (length chip) a).1 e in
        rw e at (text_fits (chip_report spi chip) (length buffer) (omega arith))
    go true a (OutcomeIprog place) e h room = let line = length_stuck place in text_fits (stuck_line place) (length buffer) (omega arith)
    go true a (Stuck place) e h room = let line = length_stuck place in text_fits (stuck_line place) (length buffer) (omega arith)
