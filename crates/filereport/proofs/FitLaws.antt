-- How long the report of an image file can be.
use Prim.Native.Nat.{ℕ, ◌+◌, ◌-◌, ◌≤◌}
use mathlib.Core.Path.{◌≡◌, refl}
use mathlib.Core.Bool.{Bool, true, false}
use mathlib.Core.List.{List}
use native.Mathlib.Omega.{arith}
use borrow.Author.Tests.{le-leb, leb-true}
use lib.Dec.{leb}
use lib.ListN.{length}
use Rattle.std.specs.Prelude.{Result, Ok, Err}
use Rattle.base.specs.Question.{ask}
use Rattle.base.specs.Refusal.{number_of}
use Rattle.kind.specs.Layout.{golden_at, chip_length_allowed, update_place_allowed, update_length_allowed, ask_layout, layout_answer}
use Rattle.kind.specs.Spi.{spi}
use Rattle.bootreader.proofs.Laws.{accepted_length}
use Rattle.heaviest.specs.Heaviest.{most_in, most_writes}
use Rattle.heaviest.proofs.Laws.{nothing_loads_more}
use Rattle.mcs.specs.Reading.{read_text}
use Rattle.mcs.proofs.Laws.{text_refusals, holds_room}
use Rattle.builder.specs.Builder.{built_chip, build_answer}
use Rattle.builder.proofs.Laws.{questions, allowed_refusals, built_loads}
use Rattle.fields.proofs.Laws.{length_below}
use Rattle.reportlines.specs.Reportlines.{refused_line}
use Rattle.reportlines.proofs.Laws.{length_refused}
use Rattle.report.specs.Boot.{chip_report}
use Rattle.report.specs.Refusal.{written}
use Rattle.report.proofs.Laws.{loaded_length}
use Rattle.filereport.specs.Filereport.{report_layout, on_built, built_report, on_reading, file_report}
use Rattle.filereport.specs.Theorems.{longest_report, FileReportFits}
use Rattle.filereport.specs.Types.{NoRoom, Refusal, Layout}

-- A refusal with a number of two digits, at a place of five, is a short line.
refused_short : (number place : ℕ) → number ≤ number_of NoRoom → place ≤ 65536 → length (refused_line number place) ≤ longest_report
refused_short number place n p =
    let a = length_below 1 number (omega arith) in
    let b = length_below 4 place (omega arith) in
    omega (arith, length_refused number place)

-- A built chip has as many writes as its golden image, which fits into the golden area. (Said of any layout: of one with numbers, the erased chip would be written out.)
built_short : (layout : Layout) (golden : List ℕ) (room : ℕ) → layout.update_place - golden_at ≤ 8192 → build_answer spi layout golden room ≡ Ok tt → length (chip_report spi (built_chip spi layout golden)) ≤ longest_report
unfolding most_in
built_short layout golden room area e =
    let facts = questions layout golden room e in
    let loads = built_loads layout golden room e in
    let n = accepted_length (layout.update_place - golden_at) golden facts.sync facts.end facts.writes facts.read in
    let most = nothing_loads_more.reading 0 false golden 0 loads.itself.sync loads.itself.end loads.itself.writes false (omega arith) loads.itself.reading in
    let fits : most_writes (length golden) ≤ 2046 = nothing_loads_more.grows (length golden) 8192 (omega arith) in
    let digits = length_below 3 loads.itself.writes (omega arith) in
    let long = loaded_length (built_chip spi layout golden) (golden_at + loads.itself.sync) (golden_at + loads.itself.end) loads.itself.writes false loads.reading in
    omega arith

report_layout_allowed : layout_answer report_layout ≡ Ok tt
unfolding layout_answer ask_layout chip_length_allowed update_place_allowed update_length_allowed ask
report_layout_allowed = refl

built_report_short : (golden : List ℕ) → length golden ≤ 65536 → length (built_report golden) ≤ longest_report
unfolding on_built
built_report_short golden h = go (build_answer spi report_layout golden report_layout.chip_length) refl
  where
    go : (a : Result (Unit {0}) Refusal) → build_answer spi report_layout golden report_layout.chip_length ≡ a → length (on_built golden a) ≤ longest_report
    go (Ok done) e = built_short report_layout golden report_layout.chip_length (omega arith) e
    go (Err r) e =
        let least = allowed_refusals report_layout golden report_layout.chip_length r.reason r.place report_layout_allowed e in
        refused_short (number_of r.reason) r.place least.0 (omega arith)

read_short : (text : List ℕ) → length text ≤ 65536 → length (on_reading (read_text text)) ≤ longest_report
unfolding on_reading
read_short text h = go (read_text text) refl
  where
    go : (r : Result (List ℕ) Refusal) → read_text text ≡ r → length (on_reading r) ≤ longest_report
    go (Ok image) e = let room = holds_room text image e in built_report_short image (omega arith)
    go (Err r) e = let least = text_refusals text r e in refused_short (number_of r.reason) r.place (omega arith) (omega arith)

report_short : (text : List ℕ) → length (file_report text) ≤ longest_report
unfolding file_report ask
report_short text = go (leb (length text) 65536) refl
  where
    go : (b : Bool) → leb (length text) 65536 ≡ b → length (ask b (refused_line (number_of NoRoom) 0) (on_reading (read_text text))) ≤ longest_report
    go true e = read_short text (leb-true (length text) 65536 e)
    go false e = refused_short (number_of NoRoom) 0 (omega arith) (omega arith)

pub file_report_fits : FileReportFits
unfolding written ask
file_report_fits = record {
  bound = report_short;
  written = λ text room h. let l = report_short text in rw (le-leb (length (file_report text)) room (omega arith)) refl;
}
