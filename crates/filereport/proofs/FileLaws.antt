-- Laws of an image file's report: what each answer on the way to it makes of it.
use Prim.Native.Nat.{ℕ, ◌<◌, ◌≤◌}
use mathlib.Core.Path.{◌≡◌, refl, sym, ap, ◌∙◌}
use mathlib.Core.Bool.{true}
use mathlib.Core.List.{List, [], append-nil}
use native.Mathlib.Omega.{arith}
use borrow.Author.Tests.{le-leb, lt-leb}
use lib.ListN.{length, drop, drop_of_length-le}
use Rattle.std.specs.Prelude.{Result, Ok, Err, MatchResult}
use Rattle.kind.specs.Spi.{spi}
use Rattle.base.specs.Refusal.{number_of}
use Rattle.base.specs.Question.{ask}
use Rattle.kind.specs.Layout.{chip_length_allowed}
use Rattle.mcs.specs.Reading.{read_text}
use Rattle.filereport.specs.Types.{NoRoom, Refusal, Layout}
use Rattle.builder.specs.Builder.{built_chip, build_answer, output_of, build_output}
use Rattle.base.proofs.Laws.{asked_yes, front_fits}
use Rattle.builder.proofs.Laws.{golden_room, built_length}
use Rattle.reportlines.specs.Reportlines.{refused_line}
use Rattle.report.specs.Boot.{chip_report, chip_answer, chip_output}
use Rattle.filereport.specs.Filereport.{report_layout, on_built, built_report, on_reading, file_report}
use Rattle.report.specs.Refusal.{written}
use Rattle.base.specs.Output.{front_filled}

usual_length : chip_length_allowed 32768 ≡ true
unfolding chip_length_allowed ask
usual_length = refl

-- The report of a chip of 32,768 bytes.
pub shows_chip : (chip : List ℕ) → length chip ≡ 32768 → (room : ℕ) (out : List ℕ) → (chip_answer spi chip room ≡ written (chip_report spi chip) room) × (chip_output spi chip out ≡ front_filled (chip_report spi chip) out)
unfolding chip_answer chip_output
shows_chip chip long room out = (asked_yes (chip_length_allowed (length chip)) _ _ allowed, asked_yes (chip_length_allowed (length chip)) _ _ allowed)
  where
    allowed : chip_length_allowed (length chip) ≡ true
    allowed = ap chip_length_allowed long ∙ usual_length

-- A buffer of the chip's length that was lent to the builder holds the built chip and no more. (Said of any layout: of one with numbers, the erased chip would be written out.)
holds_built : (layout : Layout) (golden buffer : List ℕ) → length buffer ≡ layout.chip_length → build_answer spi layout golden (length buffer) ≡ Ok tt →
    (build_output spi layout golden buffer ≡ built_chip spi layout golden) × (length (built_chip spi layout golden) ≡ layout.chip_length)
unfolding output_of
holds_built layout golden buffer long e =
    let n : length (built_chip spi layout golden) ≡ layout.chip_length = built_length layout golden (golden_room layout golden (length buffer) e) in
    let none : drop (length (built_chip spi layout golden)) buffer ≡ [] = drop_of_length-le buffer {i = length (built_chip spi layout golden)} (omega arith) in
    let front = front_fits (built_chip spi layout golden) buffer (omega arith) in
    (ap (λ (a : Result (Unit {0}) Refusal). output_of spi a layout golden buffer) e ∙ front ∙ rw none (append-nil (built_chip spi layout golden)), n)

-- What the builder answers on a buffer of the chip's length: the chip's report is the golden image's, or the refusal is.
module _ (golden buffer after : List ℕ) (long : length buffer ≡ 32768) (fills : after ≡ build_output spi report_layout golden buffer) where
  pub built_says : (answer : Result (Unit {0}) Refusal) → answer ≡ build_answer spi report_layout golden (length buffer) →
      MatchResult answer (λ done. built_report golden ≡ chip_report spi after) (λ r. built_report golden ≡ refused_line (number_of r.reason) r.place)
  unfolding on_built
  built_says (Ok done) e = ap (on_built golden) (rw long at (sym e)) ∙ ap (chip_report spi) (sym (fills ∙ (holds_built report_layout golden buffer long (sym e)).0))
  built_says (Err r) e = ap (on_built golden) (rw long at (sym e))

-- A text that is too long, one that holds an image, and one that holds none.
module _ (text : List ℕ) where
  pub reports_long : 65536 < length text → file_report text ≡ refused_line (number_of NoRoom) 0
  unfolding file_report ask
  reports_long h = rw (lt-leb (length text) 65536 h) refl

  pub reports_image : (image : List ℕ) → length text ≤ 65536 → read_text text ≡ Ok image → file_report text ≡ built_report image
  unfolding file_report on_reading ask
  reports_image image h e = rw (le-leb (length text) 65536 h, e) refl

  pub reports_refused : (r : Refusal) → length text ≤ 65536 → read_text text ≡ Err r → file_report text ≡ refused_line (number_of r.reason) r.place
  unfolding file_report on_reading ask
  reports_refused r h e = rw (le-leb (length text) 65536 h, e) refl
