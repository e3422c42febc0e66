-- The first chip of a printer: the call as one definition for its answer and one for the lent buffer. Document 01, "The chip" and question 13.
use Rattle.std.specs.Prelude.{ℕ, ◌-◌, false, List, [], leb, length, take, Result, Ok, Err}
use Rattle.base.specs.Answer.{Numbered, in_numbers}
use Rattle.base.specs.Output.{front_filled}
use Rattle.base.specs.Refusal.{refused}
use Rattle.base.specs.Question.{ask}
use Rattle.bootreader.specs.Image.{ask_image}
use Rattle.kind.specs.Layout.{segment, golden_at, ask_layout}
use Rattle.flash.specs.Flash.{erased, overwrite}
use Rattle.kind.specs.Kind.{Kind}
use Rattle.chip.specs.Chip.{Loads}
use Rattle.builder.specs.Types.{NoRoom, Refusal, Layout}

-- A built chip has segment 1's words, its golden image at 8,192, and FF everywhere else, so its switch is OFF.
abbrev pub built_chip : Kind → Layout → List ℕ → List ℕ
built_chip kind layout golden = overwrite (overwrite (erased layout.chip_length) segment (kind.warm_boot layout.update_place)) golden_at golden

-- in numbers: a chip that was built has no values
abbrev pub build_numbers : Result (Unit {0}) Refusal → Numbered
build_numbers = in_numbers (λ built. [])

-- `builder::build`: questions 1 to 3; 4, for the golden area; 5; then 13 (refusal 19), whether the chip fits into the buffer
unfoldable pub golden_answer : Kind → Layout → List ℕ → ℕ → Result (Unit {0}) Refusal
golden_answer kind layout golden room =
    ask_image kind (layout.update_place - golden_at) refused (λ sync end writes. ask (leb layout.chip_length room) (refused NoRoom 0) (Ok tt)) golden

unfoldable pub build_answer : Kind → Layout → List ℕ → ℕ → Result (Unit {0}) Refusal
build_answer kind layout golden room = ask_layout refused layout (golden_answer kind layout golden room)

-- The chip fills the front of the lent buffer; a refusal leaves it as it was.
unfoldable pub output_of : Kind → Result (Unit {0}) Refusal → Layout → List ℕ → List ℕ → List ℕ
output_of kind (Ok built) layout golden buffer = front_filled (built_chip kind layout golden) buffer
output_of kind (Err r) layout golden buffer = buffer

abbrev pub build_output : Kind → Layout → List ℕ → List ℕ → List ℕ
build_output kind layout golden buffer = output_of kind (build_answer kind layout golden (length buffer)) layout golden buffer

-- The builder's chip, which is the first F bytes of the buffer, loads the golden image it was given, whole, without a jump.
unfoldable pub LoadsGolden : Kind → Result (Unit {0}) Refusal → Layout → List ℕ → List ℕ → Type 0
LoadsGolden kind (Ok built) layout golden buffer = Loads kind (take layout.chip_length buffer) golden golden_at false
LoadsGolden kind (Err r) layout golden buffer = Unit {0}
