-- The report of a refusal, and how a report is answered. Document 01, question 13.
use Rattle.std.specs.Prelude.{ℕ, List, [], ◌∷◌, leb, length, Result, Ok}
use Rattle.base.specs.Answer.{Numbered, in_numbers}
use Rattle.base.specs.Output.{front_filled}
use Rattle.base.specs.Refusal.{refused}
use Rattle.base.specs.Question.{ask}
use Rattle.reportlines.specs.Reportlines.{refused_line}
use Rattle.report.specs.Types.{NoRoom, Refusal}

-- in numbers: how long the report is
abbrev pub report_numbers : Result ℕ Refusal → Numbered
report_numbers = in_numbers (λ length. length ∷ [])

-- Does the output fit? No: 19.
unfoldable pub written : List ℕ → ℕ → Result ℕ Refusal
written text room = ask (leb (length text) room) (refused NoRoom 0) (Ok (length text))

-- `refusal::report`
abbrev pub refusal_answer : ℕ → ℕ → ℕ → Result ℕ Refusal
refusal_answer number place room = written (refused_line number place) room

abbrev pub refusal_output : ℕ → ℕ → List ℕ → List ℕ
refusal_output number place buffer = front_filled (refused_line number place) buffer
