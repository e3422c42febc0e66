-- The public call as one definition for its answer and one for the lent buffer. Document 01, question 13.
use Rattle.std.specs.Prelude.{ℕ, List, [], ◌∷◌, leb, length, Result, Ok, Err}
use Rattle.base.specs.Answer.{Numbered, in_numbers}
use Rattle.base.specs.Output.{front_filled}
use Rattle.base.specs.Refusal.{refused}
use Rattle.base.specs.Question.{ask}
use Rattle.mcs.specs.Reading.{Reading, read_text}
use Rattle.mcs.specs.Types.{NoRoom, Refusal}

-- in numbers: how many bytes were read
abbrev pub read_numbers : Result ℕ Refusal → Numbered
read_numbers = in_numbers (λ length. length ∷ [])

-- Does the output fit? No: 19, asked last of all.
unfoldable pub answer_of : Reading → ℕ → Result ℕ Refusal
answer_of (Err refusal) room = Err refusal
answer_of (Ok image) room = ask (leb (length image) room) (refused NoRoom 0) (Ok (length image))

-- The image fills the front of the lent buffer; a refusal leaves it as it was.
unfoldable pub held_output : Reading → List ℕ → List ℕ
held_output (Err refusal) buffer = buffer
held_output (Ok image) buffer = front_filled image buffer

-- `reader::read`
abbrev pub read_answer : List ℕ → List ℕ → Result ℕ Refusal
read_answer text buffer = answer_of (read_text text) (length buffer)

abbrev pub read_output : List ℕ → List ℕ → List ℕ
read_output text buffer = held_output (read_text text) buffer
