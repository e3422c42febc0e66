-- An image as MCS text: each call as one definition. Document 02, M-100: "Question 4 guards the length and 19 the output."
use Rattle.std.specs.Prelude.{ℕ, ◌≤◌, ◌≡◌, true, List, [], ◌∷◌, ◌++◌, leb, length, take, drop, Result, Ok}
use Rattle.base.specs.Answer.{Numbered, in_numbers}
use Rattle.base.specs.Output.{front_filled}
use Rattle.base.specs.Question.{ask}
use Rattle.base.specs.Refusal.{refused}
use Rattle.mcs.specs.Reader.{read_answer, read_output}
use Rattle.canonical.specs.Canonical.{canonical_text, canonical_length}
use Rattle.canonical.specs.Rule.{writable}
use Rattle.canonical.specs.Test.{is_canonical}
use Rattle.mcswriter.specs.Types.{BadImageLength, NoRoom, Refusal}

-- in numbers: how long the text is
abbrev pub text_numbers : Result ℕ Refusal → Numbered
text_numbers = in_numbers (λ length. length ∷ [])

-- `text_length`: 4 at 0, then the length
unfoldable pub length_answer : ℕ → Result ℕ Refusal
length_answer n = ask (writable n) (refused BadImageLength 0) (Ok (canonical_length n))

-- `write`: 4, then 19, both at 0; and the length of the text that was written
unfoldable pub write_answer : List ℕ → ℕ → Result ℕ Refusal
write_answer image room =
    ask (writable (length image)) (refused BadImageLength 0)
    (ask (leb (length (canonical_text image)) room) (refused NoRoom 0) (Ok (length (canonical_text image))))

-- The text fills the front of the lent buffer; a refusal leaves it as it was.
unfoldable pub write_output : List ℕ → List ℕ → List ℕ
write_output image buffer = ask (writable (length image)) buffer (front_filled (canonical_text image) buffer)

-- "The text read back must yield the image": what was written, lent to the reader with a buffer that the image fits into, fills the buffer's front with the image; and the test says yes of it.
pub record ReadBackFrom (text image : List ℕ) : Type 0 where
  pub answer : (buffer : List ℕ) → length image ≤ length buffer → read_answer text buffer ≡ Ok (length image)
  pub output : (buffer : List ℕ) → length image ≤ length buffer → read_output text buffer ≡ image ++ drop (length image) buffer
  pub canonical : is_canonical text ≡ true

abbrev pub ReadsBack : List ℕ → Result ℕ Refusal → List ℕ → Type 0
ReadsBack image answer out = (n : ℕ) → answer ≡ Ok n → ReadBackFrom (take n out) image
