-- The image with most writes, and how many it has: each call as one definition. Document 02, M-111.
use Rattle.std.specs.Prelude.{ℕ, ◌+◌, ◌-◌, ◌/◌, ◌%◌, Bool, true, false, List, [], ◌∷◌, ◌++◌, leb, replicate, Result, Ok}
use Rattle.base.specs.Answer.{Numbered, in_numbers}
use Rattle.base.specs.Output.{front_filled}
use Rattle.base.specs.Question.{ask}
use Rattle.base.specs.Refusal.{refused}
use Rattle.framing.specs.Words.{bytes_of_words}
use Rattle.packets.specs.Header.{DESYNC}
use Rattle.bootreader.specs.Image.{shortest_image, longest_image}
use Rattle.heaviest.specs.Types.{BadHeaviestLength, NoRoom, Refusal}

-- In place of question 4: can an accepted image have n bytes, 12 to 16,777,216?
unfoldable pub heaviest_length_allowed : ℕ → Bool
heaviest_length_allowed n = ask (leb shortest_image n) false (leb n longest_image)

-- THE GREATEST NUMBER of writes in so many words: with w words it is w - 2 up to w = 2,049, and w - 3 beyond.
unfoldable pub most_in : ℕ → ℕ
most_in words = elim (leb words 2049) [ true ↦ words - 2 | false ↦ words - 3 ]

-- w is n/4 rounded down.
abbrev pub most_writes : ℕ → ℕ
most_writes n = most_in (n / 4)

-- Every write is in one packet for CMD. A type 1 header has room for its count up to w = 2,049; beyond, a type 1 header of count 0 comes first, and a type 2 header has the count.
unfoldable pub heaviest_headers : ℕ → List ℕ
heaviest_headers words =
    elim (leb words 2049) [
      | true ↦ (0x30008000 + most_in words) ∷ []
      | false ↦ 0x30008000 ∷ (0x50000000 + most_in words) ∷ []
    ]

-- the word of CMD that does nothing
abbrev pub null_command : ℕ
null_command = 0x00000000

-- The sync word, the packet's headers, and its data words: commands that do nothing, and DESYNC as the last.
abbrev pub heaviest_words : ℕ → List ℕ
heaviest_words words = (0xAA995566 ∷ heaviest_headers words) ++ (replicate (most_in words - 1) null_command ++ (DESYNC ∷ []))

-- SUCH AN IMAGE of n bytes: these words, and FF after the last whole one.
abbrev pub heaviest_image : ℕ → List ℕ
heaviest_image n = bytes_of_words (heaviest_words (n / 4)) ++ replicate (n % 4) 0xFF

-- in numbers: how many writes
abbrev pub most_numbers : Result ℕ Refusal → Numbered
most_numbers = in_numbers (λ writes. writes ∷ [])

-- `most_writes`: 29 at 0, then the number
unfoldable pub most_answer : ℕ → Result ℕ Refusal
most_answer n = ask (heaviest_length_allowed n) (refused BadHeaviestLength 0) (Ok (most_writes n))

-- `write_image`: 29, then question 13 (refusal 19), both at 0; and the number of the image that was written
unfoldable pub heaviest_answer : ℕ → ℕ → Result ℕ Refusal
heaviest_answer n room =
    ask (heaviest_length_allowed n) (refused BadHeaviestLength 0)
    (ask (leb n room) (refused NoRoom 0) (Ok (most_writes n)))

-- The image fills the front of the lent buffer; a refusal leaves it as it was.
unfoldable pub heaviest_output : ℕ → List ℕ → List ℕ
heaviest_output n buffer = ask (heaviest_length_allowed n) buffer (front_filled (heaviest_image n) buffer)
