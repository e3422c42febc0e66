-- What an erase and a program do to a chip's bytes. Document 01, "The chip" and "A chip's life".
use Rattle.std.specs.Prelude.{ℕ, ◌+◌, ◌/◌, ◌%◌, ◌^◌, ◌<◌, ◌≡◌, ◌⊎◌, List, [], ◌∷◌, ◌++◌, Result, Ok, leb, length, get_or, take, drop, replicate}
use Rattle.std.specs.Int.Bits.{bit_and}
use Rattle.base.specs.Answer.{Numbered, in_numbers}
use Rattle.base.specs.Question.{ask}
use Rattle.base.specs.Refusal.{refused}
use Rattle.flash.specs.Types.{NoRoom, Refusal}

-- `count` bytes FF: an erase sets its span to them
abbrev pub erased : ℕ → List ℕ
erased count = replicate count 0xFF

-- `count` of a chip's bytes, from a place
abbrev pub span : List ℕ → ℕ → ℕ → List ℕ
span chip place count = take count (drop place chip)

-- A chip whose bytes from a place on are these; outside their span every byte stays.
abbrev pub overwrite : List ℕ → ℕ → List ℕ → List ℕ
overwrite chip place bytes = take place chip ++ (bytes ++ drop (place + length bytes) chip)

-- The same where a span of `count` bytes lies within the chip; else the chip as it was.
unfoldable pub overwrite_in_range : List ℕ → ℕ → ℕ → List ℕ → List ℕ
overwrite_in_range chip place count bytes = ask (leb (place + count) (length chip)) chip (overwrite chip place bytes)

-- in numbers: what is done has no values
abbrev pub flash_numbers : Result (Unit {0}) Refusal → Numbered
flash_numbers = in_numbers (λ done. [])

-- What `fill`, `erase`, `program` and `overwrite` answer, by the chip's length, the place and how many bytes: a span that does not lie within the chip is refused with 19 at 0 (question 13).
unfoldable pub flash_answer : ℕ → ℕ → ℕ → Result (Unit {0}) Refusal
flash_answer chip_length place count = ask (leb (place + count) chip_length) (refused NoRoom 0) (Ok tt)

-- A program can only clear bits: an obeying chip clears exactly those that are 0 in its bytes.
unfoldable pub cleared : List ℕ → List ℕ → List ℕ
cleared (old ∷ more) (byte ∷ bytes) = bit_and old byte ∷ cleared more bytes
cleared [] bytes = []
cleared (old ∷ more) [] = []

-- What an obeying chip's span holds after a program; after an erase it is `erased`.
abbrev pub after_program : List ℕ → ℕ → List ℕ → List ℕ
after_program chip place bytes = cleared (span chip place (length bytes)) bytes

-- bit n of a byte
abbrev pub bit : ℕ → ℕ → ℕ
bit n byte = byte / 2 ^ n % 2

-- Each bit ends old or as an obeying chip would hold it, in any mixture.
abbrev pub BitwiseMix : List ℕ → List ℕ → List ℕ → Type 0
BitwiseMix old obeyed new = (i : ℕ) → i < length new → (n : ℕ) → n < 8 → (bit n (get_or new i 0) ≡ bit n (get_or old i 0)) ⊎ (bit n (get_or new i 0) ≡ bit n (get_or obeyed i 0))
