-- Where a chip's update area begins, as its segment 1 says: the public call as one definition. Document 01, "The chip".
use Rattle.std.specs.Prelude.{ℕ, ◌+◌, Bool, true, false, List, [], ◌∷◌, length, drop, Option, Some, None, Result, Ok}
use Rattle.base.specs.Question.{ask}
use Rattle.base.specs.Answer.{Numbered, in_numbers}
use Rattle.base.specs.Refusal.{refused}
use Rattle.framing.specs.Search.{begins_with}
use Rattle.framing.specs.Words.{word_at}
use Rattle.kind.specs.Layout.{chip_length_allowed, segment}
use Rattle.kind.specs.Kind.{Kind}
use Rattle.chip.specs.Types.{BadChipLength, Refusal}

-- The U that segment 1 would be for: the second of its words, as in the SPI kind's.
abbrev pub named_place : List ℕ → ℕ
named_place chip = word_at chip (segment + 4)

-- Whether segment 1 begins with a kind's warm-boot words for U.
abbrev pub begins_for : Kind → ℕ → List ℕ → Bool
begins_for kind update_place chip = begins_with (kind.warm_boot update_place) (drop segment chip)

-- in numbers: 1 and U; 0 where segment 1 says none
unfoldable pub place_values : Option ℕ → List ℕ
place_values (Some update_place) = 1 ∷ update_place ∷ []
place_values None = 0 ∷ []

abbrev pub place_numbers : Result (Option ℕ) Refusal → Numbered
place_numbers = in_numbers place_values

-- `update_place::read`: question 1, then U where segment 1 begins with the words for it
unfoldable pub place_case : Bool → ℕ → Result (Option ℕ) Refusal
place_case true update_place = Ok (Some update_place)
place_case false update_place = Ok None

unfoldable pub place_answer : Kind → List ℕ → Result (Option ℕ) Refusal
place_answer kind chip = ask (chip_length_allowed (length chip)) (refused BadChipLength 0) (place_case (begins_for kind (named_place chip) chip) (named_place chip))
