-- A chip's fixed numbers, its layout, and the questions about lengths and places. Document 01, "The chip" and "Questions at the door".
use Rattle.std.specs.Prelude.{ℕ, ◌+◌, ◌%◌, Bool, false, [], Result, Ok, eqb, leb, ltb}
use Rattle.base.specs.Answer.{Numbered, in_numbers}
use Rattle.base.specs.Question.{ask}
use Rattle.base.specs.Refusal.{refused}
use Rattle.kind.specs.Types.{Reason, BadChipLength, BadUpdatePlace, BadUpdateLength, BadImageLength, Refusal, Layout}

-- A chip has 16,384 to 16,777,216 bytes.
abbrev pub shortest_chip : ℕ
shortest_chip = 16384

abbrev pub longest_chip : ℕ
longest_chip = 16777216

-- A program takes 1 to 256 bytes inside one page of 256.
abbrev pub page : ℕ
page = 256

-- An erase takes a segment.
abbrev pub segment : ℕ
segment = 4096

-- The switch word is the last word of segment 0.
abbrev pub switch_at : ℕ
switch_at = 4092

-- The golden area goes from here up to U.
abbrev pub golden_at : ℕ
golden_at = 8192

-- The layout of F, U and A: the chip's length, the update area's place, and its length.
abbrev pub layout_of : ℕ → ℕ → ℕ → Layout
layout_of chip_length update_place update_length = record { chip_length = chip_length; update_place = update_place; update_length = update_length }

-- Question 1: is F a multiple of 4,096, from 16,384 to 16,777,216?
unfoldable pub chip_length_allowed : ℕ → Bool
chip_length_allowed chip_length = ask (leb shortest_chip chip_length) false (ask (leb chip_length longest_chip) false (eqb (chip_length % segment) 0))

-- Question 2: is U a multiple of 4,096, at least 12,288 and below F?
unfoldable pub update_place_allowed : ℕ → ℕ → Bool
update_place_allowed chip_length update_place = ask (eqb (update_place % segment) 0) false (ask (leb 12288 update_place) false (ltb update_place chip_length))

-- Question 3: is A a multiple of 4,096, at least 4,096, with U + A at most F?
unfoldable pub update_length_allowed : ℕ → ℕ → ℕ → Bool
update_length_allowed chip_length update_place update_length = ask (eqb (update_length % segment) 0) false (ask (leb segment update_length) false (leb (update_place + update_length) chip_length))

-- Question 4: is an image 1 byte to its area's length?
unfoldable pub image_length_allowed : ℕ → ℕ → Bool
image_length_allowed longest image_length = ask (leb 1 image_length) false (leb image_length longest)

-- Questions 1 to 3, in order, and what is asked next.
unfoldable pub ask_layout {ℓ} : {A : Type ℓ} → (Reason → ℕ → A) → Layout → A → A
ask_layout refused layout rest =
    ask (chip_length_allowed layout.chip_length) (refused BadChipLength 0)
    (ask (update_place_allowed layout.chip_length layout.update_place) (refused BadUpdatePlace 0)
    (ask (update_length_allowed layout.chip_length layout.update_place layout.update_length) (refused BadUpdateLength 0) rest))

-- Questions 1 to 4 of a run that is only numbers yet: a layout, and the length of an image for its update area; and what is asked next.
unfoldable pub ask_numbers {ℓ} : {A : Type ℓ} → (Reason → ℕ → A) → Layout → ℕ → A → A
ask_numbers refused layout n rest = ask_layout refused layout (ask (image_length_allowed layout.update_length n) (refused BadImageLength 0) rest)

-- in numbers: a layout that is allowed has no values
abbrev pub layout_numbers : Result (Unit {0}) Refusal → Numbered
layout_numbers = in_numbers (λ allowed. [])

-- `Layout::check`: questions 1 to 3
unfoldable pub layout_answer : Layout → Result (Unit {0}) Refusal
layout_answer layout = ask_layout refused layout (Ok tt)

-- `Layout::check_with_image`: questions 1 to 4
unfoldable pub numbers_answer : Layout → ℕ → Result (Unit {0}) Refusal
numbers_answer layout n = ask_numbers refused layout n (Ok tt)
