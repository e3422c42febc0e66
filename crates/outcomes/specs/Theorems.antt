-- What is proved of the words that a cut can leave: they are those that the chip's own rule permits, each listed one time, their number is a power of two, and at most one is ON.
use Rattle.std.specs.Prelude.{ℕ, ◌-◌, ◌^◌, ◌<◌, ◌≤◌, ◌≡◌, List, eqb, length}
use Rattle.std.specs.Int.Bits.{bit_and}
use Rattle.std.specs.Int.Count.{ones}
use Rattle.framing.specs.Words.{bytes_of}
use Rattle.kind.specs.Layout.{segment, switch_at}
use Rattle.flash.specs.Flash.{erased, overwrite, after_program}
use Rattle.chip.specs.Chip.{switch_word}
use Rattle.chip.specs.Cut.{MayLeave}
use Rattle.kind.specs.Spi.{spi}
use Rattle.outcomes.specs.Outcomes.{program_outcomes, erase_outcomes, how_many, program_counts, erase_counts}

-- A cut order can leave this switch word: there are bytes that the chip's own rule of damage permits in the order's span, and with them the switch word is this one.
pub record CanLeave (chip : List ℕ) (place : ℕ) (obeyed switch : List ℕ) : Type 0 where
  pub new : List ℕ
  pub may : MayLeave chip place obeyed new
  pub left : switch_word (overwrite chip place new) ≡ switch

-- A word is in a list.
abbrev pub Listed : ℕ → List ℕ → Type 0
Listed word words = 1 ≤ how_many (eqb word) words

-- A list of exactly the words that an order can leave:
pub record Exactly (words : List ℕ) (chip : List ℕ) (place : ℕ) (obeyed : List ℕ) : Type 0 where
  -- each word of it can be left;
  pub permitted : (word : ℕ) → Listed word words → CanLeave chip place obeyed (bytes_of word)
  -- each switch word that can be left is in it;
  pub complete : (switch : List ℕ) → CanLeave chip place obeyed switch → (word : ℕ) × (bytes_of word ≡ switch) × Listed word words
  -- no word is in it twice, and each is a word of 32 bits, so no two are the same four bytes.
  pub once : (word : ℕ) → how_many (eqb word) words ≤ 1
  pub whole : (word : ℕ) → Listed word words → word < 2 ^ 32

-- On any chip whose switch word is the old one, the lists are exactly the words that a cut can leave there: of a program of the switch word, and of an erase of its segment.
pub record OutcomesExact : Type 0 where
  pub program : (chip : List ℕ) (old ordered : ℕ) → switch_word chip ≡ bytes_of old → Exactly (program_outcomes old ordered) chip switch_at (after_program chip switch_at (bytes_of ordered))
  pub erase : (chip : List ℕ) (old : ℕ) → switch_word chip ≡ bytes_of old → Exactly (erase_outcomes old) chip 0 (erased segment)

-- Their number is two to the number of bits that can change: those that are 1 in the old word and 0 in the one ordered, or for an erase 0 in the old one.
pub record PowersOfTwo : Type 0 where
  pub program : (old ordered : ℕ) → old < 2 ^ 32 → ordered < 2 ^ 32 → length (program_outcomes old ordered) ≡ 2 ^ ones (bit_and old (0xFFFFFFFF - ordered))
  pub erase : (old : ℕ) → old < 2 ^ 32 → length (erase_outcomes old) ≡ 2 ^ ones (0xFFFFFFFF - old)

-- At most one of them is ON on an SPI chip.
pub record OnAtMostOnce : Type 0 where
  pub program : (old ordered : ℕ) → (program_counts spi old ordered).on ≤ 1
  pub erase : (old : ℕ) → (erase_counts spi old).on ≤ 1
