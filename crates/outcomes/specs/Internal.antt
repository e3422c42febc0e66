-- What only contracts of functions that are no public calls cite.
use Rattle.std.specs.Prelude.{ℕ, ◌-◌, ◌^◌, eqb}
use Rattle.std.specs.Int.Bits.{bit_and, bit_xor}
use Rattle.std.specs.Int.Count.{ones}
use Rattle.base.specs.Question.{ask}
use Rattle.outcomes.specs.Types.{TealsettleCounts}

-- ON on an SPI chip, as a number
abbrev pub spi_on_word : ℕ
spi_on_word = 0xAA995566

-- the bits in which ON differs from the old word, apart from those that can change
abbrev pub outside : ℕ → ℕ → ℕ
outside old changing = bit_and (bit_xor spi_on_word old) (0xFFFFFFFF - changing)

-- The counts by the bits that can change: as many words as there are patterns of those bits, and ON among them if it differs from the old word nowhere else.
abbrev pub counts_by : ℕ → ℕ → TealsettleCounts
counts_by exponent outside = record { words = 2 ^ exponent; on = ask (eqb outside 0) 0 1 }

unfoldable pub changing_counts : ℕ → ℕ → TealsettleCounts
changing_counts old changing = counts_by (ones changing) (outside old changing)
