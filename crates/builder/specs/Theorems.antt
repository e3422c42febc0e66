-- What is proved of a chip that the builder makes.
use Rattle.std.specs.Prelude.{ℕ, ◌≡◌, false, List, length, Ok}
use Rattle.kind.specs.Layout.{golden_at}
use Rattle.kind.specs.Spi.{spi}
use Rattle.chip.specs.Chip.{switch_word, WellFormed, Loads}
use Rattle.builder.specs.Types.{Layout}
use Rattle.builder.specs.Builder.{built_chip, build_answer}

-- A chip that the builder answers has F bytes, is well-formed, has its switch OFF and loads the golden image it was given, whole, without a jump.
pub record BuiltChip : Type 0 where
  pub long : (layout : Layout) (golden : List ℕ) (room : ℕ) → build_answer spi layout golden room ≡ Ok tt → length (built_chip spi layout golden) ≡ layout.chip_length
  pub well_formed : (layout : Layout) (golden : List ℕ) (room : ℕ) → build_answer spi layout golden room ≡ Ok tt → WellFormed spi layout.update_place (built_chip spi layout golden)
  pub off : (layout : Layout) (golden : List ℕ) (room : ℕ) → build_answer spi layout golden room ≡ Ok tt → spi.is_on (switch_word (built_chip spi layout golden)) ≡ false
  pub loads : (layout : Layout) (golden : List ℕ) (room : ℕ) → build_answer spi layout golden room ≡ Ok tt → Loads spi (built_chip spi layout golden) golden golden_at false
