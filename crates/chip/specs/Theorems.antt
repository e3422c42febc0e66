-- What is proved of chips: that the SPI kind keeps the laws of a kind, that a well-formed chip stays so, and that it names its own U.
use Rattle.std.specs.Prelude.{ℕ, ◌+◌, ◌^◌, ◌<◌, ◌≤◌, ◌≡◌, true, List, length, Some, Ok}
use Rattle.kind.specs.Layout.{chip_length_allowed, segment, switch_at}
use Rattle.kind.specs.Kind.{Kind}
use Rattle.kind.specs.Spi.{spi}
use Rattle.flash.specs.Flash.{erased, overwrite, after_program}
use Rattle.chip.specs.Cut.{MayLeave}
use Rattle.chip.specs.UpdatePlace.{begins_for, place_answer}
use Rattle.chip.specs.Chip.{switch_word, BitSuperset, WellFormed, Lawful}

-- The SPI kind keeps the laws of a kind: OFF loads the golden area, ON the image that stands at U.
abbrev pub SpiLawful : Type 0
SpiLawful = Lawful spi

-- A well-formed chip, of any kind, stays so whatever an order of a run may leave on it.
pub record StaysWellFormed : Type 0 where
  -- An erase of segment 0, cut inside or not, also keeps every 1 bit of the switch word;
  pub erase : (kind : Kind) (update_place : ℕ) (chip : List ℕ) → WellFormed kind update_place chip → (new : List ℕ) → MayLeave chip 0 (erased segment) new →
      WellFormed kind update_place (overwrite chip 0 new) × BitSuperset (switch_word (overwrite chip 0 new)) (switch_word chip)
  -- a program of ON, cut inside or not;
  pub program : (kind : Kind) (update_place : ℕ) (chip : List ℕ) → WellFormed kind update_place chip → length kind.on ≡ 4 → (new : List ℕ) → MayLeave chip switch_at (after_program chip switch_at kind.on) new →
      WellFormed kind update_place (overwrite chip switch_at new)
  -- any bytes in the update area, or after it.
  pub area : (kind : Kind) (update_place : ℕ) (chip : List ℕ) → WellFormed kind update_place chip → (place : ℕ) (new : List ℕ) → update_place ≤ place → place + length new ≤ length chip →
      WellFormed kind update_place (overwrite chip place new)

-- An SPI chip names where its update area begins.
pub record NamedPlace : Type 0 where
  -- The U of a well-formed chip is the one found;
  pub well_formed : (update_place : ℕ) (chip : List ℕ) → WellFormed spi update_place chip → place_answer spi chip ≡ Ok (Some update_place)
  -- segment 1 begins with the words for a U that is found;
  pub found : (update_place : ℕ) (chip : List ℕ) → place_answer spi chip ≡ Ok (Some update_place) → begins_for spi update_place chip ≡ true
  -- and every U whose words it begins with is found, so where nothing is found it begins so for none.
  pub every : (update_place : ℕ) (chip : List ℕ) → update_place < 2 ^ 32 → chip_length_allowed (length chip) ≡ true → begins_for spi update_place chip ≡ true → place_answer spi chip ≡ Ok (Some update_place)
