-- What is proved of the image with most writes: it is accepted with that many, and nothing that loads has more.
use Rattle.std.specs.Prelude.{ℕ, ◌*◌, ◌/◌, ◌≤◌, ◌≡◌, Bool, true, List, length, Ok}
use Rattle.configreader.specs.Configreader.{read_from}
use Rattle.kind.specs.Spi.{spi}
use Rattle.bootreader.specs.Boot.{boot_answer}
use Rattle.bootreader.specs.Image.{image_answer, accepted}
use Rattle.heaviest.specs.Heaviest.{heaviest_length_allowed, most_writes, heaviest_image}
use Rattle.heaviest.specs.Types.{Loaded, BootLoaded}

-- `most_writes n` is the greatest number of writes that an accepted image of n bytes can have, and `heaviest_image n` has it.
pub record MostWrites : Type 0 where
  -- The image that is written has n bytes,
  pub long : (n : ℕ) → heaviest_length_allowed n ≡ true → length (heaviest_image n) ≡ n
  -- and the image check accepts it, to its last whole word, with exactly that many writes;
  pub reached : (n : ℕ) → heaviest_length_allowed n ≡ true → image_answer spi (heaviest_image n) ≡ accepted 0 (4 * (n / 4)) (most_writes n)
  -- every image that the image check accepts has at most that many for its length.
  pub bound : (image : List ℕ) (sync end writes : ℕ) → image_answer spi image ≡ accepted sync end writes → writes ≤ most_writes (length image)

-- Nothing that loads has more writes than `most_writes` of the length that is read.
pub record NothingLoadsMore : Type 0 where
  -- No chip has, after a jump too;
  pub chip : (chip : List ℕ) (sync end writes : ℕ) (jumped : Bool) → boot_answer spi chip ≡ Ok (BootLoaded sync end writes jumped) → writes ≤ most_writes (length chip)
  -- nor any reading, wherever it begins;
  pub reading : (left : ℕ) (jumped : Bool) (bytes : List ℕ) (from sync end writes : ℕ) (after : Bool) → from ≤ length bytes → read_from left jumped bytes from ≡ Loaded sync end writes after →
      writes ≤ most_writes (length bytes)
  -- and more bytes allow no fewer.
  pub grows : (n m : ℕ) → n ≤ m → most_writes n ≤ most_writes m
