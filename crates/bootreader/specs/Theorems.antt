-- What is proved of the calls on a chip and on an image: that the ways to the list of writes agree, how short an image can be, and how one is refused.
use Rattle.std.specs.Prelude.{ℕ, ◌≤◌, ◌≡◌, Bool, List, length, Ok}
use Rattle.writes.specs.Cursor.{remaining_writes, step_of, nth_step}
use Rattle.writes.specs.Theorems.{step_write}
use Rattle.configreader.specs.Configreader.{read_from, listed}
use Rattle.configreader.specs.Theorems.{twelve_bytes}
use Rattle.kind.specs.Spi.{spi}
use Rattle.base.specs.Refusal.{number_of, refused}
use Rattle.bootreader.specs.Image.{shortest_image, accepted, image_within, image_answer, image_write, image_listing}
use Rattle.bootreader.specs.Boot.{cursor_of, chip_write, chip_listing}
use Rattle.bootreader.specs.Types.{Reason, BadImageLength, ImageJumps, Loaded, Cursor}

-- A cursor gives the list of the chip or image it was opened on, write by write, as the call by index does.
pub record CursorLists : Type 0 where
  -- The cursor before the first write of a reading has to give all that the reading lists.
  pub whole : (left : ℕ) (jumped : Bool) (bytes : List ℕ) (from : ℕ) → from ≤ length bytes → remaining_writes bytes (cursor_of (read_from left jumped bytes from)) ≡ listed bytes (read_from left jumped bytes from)
  -- The k-th step of the cursor that `boot::writes` opens gives what `boot::write` answers for k;
  pub chip : (chip : List ℕ) (c : Cursor) → chip_listing spi chip ≡ Ok c → (k : ℕ) → Ok (step_write (nth_step chip k (step_of chip c))) ≡ chip_write spi chip k
  -- that of `image::writes` what `image::write` answers.
  pub image : (image : List ℕ) (c : Cursor) → image_listing spi image ≡ Ok c → (k : ℕ) → Ok (step_write (nth_step image k (step_of image c))) ≡ image_write spi image k

-- A reading that is Loaded lists as many writes as it counts.
abbrev pub WritesCounted : Type 0
WritesCounted =
    (left : ℕ) (jumped : Bool) (bytes : List ℕ) (from sync end writes : ℕ) (after : Bool) → from ≤ length bytes → read_from left jumped bytes from ≡ Loaded sync end writes after →
    length (listed bytes (Loaded sync end writes after)) ≡ writes

-- The shortest image that is accepted has 12 bytes: no shorter one is, and AA995566 30008001 0000000D is.
pub record ShortestImage : Type 0 where
  pub none_shorter : (image : List ℕ) (sync end writes : ℕ) → image_answer spi image ≡ accepted sync end writes → shortest_image ≤ length image
  pub of_twelve : image_answer spi twelve_bytes ≡ accepted 0 12 1

-- An image is refused with 4, 5 or 6, at a place within it or at its end, whatever its area's length.
abbrev pub ImageRefusals : Type 0
ImageRefusals =
    (longest : ℕ) (image : List ℕ) (reason : Reason) (place : ℕ) → image_within spi longest image ≡ refused reason place →
    (number_of BadImageLength ≤ number_of reason) × (number_of reason ≤ number_of ImageJumps) × (place ≤ length image)
