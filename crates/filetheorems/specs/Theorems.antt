-- What is proved of the functions for files, lists and reports: a host that goes through a list with `tealsettle_next_write` gets what `tealsettle_write` answers, write by write; how large a buffer a report needs; and that MCS text is told as text.
use Rattle.std.specs.Prelude.{ℕ, zero, suc, ◌+◌, ◌*◌, ◌<◌, ◌≤◌, ◌≡◌, List, length, Ok}
use Rattle.kind.specs.Spi.{spi, spi_number}
use Rattle.bootreader.specs.Boot.{boot_answer, chip_write}
use Rattle.bootreader.specs.Image.{image_answer, image_write}
use Rattle.results.specs.Boot.{boot_result, write_result, image_result}
use Rattle.imagefile.specs.Imagefile.{form_answer}
use Rattle.mcs.specs.Reading.{read_text}
use Rattle.fileresults.specs.List.{given_cursor}
use Rattle.hostfiles.specs.List.{listing_call, image_listing_call, next_call}
use Rattle.hostfiles.specs.Reporting.{report_call}
use Rattle.filetheorems.specs.Types.{Cursor, FormText, TealsettleWrite, TealsettleCursor, TealsettleListing, TealsettleStep}

-- a cursor that a host was handed, as it gives it to the next call
abbrev pub held_cursor : TealsettleCursor → Cursor
held_cursor c = given_cursor c.at c.register_number c.left c.remaining

-- the k-th step after a step, each with the cursor that the one before handed back, also where that found nothing
unfoldable pub nth_next : List ℕ → ℕ → TealsettleStep → TealsettleStep
nth_next bytes zero step = step
nth_next bytes (suc k) step = nth_next bytes k (next_call spi_number (held_cursor step.cursor) bytes)

-- the k-th step, counted from 0, from a listing's cursor on
abbrev pub nth_from : List ℕ → TealsettleListing → ℕ → TealsettleStep
nth_from bytes listing k = nth_next bytes k (next_call spi_number (held_cursor listing.cursor) bytes)

-- what a step says beside its cursor
unfoldable pub write_of_step : TealsettleStep → TealsettleWrite
write_of_step step = record {
  number = step.number;
  place = step.place;
  found = step.found;
  register_number = step.register_number;
  word = step.word;
  word_place = step.word_place;
}

-- A list gives every write, in order, and then none.
pub record HostLists : Type 0 where
  -- The k-th `tealsettle_next_write` from `tealsettle_writes` on says what `tealsettle_write` answers for k, also where it is that there is none;
  pub chip : (chip : List ℕ) → (listing_call spi_number chip).number ≡ 0 → (k : ℕ) → write_of_step (nth_from chip (listing_call spi_number chip) k) ≡ write_result (chip_write spi chip k)
  -- that from `tealsettle_image_writes` on says what `image::write` answers.
  pub image : (image : List ℕ) → (image_listing_call spi_number image).number ≡ 0 → (k : ℕ) → write_of_step (nth_from image (image_listing_call spi_number image) k) ≡ write_result (image_write spi image k)
  -- From a chip's cursor on a write is found as often as `tealsettle_boot` counts, and then none;
  pub chip_found : (chip : List ℕ) → (listing_call spi_number chip).number ≡ 0 → (k : ℕ) → k < (boot_result (boot_answer spi chip)).writes → (nth_from chip (listing_call spi_number chip) k).found ≡ 1
  pub chip_ended : (chip : List ℕ) → (listing_call spi_number chip).number ≡ 0 → (k : ℕ) → (boot_result (boot_answer spi chip)).writes ≤ k → (nth_from chip (listing_call spi_number chip) k).found ≡ 0
  -- from an image's as often as `tealsettle_image_check` counts;
  pub image_found : (image : List ℕ) → (image_listing_call spi_number image).number ≡ 0 → (k : ℕ) → k < (image_result (image_answer spi image)).writes → (nth_from image (image_listing_call spi_number image) k).found ≡ 1
  pub image_ended : (image : List ℕ) → (image_listing_call spi_number image).number ≡ 0 → (k : ℕ) → (image_result (image_answer spi image)).writes ≤ k → (nth_from image (image_listing_call spi_number image) k).found ≡ 0
  -- and from a list that was refused none is found, whatever the bytes and the kind's number.
  pub chip_refused : (kind : ℕ) (chip bytes : List ℕ) → ((listing_call kind chip).number ≡ 0 → ⊥) → (k : ℕ) → (nth_from bytes (listing_call kind chip) k).found ≡ 0
  pub image_refused : (kind : ℕ) (image bytes : List ℕ) → ((image_listing_call kind image).number ≡ 0 → ⊥) → (k : ℕ) → (nth_from bytes (image_listing_call kind image) k).found ≡ 0

-- A buffer of 27 bytes for each write that `tealsettle_boot` counts, and 64 more, has room for the report.
abbrev pub ReportFits : Type 0
ReportFits =
    (chip buffer : List ℕ) → (boot_result (boot_answer spi chip)).number ≡ 0 → 27 * (boot_result (boot_answer spi chip)).writes + 64 ≤ length buffer →
    (report_call spi_number chip buffer).number ≡ 0

-- A text that `tealsettle_mcs_read` reads, into a buffer that is large enough, is told as text by `tealsettle_file_form`.
abbrev pub TextTold : Type 0
TextTold = (text image : List ℕ) → read_text text ≡ Ok image → form_answer text ≡ Ok FormText
