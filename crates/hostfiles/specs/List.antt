-- The functions that a C host calls, each as one definition for what it returns and, where it writes, one for the lent bytes. Here: the writes, one after the other.
use Rattle.std.specs.Prelude.{ℕ, List, Ok}
use Rattle.base.specs.Refusal.{refused}
use Rattle.kind.specs.Spi.{spi}
use Rattle.writes.specs.Cursor.{step_of}
use Rattle.bootreader.specs.Boot.{chip_listing}
use Rattle.bootreader.specs.Image.{image_listing}
use Rattle.results.specs.Kinds.{ask_kind}
use Rattle.fileresults.specs.List.{listing_result, step_result}
use Rattle.hostfiles.specs.Types.{BadChipLength, Cursor, TealsettleListing, TealsettleStep}

-- `tealsettle_writes`
abbrev pub listing_call : ℕ → List ℕ → TealsettleListing
listing_call kind chip = listing_result (ask_kind kind (refused BadChipLength 0) (chip_listing spi chip))

-- `tealsettle_image_writes`
abbrev pub image_listing_call : ℕ → List ℕ → TealsettleListing
image_listing_call kind image = listing_result (ask_kind kind (refused BadChipLength 0) (image_listing spi image))

-- `tealsettle_next_write`
abbrev pub next_call : ℕ → Cursor → List ℕ → TealsettleStep
next_call kind cursor bytes = step_result (ask_kind kind (refused BadChipLength 0) (Ok (step_of bytes cursor)))
