-- The functions that a C host calls, each as one definition for what it returns and, where it writes, one for the lent bytes. Here: what loads.
use Rattle.std.specs.Prelude.{ℕ, List}
use Rattle.results.specs.Kinds.{ask_kind}
use Rattle.base.specs.Refusal.{refused}
use Rattle.kind.specs.Spi.{spi}
use Rattle.bootreader.specs.Boot.{boot_answer, chip_write}
use Rattle.bootreader.specs.Image.{image_answer}
use Rattle.host.specs.Types.{BadChipLength, TealsettleBoot, TealsettleWrite, TealsettleImage}
use Rattle.results.specs.Boot.{boot_result, write_result, image_result}

-- `tealsettle_boot`
abbrev pub boot_call : ℕ → List ℕ → TealsettleBoot
boot_call kind chip = boot_result (ask_kind kind (refused BadChipLength 0) (boot_answer spi chip))

-- `tealsettle_write`
abbrev pub write_call : ℕ → List ℕ → ℕ → TealsettleWrite
write_call kind chip i = write_result (ask_kind kind (refused BadChipLength 0) (chip_write spi chip i))

-- `tealsettle_image_check`
abbrev pub image_call : ℕ → List ℕ → TealsettleImage
image_call kind image = image_result (ask_kind kind (refused BadChipLength 0) (image_answer spi image))
