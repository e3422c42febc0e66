-- The kind of chip that the FPGA reads over SPI. Document 01, "The chip".
use Rattle.std.specs.Prelude.{ℕ, List, [], ◌∷◌, ◌++◌}
use Rattle.framing.specs.Search.{begins_with}
use Rattle.framing.specs.Words.{bytes_of}
use Rattle.configreader.specs.Configreader.{read_chip, read_alone, listed}
use Rattle.kind.specs.Kind.{Kind}

-- ON is AA 99 55 66; all else is OFF.
abbrev pub spi_on : List ℕ
spi_on = 0xAA ∷ 0x99 ∷ 0x55 ∷ 0x66 ∷ []

-- Segment 1: the words 30020001, U, 30008001, 0000000F, 20000000, high byte first.
unfoldable pub spi_warm_boot : ℕ → List ℕ
spi_warm_boot update_place = bytes_of 0x30020001 ++ bytes_of update_place ++ bytes_of 0x30008001 ++ bytes_of 0x0000000F ++ bytes_of 0x20000000

abbrev pub spi : Kind
spi = record { on = spi_on; is_on = begins_with spi_on; warm_boot = spi_warm_boot; reads = read_chip; alone = read_alone; lists = listed }

-- the kind's number at the C interface
abbrev pub spi_number : ℕ
spi_number = 0
