-- What crates above may count on of the chip, beside the contracts: that the SPI kind keeps the laws of a kind, that a well-formed chip stays so whatever an order may leave, and that it names its own U.
use Rattle.chip.specs.Theorems.{StaysWellFormed}
pub use Rattle.chip.proofs.SpiLaws.{accepted_alone, spi_off_loads, spi_lawful}
pub use Rattle.chip.proofs.CutLaws.{obeyed_may, old_may, golden_stays, erase_well_formed, program_well_formed, area_switch, area_well_formed}
pub use Rattle.chip.proofs.SwitchLaws.{word_at_law, is_off_law}
pub use Rattle.chip.proofs.UpdatePlaceLaws.{named_place_law}

pub stays_well_formed : StaysWellFormed
stays_well_formed = record { erase = erase_well_formed; program = program_well_formed; area = area_well_formed }
