-- What the contracts of this crate say, in the order to read it: the layout with its fixed numbers and questions 1 to 4, a chip kind as a record, and the SPI kind.
pub mod Types
pub mod Layout
pub mod Kind
pub mod Spi
