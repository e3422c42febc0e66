-- What the contracts of this crate say: the lines of a report, byte for byte.
pub mod Types
pub mod Reportlines
