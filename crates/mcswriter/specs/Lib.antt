-- What the contracts of this crate say.
pub mod Types
pub mod Mcswriter
