-- What the contracts of this crate say.
pub mod Types
pub mod Starts
-- What is proved of it, beside the contracts.
pub mod Theorems
