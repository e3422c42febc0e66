-- What the contracts of this crate say.
pub mod Types
pub mod Heaviest
-- What is proved of it, beside the contracts.
pub mod Theorems
-- What only the contracts of functions that are no public calls cite. No promise rests on it.
pub mod Internal
