-- What a reader is, what it gives next, and what its calls come to together.
pub mod Types
pub mod Imagereader
pub mod Theorems
-- What only the contracts of functions that are no public calls cite. No promise rests on it.
pub mod Internal
