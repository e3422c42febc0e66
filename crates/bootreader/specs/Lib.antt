-- What the contracts of the public calls say: on an image by itself, and on a chip.
pub mod Types
pub mod Image
pub mod Boot
-- What is proved of them, beside the contracts.
pub mod Theorems
