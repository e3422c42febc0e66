-- What the contract of this crate says: what a file with an image is.
pub mod Types
pub mod Imagefile
-- What is proved of it, beside the contract.
pub mod Theorems
