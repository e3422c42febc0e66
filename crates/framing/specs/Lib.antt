-- What the contracts of this crate say: where the sync word is, and the words after it.
pub mod Search
pub mod Words
