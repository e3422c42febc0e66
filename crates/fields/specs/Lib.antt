-- What the contracts of this crate say: text and numbers, byte for byte, and a buffer that they were put into.
pub mod Fields
pub mod Page
