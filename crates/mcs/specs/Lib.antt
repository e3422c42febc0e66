-- What the contract of the public call says, in the order to read it: a file's text, what a text holds, the call. (Digits and one line are in the crates `digits` and `mcsline`.)
pub mod Types
pub mod Text
pub mod Reading
pub mod Reader
-- What is proved of them, beside the contract.
pub mod Theorems
-- What only the contracts of functions that are no public calls cite. No promise rests on it.
pub mod Passes
