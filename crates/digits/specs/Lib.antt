-- Digits, as the contract of the reader says them.
pub mod Digit
-- What only the contracts of functions that are no public calls cite. No promise rests on it.
pub mod Table
pub mod Pairs
