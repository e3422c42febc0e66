-- One line, as the contract of the reader says it, in the order to read it: a record's text, and what a line holds.
pub mod Types
pub mod Record
pub mod Line
-- What only the contracts of functions that are no public calls cite. No promise rests on it.
pub mod Place
