-- What the contracts of this crate say, in the order to read it: how many orders a phase has, what they are, and the reply that each asks for.
pub mod Types
pub mod Table
pub mod Orders
pub mod Replies
-- What is proved of them, beside the contracts.
pub mod Theorems
-- What only the contracts of functions that are no public calls cite. No promise rests on it.
pub mod Carried
pub mod Judging
