-- What the contracts of this crate say, in the order to read it: a run's state with its current order, and the calls.
pub mod Types
pub mod State
pub mod Run
pub mod Theorems
-- What only the contracts of functions that are no public calls cite. No promise rests on it.
pub mod Judging
