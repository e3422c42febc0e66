-- What the contracts of this crate say: what an order does to a chip, and where a run is after a number of them.
pub mod Types
pub mod Effects
pub mod Progress
