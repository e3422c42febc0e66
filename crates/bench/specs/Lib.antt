-- What the contract of the bench says: a run that is cut.
pub mod Types
pub mod Bench
