-- What a C host gets for each case of a run's answers.
pub mod Types
pub mod Run
pub mod Counts
pub mod Cut
