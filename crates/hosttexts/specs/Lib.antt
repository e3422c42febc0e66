-- What a C host gets of MCS text that is written or tested.
pub mod Types
pub mod Result
pub mod Writing
