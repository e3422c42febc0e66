-- What the contract of the builder says.
pub mod Types
pub mod Builder
-- What is proved of the chip that it makes, beside the contract.
pub mod Theorems
