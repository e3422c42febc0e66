-- What the contract of the public call says: the report of an image file.
pub mod Types
pub mod Filereport
-- What is proved of it, beside the contract.
pub mod Theorems
