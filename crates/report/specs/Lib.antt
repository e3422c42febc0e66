-- What the contracts of the public calls say: the report of a refusal, and of a chip.
pub mod Types
pub mod Refusal
pub mod Boot
