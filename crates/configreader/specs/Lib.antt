-- What the configuration reader reads, from sync to sync.
pub mod Types
pub mod Configreader
-- What is proved of it, beside the contracts.
pub mod Theorems
