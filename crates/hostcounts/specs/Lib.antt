-- The functions that a C host calls on numbers alone.
pub mod Types
pub mod Hostcounts
