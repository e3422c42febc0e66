-- Bytes compared with those expected.
pub mod Comparison
