-- How the code steps through packets. No promise of a public call rests on it.
pub mod Types
pub mod Scan
