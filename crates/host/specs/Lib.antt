-- The functions that a C host calls.
pub mod Types
pub mod Boot
pub mod Build
pub mod Run
pub mod Cut
