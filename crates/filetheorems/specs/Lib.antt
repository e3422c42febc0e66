-- What is proved of the functions that a C host calls for files, lists and reports.
pub mod Types
pub mod Theorems
