-- The functions that a C host calls for files, for what a chip says of itself, for lists and reports.
pub mod Types
pub mod Switch
pub mod Place
pub mod List
pub mod Reporting
