-- What a C host gets for each case of what was answered of a file's form, a chip's switch and update place, a cursor over the writes or a report.
pub mod Types
pub mod Form
pub mod Switch
pub mod Place
pub mod List
pub mod Reporting
