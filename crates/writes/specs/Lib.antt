-- What a cursor over the writes still has to give, and its next step.
pub mod Types
pub mod Cursor
-- What is proved of it, beside the contracts.
pub mod Theorems
-- What only the contracts of functions that are no public calls cite. No promise rests on it.
pub mod Next
pub mod Reading
