-- The packet rules, in the order to read them: one word, and words to writes.
pub mod Types
pub mod Header
pub mod Trace
-- What is proved of them.
pub mod Theorems
