-- The canonical form of MCS text, in the order to read it: the text that an image is written to; the paper's sentence as a rule of its own; the test.
pub mod Canonical
pub mod Rule
pub mod Test
-- What is proved of them.
pub mod Theorems
-- What only the contracts of functions that are no public calls cite. No promise rests on it.
pub mod Pass
