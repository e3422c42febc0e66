-- What the contracts and the theorems of this crate say, in the order to read it: what an order may leave, well-formed chips and the laws of a kind, the switch word, the update area's place.
pub mod Types
pub mod Cut
pub mod Chip
pub mod Switch
pub mod UpdatePlace
-- What is proved of them, beside the contracts.
pub mod Theorems
