-- What the contracts of this crate say, beside the text of a record (`mcsline`) and of a part (`canonical`): a line by its parts.
pub mod Record
