-- What a C host gets for each case of what a chip, an image, a builder or a reader of text answered, and of the greatest number of writes; and how it names a kind of chip.
pub mod Types
pub mod Kinds
pub mod Boot
pub mod Build
pub mod Most
pub mod Text
