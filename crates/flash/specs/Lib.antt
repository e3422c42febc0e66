-- What an erase and a program do to the bytes of a flash chip.
pub mod Types
pub mod Flash
