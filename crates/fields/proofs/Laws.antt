-- What crates above may count on of fields, beside the contracts: pieces put one after the other, and how long a number is.
pub use Rattle.fields.proofs.PutLaws.{paste_paste, paste_one, paste_byte, Put, put_length, put_after, put_then, put_whole, put_front, put_byte, put_field}
pub use Rattle.fields.proofs.FieldLaws.{length_hexadecimal, length_below}
pub use Rattle.fields.proofs.PageLaws.{wrote_nothing, wrote_then, wrote_front}
