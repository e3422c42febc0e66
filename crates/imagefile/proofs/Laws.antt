-- What crates above may count on of files with an image, beside the contract: where the image of a BIT file lies, that every BIT file gives its image, that text has no sync word, and text by its parts.
pub use Rattle.imagefile.proofs.FormLaws.{bit_inside, bit_file_law, text_has_no_sync}
pub use Rattle.imagefile.proofs.TextLaws.{text_parts}
