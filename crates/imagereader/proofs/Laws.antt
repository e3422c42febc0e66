-- What crates above may count on of a reader, beside the contracts: what its calls come to together, and that the data words of a packet lie within the image.
pub use Rattle.imagereader.proofs.ReaderLaws.{reader_reads, found_inside}
