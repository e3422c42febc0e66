-- What crates above may count on of the lines, beside the contracts: how long each is.
pub use Rattle.reportlines.proofs.LineLaws.{length_loaded, length_write, length_writes, length_end, length_stuck, length_refused}
