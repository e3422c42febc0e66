-- What crates above may count on of the image with most writes, beside the contracts: that it is accepted with that many, and that nothing that loads has more.
pub use Rattle.heaviest.proofs.AcceptedLaws.{most_writes_reached, nothing_loads_more}
