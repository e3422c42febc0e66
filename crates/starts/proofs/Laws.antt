-- What crates above may count on of a start, beside the contracts.
pub use Rattle.starts.proofs.StartLaws.{Opened, opened, starts}
pub use Rattle.starts.proofs.ProgressLaws.{orders_counted}
