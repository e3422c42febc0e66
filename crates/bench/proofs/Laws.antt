-- What crates above may count on of the bench, beside its contract.
pub use Rattle.bench.proofs.MixtureLaws.{allows_may}
pub use Rattle.bench.proofs.BenchLaws.{by_start}
unfoldable pub use Rattle.bench.proofs.BenchLaws.{on_start}
