-- What crates above may count on of a comparison, beside the contracts.
pub use Rattle.comparison.proofs.ComparisonLaws.{padded_at, padded_length, filled_all, differs_none, none_same}
