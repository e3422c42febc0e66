-- What crates above may count on of the canonical form.
pub use Rattle.canonical.proofs.PartLaws.{upper_here, upper_none, file_append, in_parts}
pub use Rattle.canonical.proofs.LengthLaws.{end_long, shorter, text_long}
pub use Rattle.canonical.proofs.TestLaws.{one_text, read_back, test_exact}
pub use Rattle.canonical.proofs.PassLaws.{pass_exact}
