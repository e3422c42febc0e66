-- What is proved of the functions for files, lists and reports, beside the contracts.
pub use Rattle.filetheorems.proofs.ListLaws.{host_lists}
pub use Rattle.filetheorems.proofs.ReportLaws.{report_fits}
pub use Rattle.filetheorems.proofs.FormLaws.{text_told}
