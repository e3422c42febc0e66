-- What programs may count on of the report of an image file, beside the contract: how long it can be.
pub use Rattle.filereport.proofs.FitLaws.{file_report_fits}
