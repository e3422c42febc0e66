-- What the crates above may count on of a scanner, beside the contracts.
pub use Rattle.scanner.proofs.ScanLaws.{least, other_plain, header_on, data_past, some_mode, at_write, at_end, finish_scan, nth_scan}
unfoldable pub use Rattle.scanner.proofs.ScanLaws.{scanned_write}
