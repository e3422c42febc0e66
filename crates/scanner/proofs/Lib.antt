pub mod ScanLaws
pub mod Laws
