pub mod ListLaws
pub mod ReportLaws
pub mod FormLaws
pub mod Laws
