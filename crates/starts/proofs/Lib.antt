pub mod StartLaws
pub mod ProgressLaws
pub mod Laws
