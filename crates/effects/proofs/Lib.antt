pub mod ReachLaws
pub mod ProgressLaws
pub mod Laws
