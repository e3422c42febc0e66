pub mod RunLaws
pub mod OrderLaws
pub mod CallLaws
pub mod Laws
