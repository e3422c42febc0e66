pub mod SearchLaws
pub mod WordLaws
pub mod Laws
