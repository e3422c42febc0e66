pub mod CursorLaws
pub mod NextLaws
pub mod Laws
