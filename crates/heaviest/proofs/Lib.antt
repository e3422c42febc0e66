pub mod ImageLaws
pub mod AcceptedLaws
pub mod Laws
