pub mod PlacementLaws
pub mod ReadingLaws
pub mod Laws
