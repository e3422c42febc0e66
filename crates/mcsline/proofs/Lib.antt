pub mod LineLaws
pub mod TypeLaws
pub mod ShapeLaws
pub mod DataLaws
pub mod TextLaws
pub mod RecordLaws
pub mod NumberLaws
pub mod Laws
