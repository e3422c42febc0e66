pub mod LayoutLaws
pub mod Laws
