pub mod PutLaws
pub mod FieldLaws
pub mod PageLaws
pub mod Laws
