pub mod FieldLaws
pub mod TextLaws
pub mod FormLaws
pub mod Laws
