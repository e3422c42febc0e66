pub mod ListLaws
pub mod CountLaws
pub mod ExactLaws
pub mod Laws
