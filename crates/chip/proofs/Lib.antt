pub mod SwitchLaws
pub mod SpiLaws
pub mod CutLaws
pub mod UpdatePlaceLaws
pub mod Laws
