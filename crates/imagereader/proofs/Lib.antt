pub mod Laws
pub mod PacketLaws
mod ReaderLaws
