-- What skipping whole packets keeps. No promise of a public call rests on it.
pub mod Types
pub mod Fastpath
