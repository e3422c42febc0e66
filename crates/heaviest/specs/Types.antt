-- The types of the code that this crate's definitions and proofs name, with their cases; each has one name in the whole tree.
pub use Rattle.base.specs.declared.refusal.Reason.TheVariants.{BadHeaviestLength, NoRoom}
pub use Rattle.base.specs.declared.refusal.Refusal.{Refusal}
pub use Rattle.packets.specs.declared.header.Header.TheVariants.{Type1, Type2}
pub use Rattle.packets.specs.declared.trace.Finish.TheVariants.{Ended as FinishEnded}
pub use Rattle.configreader.specs.declared.Outcome.TheVariants.{Loaded}
pub use Rattle.bootreader.specs.declared.boot.Boot.TheVariants.{Loaded as BootLoaded}
