-- The types of the code that this crate's definitions and proofs name, with their cases; each has one name in the whole tree.
pub use Rattle.base.specs.declared.refusal.Reason.{Reason}
pub use Rattle.base.specs.declared.refusal.Reason.TheVariants.{BadChipLength, BadUpdatePlace, BadUpdateLength, BadImageLength}
pub use Rattle.base.specs.declared.refusal.Refusal.{Refusal}
pub use Rattle.packets.specs.declared.trace.Write.{Write}
pub use Rattle.configreader.specs.declared.Outcome.{Outcome}
pub use Rattle.kind.specs.declared.layout.Layout.{Layout}
