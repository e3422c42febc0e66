-- The types of the code that this crate's definitions and proofs name, with their cases; each has one name in the whole tree.
pub use Rattle.base.specs.declared.refusal.Reason.{Reason}
pub use Rattle.base.specs.declared.refusal.Reason.TheVariants.{NoRoom}
pub use Rattle.base.specs.declared.refusal.Refusal.{Refusal}
pub use Rattle.configreader.specs.declared.Outcome.TheVariants.{Loaded}
pub use Rattle.kind.specs.declared.layout.Layout.{Layout}
pub use Rattle.bootreader.specs.declared.image.Accepted.{Accepted}
