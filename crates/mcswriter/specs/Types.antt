-- The types of the code that this crate's definitions and proofs name, with their cases; each has one name in the whole tree.
pub use Rattle.base.specs.declared.refusal.Reason.TheVariants.{BadImageLength, NoRoom}
pub use Rattle.base.specs.declared.refusal.Refusal.{Refusal}
