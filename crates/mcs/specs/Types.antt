-- The types of the code that this crate's definitions and proofs name, with their cases; each has one name in the whole tree.
pub use Rattle.base.specs.declared.refusal.Reason.{Reason}
pub use Rattle.base.specs.declared.refusal.Reason.TheVariants.{BadLine, BadAddress, BadEnd, NoRoom}
pub use Rattle.base.specs.declared.refusal.Refusal.{Refusal}
pub use Rattle.mcsline.specs.declared.line.Line.{Line as CodeLine}
pub use Rattle.mcsline.specs.declared.line.Line.TheVariants.{Data as DataLine, ExtendedLinearAddress as ExtendedLinearAddressLine, End as EndLine}
