-- The types of the code that the definitions and proofs name, with their cases; each has one name in the whole tree.
pub use Rattle.base.specs.declared.refusal.Reason.{Reason}
pub use Rattle.base.specs.declared.refusal.Reason.TheVariants.{BadChipLength, BadUpdatePlace, BadUpdateLength, BadImageLength, ImageFault, ImageJumps, BadState, RunEnded, BadReply, SwitchNotErased, UpdateDiffers, SwitchNotOn, BadDamage, BadLine, BadSum, BadRecord, BadAddress, BadEnd, NoRoom, BadHeaviestLength}
pub use Rattle.base.specs.declared.refusal.Refusal.{Refusal}
