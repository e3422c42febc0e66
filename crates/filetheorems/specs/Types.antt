-- The types of the code that this crate's definitions and proofs name, with their cases; each has one name in the whole tree.
pub use Rattle.base.specs.declared.refusal.Reason.TheVariants.{BadChipLength, BadImageLength}
pub use Rattle.base.specs.declared.refusal.Refusal.{Refusal}
pub use Rattle.packets.specs.declared.trace.Write.{Write}
pub use Rattle.writes.specs.declared.cursor.Cursor.{Cursor}
pub use Rattle.writes.specs.declared.cursor.Step.{Step}
pub use Rattle.configreader.specs.declared.Outcome.{Outcome}
pub use Rattle.configreader.specs.declared.Outcome.TheVariants.{Loaded, Iprog as OutcomeIprog, Stuck}
pub use Rattle.imagefile.specs.declared.FileForm.TheVariants.{Text as FormText}
pub use Rattle.results.specs.declared.boot.TealsettleWrite.{TealsettleWrite}
pub use Rattle.fileresults.specs.declared.list.TealsettleCursor.{TealsettleCursor}
pub use Rattle.fileresults.specs.declared.list.TealsettleListing.{TealsettleListing}
pub use Rattle.fileresults.specs.declared.list.TealsettleStep.{TealsettleStep}
