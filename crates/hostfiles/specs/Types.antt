-- The types of the code that this crate's definitions and proofs name, with their cases; each has one name in the whole tree.
pub use Rattle.base.specs.declared.refusal.Reason.TheVariants.{BadChipLength}
pub use Rattle.writes.specs.declared.cursor.Cursor.{Cursor}
pub use Rattle.fileresults.specs.declared.list.TealsettleListing.{TealsettleListing}
pub use Rattle.fileresults.specs.declared.list.TealsettleStep.{TealsettleStep}
pub use Rattle.fileresults.specs.declared.place.TealsettlePlace.{TealsettlePlace}
pub use Rattle.fileresults.specs.declared.reporting.TealsettleReport.{TealsettleReport}
pub use Rattle.fileresults.specs.declared.switch.TealsettleSwitch.{TealsettleSwitch}
