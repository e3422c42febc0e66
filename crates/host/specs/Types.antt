-- The types of the code that this crate's definitions and proofs name, with their cases; each has one name in the whole tree.
pub use Rattle.base.specs.declared.refusal.Reason.TheVariants.{BadChipLength, BadState}
pub use Rattle.kind.specs.declared.layout.Layout.{Layout}
pub use Rattle.updater.specs.declared.state.State.{State}
pub use Rattle.results.specs.declared.boot.TealsettleBoot.{TealsettleBoot}
pub use Rattle.results.specs.declared.boot.TealsettleImage.{TealsettleImage}
pub use Rattle.results.specs.declared.boot.TealsettleWrite.{TealsettleWrite}
pub use Rattle.results.specs.declared.build.TealsettleBuild.{TealsettleBuild}
pub use Rattle.runresults.specs.declared.cut.TealsettleBench.{TealsettleBench}
pub use Rattle.runresults.specs.declared.run.TealsettleFinished.{TealsettleFinished}
pub use Rattle.runresults.specs.declared.run.TealsettleOrder.{TealsettleOrder}
pub use Rattle.runresults.specs.declared.run.TealsettleReply.{TealsettleReply}
pub use Rattle.runresults.specs.declared.run.TealsettleStart.{TealsettleStart}
