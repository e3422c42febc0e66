-- The types of the code that this crate's definitions and proofs name, with their cases; each has one name in the whole tree.
pub use Rattle.base.specs.declared.refusal.Refusal.{Refusal}
pub use Rattle.updater.specs.declared.run.OrderAnswer.{OrderAnswer}
pub use Rattle.updater.specs.declared.run.RefusedReply.{RefusedReply}
pub use Rattle.updater.specs.declared.run.Reply.{Reply}
pub use Rattle.updater.specs.declared.state.State.{State}
pub use Rattle.starts.specs.declared.RunProgress.{RunProgress}
pub use Rattle.runresults.specs.declared.counts.TealsettleProgress.{TealsettleProgress}
pub use Rattle.runresults.specs.declared.counts.TealsettleTotal.{TealsettleTotal}
pub use Rattle.runresults.specs.declared.cut.TealsettleBench.{TealsettleBench}
pub use Rattle.runresults.specs.declared.run.TealsettleFinished.{TealsettleFinished}
pub use Rattle.runresults.specs.declared.run.TealsettleOrder.{TealsettleOrder}
pub use Rattle.runresults.specs.declared.run.TealsettleReply.{TealsettleReply}
pub use Rattle.runresults.specs.declared.run.TealsettleStart.{TealsettleStart}
pub use Rattle.runresults.specs.declared.run.TealsettleState.{TealsettleState}
