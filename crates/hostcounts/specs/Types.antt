-- The types of the code that this crate's definitions and proofs name, with their cases; each has one name in the whole tree.
pub use Rattle.base.specs.declared.refusal.Reason.TheVariants.{BadChipLength, BadState}
pub use Rattle.kind.specs.declared.layout.Layout.{Layout}
pub use Rattle.updater.specs.declared.state.State.{State}
pub use Rattle.runresults.specs.declared.counts.TealsettleProgress.{TealsettleProgress}
pub use Rattle.runresults.specs.declared.counts.TealsettleTotal.{TealsettleTotal}
