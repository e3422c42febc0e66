-- The types of the code that this crate's definitions and proofs name, with their cases; each has one name in the whole tree.
pub use Rattle.base.specs.declared.refusal.Reason.{Reason}
pub use Rattle.base.specs.declared.refusal.Reason.TheVariants.{BadImageLength, ImageFault, ImageJumps, BadState, RunEnded}
pub use Rattle.base.specs.declared.refusal.Refusal.{Refusal}
pub use Rattle.configreader.specs.declared.Outcome.{Outcome}
pub use Rattle.configreader.specs.declared.Outcome.TheVariants.{Loaded, Iprog as OutcomeIprog, Stuck}
pub use Rattle.kind.specs.declared.layout.Layout.{Layout}
pub use Rattle.bootreader.specs.declared.image.Accepted.{Accepted}
pub use Rattle.updater.specs.declared.state.State.{State}
pub use Rattle.starts.specs.declared.RunProgress.{RunProgress}
