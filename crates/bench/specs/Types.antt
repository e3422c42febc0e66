-- The types of the code that this crate's definitions and proofs name, with their cases; each has one name in the whole tree.
pub use Rattle.base.specs.declared.refusal.Reason.{Reason}
pub use Rattle.base.specs.declared.refusal.Reason.TheVariants.{BadChipLength, BadUpdatePlace, BadUpdateLength, BadImageLength, BadDamage}
pub use Rattle.base.specs.declared.refusal.Refusal.{Refusal}
pub use Rattle.configreader.specs.declared.Outcome.{Outcome}
pub use Rattle.configreader.specs.declared.Outcome.TheVariants.{Loaded, Iprog as OutcomeIprog, Stuck}
pub use Rattle.kind.specs.declared.layout.Layout.{Layout}
pub use Rattle.orders.specs.declared.Operation.{Operation}
pub use Rattle.orders.specs.declared.Operation.TheVariants.{Erase, Program, Look}
pub use Rattle.updater.specs.declared.state.State.{State}
