-- The types of the code that this crate's definitions and proofs name, with their cases; each has one name in the whole tree.
pub use Rattle.base.specs.declared.refusal.Reason.TheVariants.{BadChipLength}
pub use Rattle.base.specs.declared.refusal.Refusal.{Refusal}
pub use Rattle.configreader.specs.declared.Outcome.TheVariants.{Loaded}
pub use Rattle.chip.specs.declared.switch.Switch.{Switch}
pub use Rattle.chip.specs.declared.switch.Switch.TheVariants.{On as SwitchOn, Off as SwitchOff}
