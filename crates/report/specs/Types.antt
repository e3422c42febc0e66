-- The types of the code that this crate's definitions and proofs name, with their cases; each has one name in the whole tree.
pub use Rattle.base.specs.declared.refusal.Reason.TheVariants.{BadChipLength, NoRoom}
pub use Rattle.base.specs.declared.refusal.Refusal.{Refusal}
pub use Rattle.packets.specs.declared.trace.Write.{Write}
pub use Rattle.writes.specs.declared.cursor.Cursor.{Cursor}
pub use Rattle.configreader.specs.declared.Outcome.{Outcome}
pub use Rattle.configreader.specs.declared.Outcome.TheVariants.{Loaded, Iprog as OutcomeIprog, Stuck}
pub use Rattle.bootreader.specs.declared.boot.Boot.{Boot}
pub use Rattle.bootreader.specs.declared.boot.Boot.TheVariants.{Loaded as BootLoaded, Stuck as BootStuck}
