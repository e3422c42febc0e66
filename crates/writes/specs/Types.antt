-- The types of the code that this crate's definitions and proofs name, with their cases; each has one name in the whole tree.
pub use Rattle.base.specs.declared.refusal.Refusal.{Refusal}
pub use Rattle.packets.specs.declared.header.Effect.{Effect}
pub use Rattle.packets.specs.declared.header.Effect.TheVariants.{GoesOn, Desync, Iprog as EffectIprog}
pub use Rattle.packets.specs.declared.header.Header.TheVariants.{Type1}
pub use Rattle.packets.specs.declared.trace.Write.{Write}
pub use Rattle.scanner.specs.declared.scan.Scanner.{Scanner}
pub use Rattle.scanner.specs.declared.scan.Status.TheVariants.{Going, Reached as AtWrite}
pub use Rattle.writes.specs.declared.cursor.Cursor.{Cursor}
pub use Rattle.writes.specs.declared.cursor.Step.{Step}
pub use Rattle.writes.specs.declared.next.DataWord.{DataWord}
