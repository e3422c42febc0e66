-- The types of the code that this crate's definitions and proofs name, with their cases; each has one name in the whole tree.
pub use Rattle.base.specs.declared.refusal.Reason.{Reason}
pub use Rattle.base.specs.declared.refusal.Reason.TheVariants.{BadImageLength, ImageFault, ImageJumps}
pub use Rattle.base.specs.declared.refusal.Refusal.{Refusal}
pub use Rattle.packets.specs.declared.header.Effect.{Effect}
pub use Rattle.packets.specs.declared.header.Effect.TheVariants.{GoesOn, Desync, Iprog as EffectIprog}
pub use Rattle.packets.specs.declared.trace.Write.{Write}
pub use Rattle.packets.specs.declared.trace.Finish.{Finish}
pub use Rattle.packets.specs.declared.trace.Finish.TheVariants.{Ended as FinishEnded, Iprog as FinishIprog, Fault as FinishFault, Short as FinishShort}
pub use Rattle.scanner.specs.declared.scan.Scanner.{Scanner}
pub use Rattle.scanner.specs.declared.scan.Status.{Status}
pub use Rattle.scanner.specs.declared.scan.Status.TheVariants.{Going, Reached as AtWrite, Ended as AtEnd, Iprog as AtIprog, Fault as AtFault, Short as AtShort}
pub use Rattle.imagereader.specs.declared.Packet.{Packet}
pub use Rattle.imagereader.specs.declared.Reader.{Reader}
