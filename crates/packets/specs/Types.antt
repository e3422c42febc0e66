-- The types of the code that this crate's definitions and proofs name, with their cases; each has one name in the whole tree.
pub use Rattle.base.specs.declared.refusal.Refusal.{Refusal}
pub use Rattle.packets.specs.declared.header.Effect.{Effect}
pub use Rattle.packets.specs.declared.header.Effect.TheVariants.{GoesOn, Desync, Iprog as EffectIprog}
pub use Rattle.packets.specs.declared.header.Header.{Header}
pub use Rattle.packets.specs.declared.header.Header.TheVariants.{Nop, Type1, Type2, Fault as BadHeader}
pub use Rattle.packets.specs.declared.trace.Finish.{Finish}
pub use Rattle.packets.specs.declared.trace.Finish.TheVariants.{Ended as FinishEnded, Iprog as FinishIprog, Fault as FinishFault, Short as FinishShort}
pub use Rattle.packets.specs.declared.trace.Write.{Write}
