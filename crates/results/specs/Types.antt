-- The types of the code that this crate's definitions and proofs name, with their cases; each has one name in the whole tree.
pub use Rattle.base.specs.declared.refusal.Reason.{Reason}
pub use Rattle.base.specs.declared.refusal.Refusal.{Refusal}
pub use Rattle.packets.specs.declared.trace.Write.{Write}
pub use Rattle.bootreader.specs.declared.boot.Boot.{Boot}
pub use Rattle.bootreader.specs.declared.image.Accepted.{Accepted}
pub use Rattle.results.specs.declared.boot.TealsettleBoot.{TealsettleBoot}
pub use Rattle.results.specs.declared.boot.TealsettleImage.{TealsettleImage}
pub use Rattle.results.specs.declared.boot.TealsettleWrite.{TealsettleWrite}
pub use Rattle.results.specs.declared.build.TealsettleBuild.{TealsettleBuild}
pub use Rattle.results.specs.declared.most.TealsettleMost.{TealsettleMost}
pub use Rattle.results.specs.declared.text.TealsettleRead.{TealsettleRead}
