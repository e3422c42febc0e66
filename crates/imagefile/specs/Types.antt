-- The types of the code that this crate's definitions and proofs name, with their cases; each has one name in the whole tree.
pub use Rattle.base.specs.declared.refusal.Reason.TheVariants.{ImageFault}
pub use Rattle.base.specs.declared.refusal.Refusal.{Refusal}
pub use Rattle.imagefile.specs.declared.FileForm.{FileForm}
pub use Rattle.imagefile.specs.declared.FileForm.TheVariants.{Text as FormText, Bit as FormBit, Binary as FormBinary}
