-- The types of the code that this crate's definitions and proofs name, with their cases; each has one name in the whole tree.
pub use Rattle.packets.specs.declared.header.Effect.TheVariants.{GoesOn}
pub use Rattle.packets.specs.declared.header.Header.TheVariants.{Type1, Type2}
pub use Rattle.scanner.specs.declared.scan.Scanner.{Scanner}
