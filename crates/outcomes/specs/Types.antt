-- The types of the code that this crate's definitions and proofs name; each has one name in the whole tree.
pub use Rattle.outcomes.specs.declared.TealsettleCounts.{TealsettleCounts}
