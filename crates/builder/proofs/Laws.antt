-- What crates above may count on of a built chip, beside the contract: that it is well-formed and OFF, and loads its golden image; and how one is refused.
use Rattle.builder.specs.Theorems.{BuiltChip}
pub use Rattle.builder.proofs.BuiltLaws.{BuildQuestions, questions, allowed_refusals, golden_room, built_length, built_well_formed, built_off, built_loads}

pub built_chip_law : BuiltChip
built_chip_law = record {
  long = λ layout golden room built. built_length layout golden (golden_room layout golden room built);
  well_formed = built_well_formed;
  off = built_off;
  loads = built_loads;
}
