-- A chip kind as a record. Document 01, "The chip": "The chip's fixed numbers belong to the chip kind."
use Rattle.std.specs.Prelude.{ℕ, Bool, List}
use Rattle.kind.specs.Types.{Outcome, Write}

-- What one chip kind has of its own: the ON word as its bytes are on the chip, which switch words are ON, the bytes of the warm-boot words of segment 1 for a U, and how the FPGA reads a chip, an image by itself, and the writes of a reading. Every call is one definition over such a record, so a second kind is a second record. (The numbers in Layout.antt are those of every kind that we know.)
pub record Kind : Type 0 where
  pub on : List ℕ
  pub is_on : List ℕ → Bool
  pub warm_boot : ℕ → List ℕ
  pub reads : List ℕ → Outcome
  pub alone : List ℕ → Outcome
  pub lists : List ℕ → Outcome → List Write
