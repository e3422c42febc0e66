-- What crates above may count on of the cursor, beside the contracts.
use Rattle.writes.specs.Theorems.{CursorSteps}
pub use Rattle.writes.proofs.CursorLaws.{step_remaining, nth_step_law}
pub use Rattle.writes.proofs.NextLaws.{halves_remaining}

-- The two as one statement.
pub cursor_steps : CursorSteps
cursor_steps = record { first = step_remaining; nth = nth_step_law }
