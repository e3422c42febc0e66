-- A buffer with the place in it where the next text goes.
use Rattle.std.specs.Prelude.{ℕ, ◌≡◌, ◌≤◌, ◌+◌, List, length}
use Rattle.std.proofs.Math.Seq.{paste}
use Rattle.fields.specs.declared.Page.{Page}

-- A text was put at that place of the same buffer, where there was room for it, and the next place is after it.
pub record Wrote (before after : Page) (text : List ℕ) : Type 0 where
  pub same : after.out.ghost_name ≡ before.out.ghost_name
  pub room : before.at + length text ≤ length before.out.now
  pub place : after.at ≡ before.at + length text
  pub long : length after.out.now ≡ length before.out.now
  pub is : after.out.now ≡ paste before.out.now before.at text (length text)
