-- What is proved of a cursor: its steps give the writes that it has to give, one by one.
use Rattle.std.specs.Prelude.{ℕ, ◌≡◌, List, Option, option_map}
use Rattle.packets.specs.Trace.{nth_write}
use Rattle.writes.specs.Cursor.{remaining_writes, step_of, writes_after_step, nth_step}
use Rattle.writes.specs.Types.{Write, Cursor, Step}

-- the write that a step gives, or that there is none
abbrev pub step_write : Option Step → Option Write
step_write step = option_map (λ s. s.write) step

-- A cursor's steps give the writes that remain, in order.
pub record CursorSteps : Type 0 where
  -- A step gives the first of them and hands back a cursor to the others;
  pub first : (bytes : List ℕ) (c : Cursor) → writes_after_step bytes (step_of bytes c) ≡ remaining_writes bytes c
  -- so the k-th step, counted from 0, gives the k-th of them.
  pub nth : (k : ℕ) (bytes : List ℕ) (c : Cursor) → step_write (nth_step bytes k (step_of bytes c)) ≡ nth_write (remaining_writes bytes c) k
