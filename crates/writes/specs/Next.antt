-- The step to the next data word. Only contracts of functions that are no public calls cite it.
use Rattle.std.specs.Prelude.{ℕ, zero, suc, List, drop, Option, Some, None}
use Rattle.framing.specs.Words.{words}
use Rattle.packets.specs.Trace.{payload, trace}
use Rattle.writes.specs.Cursor.{first_of}
use Rattle.writes.specs.Types.{Step, DataWord}

-- with so many writes to come after it
unfoldable pub step_at : List ℕ → Option DataWord → ℕ → Option Step
step_at s (Some next) remaining = first_of (trace (words (drop next.at s)) next.at (payload next.register next.more)) remaining
step_at s None remaining = None

-- with so many writes to come
unfoldable pub step_with : List ℕ → Option DataWord → ℕ → Option Step
step_with s next remaining = elim remaining [ zero ↦ None | suc more ↦ step_at s next more ]
