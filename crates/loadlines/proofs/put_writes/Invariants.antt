-- `loadlines::put_writes` meets its contract. The loop's invariant: the lines that are left give the same as all of them gave at the start.
use Rattle.std.proofs.Common.{length}
use Rattle.writes.specs.Cursor.{remaining_writes}
use Rattle.loadlines.proofs.ListLaws.{Going}
use Rattle.loadlines.proofs.put_writes.Given as goal

abbrev pub invariant-loop-step : goal.invariant-loop-step
invariant-loop-step l = Going l.initial.page (remaining_writes l.chip l.initial.here) l.page (remaining_writes l.chip l.here)

abbrev pub decreases-loop-step : goal.decreases-loop-step
decreases-loop-step l = length (remaining_writes l.chip l.here)
