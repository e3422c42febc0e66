-- `comparison::first_difference` meets its contract. The loop's invariant: the first i bytes agree, so what differs is among the rest.
use Prim.Native.Nat.{◌+◌}
use mathlib.Core.Path.{◌≡◌}
use lib.ListN.{length, drop}
use Rattle.comparison.specs.Comparison.{padded, differs}
use Rattle.comparison.proofs.first_difference.Given as goal

abbrev pub invariant-loop-i : goal.invariant-loop-i
invariant-loop-i l = differs (l.place + l.i) (drop l.i l.bytes) (drop l.i (padded (length l.bytes) l.expected)) ≡ differs l.place l.bytes (padded (length l.bytes) l.expected)
