-- `update_place::read` meets its contract. The loop's invariant: the first i bytes of the warm-boot words stand in segment 1.
use Prim.Native.Nat.{ℕ, ◌+◌, ◌<◌}
use mathlib.Core.Path.{◌≡◌}
use lib.ListN.{get_or}
use Rattle.kind.specs.Layout.{segment}
use Rattle.kind.specs.Spi.{spi_warm_boot}
use Rattle.chip.specs.UpdatePlace.{named_place}
use Rattle.chip.proofs.update_place.read.Given as goal

abbrev pub invariant-loop-i : goal.invariant-loop-i
invariant-loop-i l = (j : ℕ) → j < l.i → get_or l.chip (segment + j) 0 ≡ get_or (spi_warm_boot (named_place l.chip)) j 0
