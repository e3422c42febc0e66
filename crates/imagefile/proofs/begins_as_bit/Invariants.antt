-- `begins_as_bit` meets its contract. The loop's invariant: the first i bytes are those that a BIT file begins with.
use Prim.Native.Nat.{ℕ, ◌<◌}
use mathlib.Core.Path.{◌≡◌}
use lib.ListN.{get_or}
use Rattle.imagefile.specs.Imagefile.{bit_start}
use Rattle.imagefile.proofs.begins_as_bit.Given as goal

abbrev pub invariant-loop-i : goal.invariant-loop-i
invariant-loop-i l = (j : ℕ) → j < l.i → get_or l.file j 0 ≡ get_or bit_start j 0
