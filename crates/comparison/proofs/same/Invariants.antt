-- `comparison::same` meets its contract. The loop's invariant: while `all` is true, the pairs so far are of the same bytes.
use Prim.Native.Nat.{ℕ, ◌<◌}
use mathlib.Core.Path.{◌≡◌}
use mathlib.Core.Bool.{true}
use lib.ListN.{length, get_or}
use Rattle.comparison.proofs.same.Given as goal

abbrev pub invariant-loop-byte : goal.invariant-loop-byte
invariant-loop-byte l = l.all ≡ true → (k : ℕ) → k < length l.yielded → get_or l.bytes k 0 ≡ get_or l.others k 0
