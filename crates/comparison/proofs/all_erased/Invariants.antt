-- `comparison::all_erased` meets its contract. The loop's invariant: while `all` is true, the bytes so far are FF.
use Prim.Native.Nat.{ℕ, ◌<◌}
use mathlib.Core.Path.{◌≡◌}
use mathlib.Core.Bool.{true}
use lib.ListN.{get_or}
use Rattle.comparison.proofs.all_erased.Given as goal

abbrev pub invariant-loop-byte : goal.invariant-loop-byte
invariant-loop-byte l = l.all ≡ true → (k : ℕ) → k < l.byte-index → get_or l.bytes k 0 ≡ 0xFF
