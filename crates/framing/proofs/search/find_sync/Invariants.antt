-- `framing::find_sync` meets its contract. The outer loop's invariant: the search from here finds what the search from `from` finds. The inner one's: the bytes compared so far are those of the sync word.
use Prim.Native.Nat.{ℕ, ◌+◌, ◌-◌, ◌≤◌, ◌<◌}
use mathlib.Core.Path.{◌≡◌}
use lib.ListN.{length, get_or, drop}
use Rattle.framing.specs.Search.{sync_bytes, find}
use Rattle.framing.proofs.search.find_sync.Given as goal

abbrev pub invariant-loop-i : goal.invariant-loop-i
invariant-loop-i l =
    (l.at ≡ l.initial.at) × ((k : ℕ) → k < l.i → get_or l.s (l.at + k) 0 ≡ get_or sync_bytes k 0)

abbrev pub invariant-search : goal.invariant-search
invariant-search l = (l.at ≤ length l.s) × (find (drop l.at l.s) l.at ≡ find (drop l.from l.s) l.from)

abbrev pub decreases-search : goal.decreases-search
decreases-search l = length l.s - l.at
