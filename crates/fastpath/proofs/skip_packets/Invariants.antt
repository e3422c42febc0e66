-- `skip_packets` meets its contract. The invariant: what was passed so far, and that `word` is the word here, with another after it.
use Prim.Native.Nat.{◌+◌, ◌-◌, ◌≤◌}
use mathlib.Core.Path.{◌≡◌}
use lib.ListN.{length}
use Rattle.framing.specs.Words.{word_at}
use Rattle.fastpath.specs.Fastpath.{SkipKeeps}
use Rattle.fastpath.proofs.skip_packets.Given as goal

abbrev pub invariant-loop-w : goal.invariant-loop-w
invariant-loop-w l = SkipKeeps l.s l.initial.w l.w × (l.w.at + 8 ≤ length l.s) × (l.word ≡ word_at l.s l.w.at)

abbrev pub decreases-loop-w : goal.decreases-loop-w
decreases-loop-w l = length l.s - l.w.at
