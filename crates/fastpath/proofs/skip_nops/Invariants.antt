-- `skip_nops` meets its contract. The invariant: what was passed since the first, and that it lies within the bytes.
use Prim.Native.Nat.{◌-◌, ◌≤◌}
use lib.ListN.{length}
use Rattle.fastpath.specs.Fastpath.{SkipKeeps}
use Rattle.fastpath.proofs.skip_nops.Given as goal

abbrev pub invariant-loop-w : goal.invariant-loop-w
invariant-loop-w l = SkipKeeps l.s l.initial.w l.w × (l.w.at ≤ length l.s)

abbrev pub decreases-loop-w : goal.decreases-loop-w
decreases-loop-w l = length l.s - l.w.at
