-- `framing::find_sync` meets its contract. The outer loop's invariant: the search from here finds what the search from `from` finds. The inner one's: the bytes compared so far are those of the sync word.
use Prim.Native.Nat.{ℕ, zero, suc, ◌+◌, ◌-◌, ◌≤◌, ◌<◌}
use mathlib.Core.Path.{◌≡◌, sym, ◌∙◌}
use native.Mathlib.Nat.{add-zero}
use mathlib.Core.Bool.{false}
use mathlib.Core.List.{List}
use native.Mathlib.Omega.{arith}
use lib.ListN.{length, get_or, drop, length-drop}
use Rattle.framing.specs.Search.{sync_bytes, begins_with, find}
use Rattle.framing.proofs.SearchLaws.{find_here, find_short, find_past, differs_at, stands_at}
use Rattle.framing.proofs.search.find_sync.Goals as goal
use Rattle.framing.proofs.search.find_sync.Goals.{After-past_clear-at}

-- after the blocks that were passed the search finds what it would have found before them
onward : (c : After-past_clear-at) →
    find (drop c.past_clear-at.result c.args.s.now) c.past_clear-at.result ≡ find (drop c.args.from c.args.s.now) c.args.from
onward c = c.past_clear-at.ensures.2 ∙ c.search.invariant.1

-- no sync word begins at the place compared, nor at those passed over
passed : (s : List ℕ) (at j r : ℕ) → j < 4 → (get_or s (at + j) 0 ≡ get_or sync_bytes j 0 → ⊥) → r ≤ 4 →
    ((i : ℕ) → 1 ≤ i → i < r → get_or s (at + 3) 0 ≡ get_or sync_bytes (3 - i) 0 → ⊥) →
    (i : ℕ) → i < r → begins_with sync_bytes (drop (at + i) s) ≡ false
passed s at j r hj d hr h zero hi = differs_at s (at + 0) j hj (rw add-zero d)
passed s at j r hj d hr h (suc i) hi =
    let e : at + suc i + (3 - suc i) ≡ at + 3 = omega arith in
    differs_at s (at + suc i) (3 - suc i) (omega arith) (rw e (h (suc i) (omega arith) hi))

pub search-preserved : goal.search-preserved
search-preserved c =
    let at = c.loop-i.at in
    let s = c.args.s.now in
    let moved : at + c.skip_after-at.result ≤ length s = omega arith in (
      moved,
      sym (find_past s c.skip_after-at.result at moved
          (passed s at c.loop-i.i c.skip_after-at.result (omega arith) c.if-s-at.true c.skip_after-at.ensures.range.1 c.skip_after-at.ensures.passed))
          ∙ rw c.loop-i.invariant.0 (onward (goal.at.search-preserved c).After-past_clear-at),
    )

pub returns-then-s-at-lt4 : goal.returns-then-s-at-lt4
returns-then-s-at-lt4 c =
    sym (find_short _ _ (simp length-drop c.if-s-at-lt4.true)) ∙ onward (goal.at.returns-then-s-at-lt4 c).After-past_clear-at

pub returns-after-loop-i : goal.returns-after-loop-i
returns-after-loop-i c =
    let at = c.loop-i.at in
    let s = c.args.s.now in
    sym (find_here (drop at s) at (stands_at s at (omega arith) (λ j h. c.loop-i.invariant.1 j (omega arith))))
    ∙ rw c.loop-i.invariant.0 (onward (goal.at.returns-after-loop-i c).After-past_clear-at)
