-- Laws of the cursor: its steps give the writes that it has to give, one by one.
use Prim.Native.Nat.{ℕ, zero, suc, ◌+◌}
use mathlib.Core.Path.{◌≡◌, refl, sym, ap, ◌∙◌}
use mathlib.Core.Option as maybe
use mathlib.Core.Option.{some, none}
use Rattle.std.specs.Prelude.{Option, Some, None}
use mathlib.Core.List.{List, [], ◌∷◌}
use native.Mathlib.Omega.{arith}
use lib.ListN.{get_or, drop, take}
use lib.Seq.{take-nil}
use Rattle.framing.specs.Words.{words}
use Rattle.packets.specs.Header.{head_of, effect_of}
use Rattle.packets.specs.Trace.{other, Mode, header, payload, mode_of, after_header, trace, list_of, nth_write}
use Rattle.writes.specs.Cursor.{remaining_writes, after_write, first_of, step_of, writes_after_step, nth_step}
use Rattle.writes.specs.Theorems.{step_write}
use Rattle.writes.specs.Types.{Effect, GoesOn, Desync, EffectIprog, Write, Cursor, Step}
use Rattle.framing.proofs.Laws.{words_cons}

-- the words after the first
later : (s : List ℕ) (p x : ℕ) (ws : List ℕ) → (x ∷ ws) ≡ words (drop p s) → ws ≡ words (drop (p + 4) s)
later s p x ws h =
    let e : x ∷ ws ≡ get_or (words (drop p s)) 0 0 ∷ words (drop (p + 4) s) = h ∙ words_cons s p (rw (sym h) (omega arith)) in cc

first_after_step : (s ws : List ℕ) (p : ℕ) (m : Mode) (remaining : ℕ) → ws ≡ words (drop p s) → writes_after_step s (first_of (trace ws p m) remaining) ≡ take (suc remaining) (list_of (trace ws p m))
unfolding writes_after_step first_of trace list_of after_write
first_after_step s [] p m remaining h = refl
first_after_step s (x ∷ ws) p (header before) remaining h = go (after_header (head_of x) before) refl (λ m. first_after_step s ws (p + 4) m remaining (later s p x ws h))
  where
    go : (o : maybe.Option Mode) → after_header (head_of x) before ≡ o →
        ((m : Mode) → writes_after_step s (first_of (trace ws (p + 4) m) remaining) ≡ take (suc remaining) (list_of (trace ws (p + 4) m))) →
        writes_after_step s (first_of (trace (x ∷ ws) p (header before)) remaining) ≡ take (suc remaining) (list_of (trace (x ∷ ws) p (header before)))
    go none e ih = rw (e, trace) refl
    go (some m) e ih = rw (e, trace) (ih m)
first_after_step s (x ∷ ws) p (payload register left) remaining h = go (effect_of register x) refl
  where
    go : (e : Effect) → effect_of register x ≡ e →
        writes_after_step s (first_of (trace (x ∷ ws) p (payload register left)) remaining) ≡ take (suc remaining) (list_of (trace (x ∷ ws) p (payload register left)))
    go GoesOn f = rw (f, trace, after_write) (rw (later s p x ws h) refl)
    go Desync f = rw (f, trace, after_write) (rw (take-nil {A = Write} remaining) refl)
    go EffectIprog f = rw (f, trace, after_write) (rw (take-nil {A = Write} remaining) refl)

-- A step tells all that the cursor has to give.
pub step_remaining : (s : List ℕ) (c : Cursor) → writes_after_step s (step_of s c) ≡ remaining_writes s c
unfolding writes_after_step step_of
step_remaining s c = go c.remaining refl
  where
    go : (n : ℕ) → c.remaining ≡ n → writes_after_step s (step_of s c) ≡ remaining_writes s c
    go zero e = rw (e, step_of) refl
    go (suc n) e = rw (e, step_of) (first_after_step s (words (drop c.at s)) c.at (mode_of c.left c.register other) n refl)

nth_after_step : (k : ℕ) (s : List ℕ) (step : Option Step) → step_write (nth_step s k step) ≡ nth_write (writes_after_step s step) k
unfolding nth_step nth_write writes_after_step
nth_after_step zero s (Some step) = refl
nth_after_step zero s None = refl
nth_after_step (suc k) s (Some step) = nth_after_step k s (step_of s step.cursor) ∙ ap (λ (l : List Write). nth_write l k) (step_remaining s step.cursor)
nth_after_step (suc k) s None = refl

-- The k-th step gives the k-th write.
pub nth_step_law : (k : ℕ) (s : List ℕ) (c : Cursor) → step_write (nth_step s k (step_of s c)) ≡ nth_write (remaining_writes s c) k
nth_step_law k s c = nth_after_step k s (step_of s c) ∙ ap (λ (l : List Write). nth_write l k) (step_remaining s c)
