-- Laws of the next data word: past a header, where no word is left, and the step that a data word or a scan for it brings.
use Prim.Native.Nat.{ℕ, zero, suc, ◌+◌, ◌-◌, ◌<◌}
use mathlib.Core.Path.{◌≡◌, refl, sym, ap, ◌∙◌}
use mathlib.Core.Option.{some}
use Rattle.std.specs.Prelude.{Option, Some, None}
use mathlib.Core.List.{List}
use native.Mathlib.Omega.{arith}
use lib.ListN.{length, drop}
use Rattle.framing.specs.Words.{words, word_at}
use Rattle.packets.specs.Header.{head_of}
use Rattle.packets.specs.Trace.{Before, Mode, header, payload, mode_of, after_header, Trace, wrote, desync, iprog, faulty, short, trace, trace_from}
use Rattle.scanner.specs.Scan.{ScanResult, ScanReached, ScanFinished, scanned, scanned_by, scanned_from, scan_of, scanner_from, before_of}
use Rattle.writes.specs.Cursor.{after_write, trace_at, remaining_writes, first_of, step_of, writes_after_step}
use Rattle.writes.specs.Next.{step_at, step_with}
use Rattle.writes.specs.Types.{Cursor, Step, DataWord, Write}
use Rattle.packets.proofs.Laws.{trace_header}
use Rattle.writes.proofs.CursorLaws.{step_remaining}
use Rattle.base.proofs.Laws.{nil_of_length}
use Rattle.framing.proofs.Laws.{words_cons}

pub some_payload : (n register : ℕ) (before : Before) → 0 < n → mode_of n register before ≡ payload register (n - 1)
unfolding mode_of
some_payload zero register before h = absurd (omega arith)
some_payload (suc n) register before h = let e : n ≡ suc n - 1 = omega arith in ap (payload register) e

-- past a header
pub past_header : (s : List ℕ) (at : ℕ) (before : Before) → 0 < length (words (drop at s)) → (m : Mode) → after_header (head_of (word_at s at)) before ≡ some m → trace (words (drop (at + 4) s)) (at + 4) m ≡ trace (words (drop at s)) at (header before)
past_header s at before h m e = sym (ap (λ (ws : List ℕ). trace ws at (header before)) (words_cons s at h) ∙ trace_header _ _ _ _ m e)

-- where no word is left
pub no_word : (s : List ℕ) (at : ℕ) (m : Mode) → length (words (drop at s)) ≡ 0 → (n : ℕ) → None ≡ first_of (trace (words (drop at s)) at m) n
unfolding first_of trace
no_word s at m h n = sym (ap (λ (ws : List ℕ). first_of (trace ws at m) n) (nil_of_length (words (drop at s)) h))

-- at a data word
pub data_word : (s : List ℕ) (at register more : ℕ) → 0 < length (words (drop at s)) → (n : ℕ) →
    (let write : Write = record { register = register; word = word_at s at; place = at } in Some (record { write = write; cursor = after_write write more n })) ≡ first_of (trace (words (drop at s)) at (payload register more)) n
unfolding first_of trace
data_word s at register more h n = sym (ap (λ (ws : List ℕ). first_of (trace ws at (payload register more)) n) (words_cons s at h))

-- the step that a scanner for the very next write comes to
unfoldable pub step_scanned : ScanResult → ℕ → Option Step
step_scanned (ScanReached write left) remaining = Some (record { write = write; cursor = after_write write left remaining })
step_scanned (ScanFinished end) remaining = None

scanned_first : (t : Trace) (remaining : ℕ) → step_scanned (scanned t 0 0 0) remaining ≡ first_of t remaining
unfolding step_scanned scanned first_of
scanned_first (wrote w left t) remaining = refl
scanned_first (desync e) remaining = refl
scanned_first (iprog p) remaining = refl
scanned_first (faulty p) remaining = refl
scanned_first short remaining = refl

pub first_scan : (s : List ℕ) (from remaining : ℕ) → step_scanned (scan_of s (scanner_from from 0)) remaining ≡ first_of (trace_from s from) remaining
unfolding scanned_by scanned_from mode_of before_of
first_scan s from remaining = scanned_first (trace_from s from) remaining

-- The two halves of a step.

pub no_data : (s : List ℕ) (remaining : ℕ) → None ≡ step_with s None remaining
unfolding step_with step_at
no_data s zero = refl
no_data s (suc n) = refl

pub step_more_law : (s : List ℕ) (next : Option DataWord) (remaining n : ℕ) → remaining ≡ suc n → step_at s next n ≡ step_with s next remaining
unfolding step_with
step_more_law s next remaining n e = sym (rw (e, step_with) refl)

pub next_step : (s : List ℕ) (c : Cursor) (next : Option DataWord) → ((n : ℕ) → step_at s next n ≡ first_of (trace_at s c) n) → step_with s next c.remaining ≡ step_of s c
unfolding step_with step_of
next_step s c next h = go c.remaining refl
  where
    go : (n : ℕ) → c.remaining ≡ n → step_with s next c.remaining ≡ step_of s c
    go zero e = rw (e, step_with, step_of) refl
    go (suc n) e = rw (e, step_with, step_of) (h n)

-- Together they tell all that the cursor has to give.
pub halves_remaining : (s : List ℕ) (c : Cursor) (next : Option DataWord) (step : Option Step) → ((n : ℕ) → step_at s next n ≡ first_of (trace_at s c) n) → step ≡ step_with s next c.remaining → writes_after_step s step ≡ remaining_writes s c
halves_remaining s c next step h e = ap (writes_after_step s) (e ∙ next_step s c next h) ∙ step_remaining s c
