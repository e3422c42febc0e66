-- Laws of scanning packets: what one header does, and that k data words are k steps.
use Prim.Native.Nat.{ℕ, zero, suc, ◌+◌, ◌-◌, ◌*◌, ◌<◌, ◌≤◌, min}
use mathlib.Core.Path.{◌≡◌, refl, sym, ap, subst, ◌∙◌}
use mathlib.Core.Bool.{Bool, true, false}
use mathlib.Core.Option.{some, none}
use mathlib.Core.Option as maybe
use Rattle.std.specs.Prelude.{Option, Some, None}
use mathlib.Core.List.{List, [], ◌∷◌}
use native.Mathlib.Nat.{add-zero, sub-zero, sub_self}
use native.Mathlib.Omega.{arith}
use borrow.Author.Rules.{rules}
use Rattle.std.specs.Ordering.{ord_min, nat_cmp}
use borrow.Author.Tests.{ne_eqb}
use lib.Dec.{eqb}
use lib.ListN.{length, get_or, drop, length-drop}
use lib.Seq.{drop-length}
use Rattle.framing.specs.Words.{words, word_at}
use Rattle.base.specs.Question.{ask}
use Rattle.packets.specs.Header.{head_of, effect_of, CMD, WBSTAR}
use Rattle.packets.specs.Trace.{Before, other, Mode, header, payload, mode_of, after_header, Trace, wrote, desync, iprog, faulty, short, trace, last_wbstar, target, finish, list_of, trace_from, finish_from, writes_from, nth_write}
use Rattle.scanner.specs.Scan.{scanned, before_of, scanned_from, scanned_by, scan_of, scanner_from, scanner_after_header, scanner_stopped, scanner_at_write, scanner_after_packet, scanner_at_end, InBoundsBy, bytes_left, StepKeeps, ScanResult, ScanReached, ScanFinished}
use Rattle.scanner.specs.Types.{Effect, GoesOn, Desync, EffectIprog, Finish, FinishEnded, FinishIprog, FinishShort, Write, Scanner, Status, Going, AtWrite, AtEnd, AtIprog, AtFault, AtShort, FinishFault}
use Rattle.packets.proofs.Laws.{trace_header, trace_fault, trace_data, trace_desync, trace_iprog}
use Rattle.base.proofs.Laws.{nil_of_length}
use Rattle.framing.proofs.Laws.{words_cons, words_on, word_after, room}

-- the smaller of two numbers, in the words of the library's `min`
pub least : (a b r : ℕ) → r ≡ ord_min nat_cmp a b → r ≡ min a b
least a b r e = search rules

-- One header.

on_going : (s : List ℕ) (w : Scanner) → w.status ≡ Going → scanned_from s w ≡ scan_of s w
unfolding scanned_by
on_going s w e = rw e refl

module _ (s : List ℕ) (w : Scanner) (status : w.status ≡ Going) (none_left : w.left ≡ 0) (behind : w.writes ≤ w.at) where
  at_header : scanned (trace (words (drop w.at s)) w.at (header (before_of w.opened w.register))) w.skip w.writes w.wbstar ≡ scan_of s w
  unfolding scanned_from mode_of
  at_header = sym (rw none_left refl) ∙ on_going s w status

  pub header_short : length (words (drop w.at s)) ≡ 0 → StepKeeps s w (scanner_stopped w w.at 0 AtShort)
  unfolding scanned trace scanned_by InBoundsBy bytes_left
  header_short h = record { same = rw (nil_of_length (words (drop w.at s)) h) at at_header; held = tt; nearer = omega arith }

  pub header_on : 0 < length (words (drop w.at s)) → (register left : ℕ) (opens : Bool) →
      after_header (head_of (word_at s w.at)) (before_of w.opened w.register) ≡ some (mode_of left register (before_of opens register)) → StepKeeps s w (scanner_after_header w register left opens)
  unfolding scanned_from scanned_by InBoundsBy bytes_left
  header_on h register left opens e = record {
    same = ap (λ (t : Trace). scanned t w.skip w.writes w.wbstar) (sym (trace_header _ _ _ _ _ e)) ∙ (rw (words_cons s w.at h) at at_header);
    held = omega arith;
    nearer = let r = room s w.at in omega arith;
  }

  pub header_fault : 0 < length (words (drop w.at s)) →
      after_header (head_of (word_at s w.at)) (before_of w.opened w.register) ≡ none → StepKeeps s w (scanner_stopped w w.at 0 AtFault)
  unfolding scanned scanned_by InBoundsBy bytes_left
  header_fault h e = record {
    same = ap (λ (t : Trace). scanned t w.skip w.writes w.wbstar) (sym (trace_fault _ _ _ _ e)) ∙ (rw (words_cons s w.at h) at at_header);
    held = tt;
    nearer = omega arith;
  }

-- One data word.

-- The last WBSTAR word after j data words of a packet whose register is WBSTAR, or is not.
unfoldable pub kept : Bool → List ℕ → ℕ → ℕ → ℕ
kept is ws zero wbstar = wbstar
kept true ws (suc j) wbstar = get_or ws j 0
kept false ws (suc j) wbstar = wbstar

kept_more : (is : Bool) (word : ℕ) (ws : List ℕ) (j wbstar : ℕ) → kept is ws j (elim is [ true ↦ word | false ↦ wbstar ]) ≡ kept is (word ∷ ws) (suc j) wbstar
unfolding kept
kept_more true word ws zero wbstar = refl
kept_more true word ws (suc j) wbstar = refl
kept_more false word ws zero wbstar = refl
kept_more false word ws (suc j) wbstar = refl

kept_all : (is : Bool) (ws : List ℕ) (n wbstar : ℕ) → 1 ≤ n → kept is ws n wbstar ≡ elim is [ true ↦ get_or ws (n - 1) 0 | false ↦ wbstar ]
unfolding kept
kept_all is ws zero wbstar h = absurd (omega arith)
kept_all true ws (suc n) wbstar h = let e : n ≡ suc n - 1 = omega arith in ap (λ (k : ℕ). get_or ws k 0) e
kept_all false ws (suc n) wbstar h = refl

kept_none : (is : Bool) (ws : List ℕ) (n wbstar : ℕ) → is ≡ false → kept is ws n wbstar ≡ wbstar
unfolding kept
kept_none is ws zero wbstar e = refl
kept_none true ws (suc n) wbstar e = let z : ◌≡◌ {A = ℕ} 0 1 = cc in absurd (omega arith)
kept_none false ws (suc n) wbstar e = refl

-- a data word passed
one_data : (word : ℕ) (ws : List ℕ) (left register p skip writes wbstar : ℕ) → effect_of register word ≡ GoesOn →
    scanned (trace (word ∷ ws) p (mode_of (suc left) register other)) (suc skip) writes wbstar
    ≡ scanned (trace ws (p + 4) (mode_of left register other)) skip (writes + 1) (last_wbstar (record { register = register; word = word; place = p }) wbstar)
unfolding scanned mode_of
one_data word ws left register p skip writes wbstar e =
    ap (λ (t : Trace). scanned t (suc skip) writes wbstar) (trace_data word ws p register left e)

-- k data words are k steps
advance : (j : ℕ) (ws : List ℕ) (n register p skip writes wbstar : ℕ) → j ≤ n → j ≤ length ws → j ≤ skip →
    ((i : ℕ) → i < j → effect_of register (get_or ws i 0) ≡ GoesOn) →
    scanned (trace ws p (mode_of n register other)) skip writes wbstar
    ≡ scanned (trace (drop j ws) (p + 4 * j) (mode_of (n - j) register other)) (skip - j) (writes + j) (kept (eqb register WBSTAR) ws j wbstar)
unfolding kept
advance zero ws n register p skip writes wbstar a b d q = simp (add-zero, sub-zero)
advance (suc j) [] n register p skip writes wbstar a b d q = absurd (omega arith)
advance (suc j) (x ∷ ws) zero register p skip writes wbstar a b d q = absurd (omega arith)
advance (suc j) (x ∷ ws) (suc n) register p zero writes wbstar a b d q = absurd (omega arith)
advance (suc j) (x ∷ ws) (suc n) register p (suc skip) writes wbstar a b d q =
    let p_on : p + 4 + 4 * j ≡ p + 4 * suc j = omega arith in
    let n_on : n - j ≡ suc n - suc j = omega arith in
    let skip_on : skip - j ≡ suc skip - suc j = omega arith in
    let writes_on : writes + 1 + j ≡ writes + suc j = omega arith in
    one_data x ws n register p skip writes wbstar (q 0 (omega arith))
    ∙ advance j ws n register (p + 4) skip (writes + 1) (last_wbstar (record { register = register; word = x; place = p }) wbstar) (omega arith) (omega arith) (omega arith) (λ i h. q (suc i) (omega arith))
    ∙ rw (kept_more (eqb register WBSTAR) x ws j wbstar, p_on, n_on, skip_on, writes_on) refl

-- only CMD has words that end or jump
pub other_plain : (register word : ℕ) → (register ≡ CMD → ⊥) → effect_of register word ≡ GoesOn
unfolding effect_of ask
other_plain register word h = simp (ne_eqb register CMD h)

not_wbstar : (register word : ℕ) → (effect_of register word ≡ GoesOn → ⊥) → eqb register WBSTAR ≡ false
not_wbstar register word h = ne_eqb register WBSTAR (λ e. h (other_plain register word (λ f. omega arith)))

-- the end that a data word at a place brings
unfoldable brought : ℕ → ℕ → ℕ → Effect → Finish
brought place writes wbstar GoesOn = FinishShort
brought place writes wbstar Desync = FinishEnded (place + 4) (writes + 1)
brought place writes wbstar EffectIprog = FinishIprog place (target wbstar)

-- a data word that ends the reading or jumps
end_data : (word : ℕ) (ws : List ℕ) (p register left skip writes wbstar : ℕ) (e : Effect) → effect_of register word ≡ e → (e ≡ GoesOn → ⊥) → eqb register WBSTAR ≡ false →
    scanned (trace (word ∷ ws) p (payload register left)) (suc skip) writes wbstar ≡ ScanFinished (brought p writes wbstar e)
unfolding scanned brought
end_data word ws p register left skip writes wbstar GoesOn f h lone_register = absurd (h refl)
end_data word ws p register left skip writes wbstar Desync f h lone_register = rw (trace_desync word ws p register left f) refl
end_data word ws p register left skip writes wbstar EffectIprog f h lone_register =
    rw (trace_iprog word ws p register left f) (ap (λ (x : ℕ). ScanFinished (FinishIprog p (target x))) (lone lone_register))
  where
    lone : eqb register WBSTAR ≡ false → last_wbstar (record { register = register; word = word; place = p }) wbstar ≡ wbstar
    lone e = rw (e, last_wbstar)

ending_stepped : (s : List ℕ) (w : Scanner) (run : ℕ) (e : Effect) → ScanFinished (brought (w.at + 4 * run) (w.writes + run) w.wbstar e) ≡ scan_of s w → StepKeeps s w (scanner_at_end w run e)
unfolding brought scanner_at_end scanned_by InBoundsBy bytes_left
ending_stepped s w run GoesOn q = record { same = q; held = tt; nearer = omega arith }
ending_stepped s w run Desync q = record { same = q; held = tt; nearer = omega arith }
ending_stepped s w run EffectIprog q = record { same = q; held = tt; nearer = omega arith }

pub some_mode : (n register : ℕ) (before : Before) → 1 ≤ n → mode_of n register before ≡ mode_of n register other
unfolding mode_of
some_mode zero register before h = absurd (omega arith)
some_mode (suc n) register before h = refl

-- the words from a place, with one there
words_at : (s : List ℕ) (at j : ℕ) → j < length (words (drop at s)) → words (drop (at + 4 * j) s) ≡ get_or (words (drop at s)) j 0 ∷ words (drop (at + 4 * j + 4) s)
words_at s at j h =
    words_cons s (at + 4 * j) (subst (λ (n : ℕ). 0 < n) (sym (ap length (sym (words_on s at j)) ∙ length-drop j (words (drop at s)))) (omega arith))
    ∙ ap (λ (x : ℕ). x ∷ words (drop (at + 4 * j + 4) s)) (sym (word_after s at j))

module _ (s : List ℕ) (w : Scanner) (status : w.status ≡ Going) (some_left : 1 ≤ w.left) (behind : w.writes ≤ w.at) where
  -- inside a packet, after j of its words that let the reading go on
  in_packet : (j : ℕ) → j ≤ w.left → j ≤ length (words (drop w.at s)) → j ≤ w.skip →
      ((i : ℕ) → i < j → effect_of w.register (get_or (words (drop w.at s)) i 0) ≡ GoesOn) →
      scan_of s w ≡ scanned (trace (words (drop (w.at + 4 * j) s)) (w.at + 4 * j) (mode_of (w.left - j) w.register other)) (w.skip - j) (w.writes + j) (kept (eqb w.register WBSTAR) (words (drop w.at s)) j w.wbstar)
  unfolding scanned_from
  in_packet j a b d q =
      sym (on_going s w status)
      ∙ ap (λ (m : Mode). scanned (trace (words (drop w.at s)) w.at m) w.skip w.writes w.wbstar) (some_mode w.left w.register (before_of w.opened w.register) some_left)
      ∙ advance j (words (drop w.at s)) w.left w.register w.at w.skip w.writes w.wbstar a b d q
      ∙ rw (words_on s w.at j) refl

  pub data_short : length (words (drop w.at s)) < w.left → length (words (drop w.at s)) ≤ w.skip →
      ((i : ℕ) → i < length (words (drop w.at s)) → effect_of w.register (get_or (words (drop w.at s)) i 0) ≡ GoesOn) →
      StepKeeps s w (scanner_stopped w w.at 0 AtShort)
  unfolding trace scanned scanned_by InBoundsBy bytes_left
  data_short a b q =
      let e : words (drop (w.at + 4 * length (words (drop w.at s))) s) ≡ [] = sym (words_on s w.at _) ∙ drop-length (words (drop w.at s)) in
      record {
        same = sym (in_packet (length (words (drop w.at s))) (omega arith) (omega arith) b q ∙ rw e refl);
        held = tt;
        nearer = omega arith;
      }

  pub data_past : w.left ≤ length (words (drop w.at s)) → w.left ≤ w.skip →
      ((i : ℕ) → i < w.left → effect_of w.register (get_or (words (drop w.at s)) i 0) ≡ GoesOn) →
      StepKeeps s w (scanner_after_packet s w)
  unfolding scanned_from mode_of before_of scanned_by InBoundsBy bytes_left
  data_past a b q = record {
    same = sym (in_packet w.left (omega arith) a b q ∙ rw (sub_self w.left, kept_all (eqb w.register WBSTAR) (words (drop w.at s)) w.left w.wbstar some_left) refl);
    held = omega arith;
    nearer = let r = room s w.at in omega arith;
  }

  pub data_reached : (run : ℕ) → run ≡ w.skip → run < w.left → run < length (words (drop w.at s)) →
      ((i : ℕ) → i < run → effect_of w.register (get_or (words (drop w.at s)) i 0) ≡ GoesOn) →
      StepKeeps s w (scanner_at_write w run)
  unfolding trace scanned mode_of scanned_by InBoundsBy bytes_left
  data_reached run at a b q =
      let e : w.left - run ≡ suc (w.left - 1 - run) = omega arith in
      let k : w.skip - run ≡ 0 = omega arith in
      record {
        same = sym (in_packet run (omega arith) (omega arith) (omega arith) q ∙ rw (e, k, words_at s w.at run b) (rw (word_after s w.at run) refl));
        held = let r = room s w.at in omega arith;
        nearer = omega arith;
      }

  pub data_end : (run : ℕ) → run < w.left → run < length (words (drop w.at s)) → run < w.skip →
      ((i : ℕ) → i < run → effect_of w.register (get_or (words (drop w.at s)) i 0) ≡ GoesOn) →
      (effect_of w.register (get_or (words (drop w.at s)) run 0) ≡ GoesOn → ⊥) →
      StepKeeps s w (scanner_at_end w run (effect_of w.register (get_or (words (drop w.at s)) run 0)))
  unfolding mode_of
  data_end run a b d q e =
      let l : w.left - run ≡ suc (w.left - run - 1) = omega arith in
      let k : w.skip - run ≡ suc (w.skip - run - 1) = omega arith in
      let lone_register : eqb w.register WBSTAR ≡ false = not_wbstar w.register _ e in
      ending_stepped s w run _
      (sym (in_packet run (omega arith) (omega arith) (omega arith) q
      ∙ rw (l, k, words_at s w.at run b, kept_none _ (words (drop w.at s)) run w.wbstar lone_register)
      (end_data _ _ (w.at + 4 * run) w.register _ _ (w.writes + run) w.wbstar _ refl e lone_register)))

-- A write that is reached lies whole within the bytes.

-- A scanner that has stopped is at the write that it was sent for, or at the end.

pub at_write : (s : List ℕ) (w : Scanner) → w.status ≡ AtWrite → scan_of s w ≡ ScanReached (record { register = w.register; word = word_at s w.at; place = w.at }) w.left
unfolding scanned_by
at_write s w e = rw e refl

pub at_end : (s : List ℕ) (w : Scanner) → (w.status ≡ Going → ⊥) → (w.status ≡ AtWrite → ⊥) → (end : Finish) × (scan_of s w ≡ ScanFinished end)
unfolding scanned_by
at_end s w stopped passed = go w.status refl
  where
    go : (e : Status) → w.status ≡ e → (end : Finish) × (scanned_by e s w ≡ ScanFinished end)
    go Going e = absurd (stopped e)
    go AtWrite e = absurd (passed e)
    go AtEnd e = (FinishEnded w.at w.writes, refl)
    go AtIprog e = (FinishIprog w.at (target w.wbstar), refl)
    go AtFault e = (FinishFault w.at, refl)
    go AtShort e = (FinishShort, refl)

-- A scanner sent past all writes comes to the end, and one sent for write i to that write, or to none.

pub scanned_finish : (t : Trace) (skip writes wbstar : ℕ) → length (list_of t) ≤ skip → scanned t skip writes wbstar ≡ ScanFinished (finish t writes wbstar)
unfolding scanned finish list_of
scanned_finish (wrote w left t) zero writes wbstar h = absurd (omega arith)
scanned_finish (wrote w left t) (suc skip) writes wbstar h = scanned_finish t skip (writes + 1) (last_wbstar w wbstar) (omega arith)
scanned_finish (desync e) skip writes wbstar h = refl
scanned_finish (iprog p) skip writes wbstar h = refl
scanned_finish (faulty p) skip writes wbstar h = refl
scanned_finish short skip writes wbstar h = refl

-- the write that a scanner came to, if any
unfoldable pub scanned_write : ScanResult → Option Write
scanned_write (ScanReached write left) = Some write
scanned_write (ScanFinished end) = None

pub scanned_nth : (t : Trace) (i writes wbstar : ℕ) → scanned_write (scanned t i writes wbstar) ≡ nth_write (list_of t) i
unfolding scanned_write scanned nth_write list_of
scanned_nth (wrote w left t) zero writes wbstar = refl
scanned_nth (wrote w left t) (suc i) writes wbstar = scanned_nth t i (writes + 1) (last_wbstar w wbstar)
scanned_nth (desync e) i writes wbstar = refl
scanned_nth (iprog p) i writes wbstar = refl
scanned_nth (faulty p) i writes wbstar = refl
scanned_nth short i writes wbstar = refl

-- no more writes than words
pub list_short : (ws : List ℕ) (p : ℕ) (m : Mode) → length (list_of (trace ws p m)) ≤ length ws
unfolding trace list_of
list_short [] p m = omega arith
list_short (x ∷ ws) p (header before) = go (after_header (head_of x) before) refl (λ m. list_short ws (p + 4) m)
  where
    go : (o : maybe.Option Mode) → after_header (head_of x) before ≡ o → ((m : Mode) → length (list_of (trace ws (p + 4) m)) ≤ length ws) → length (list_of (trace (x ∷ ws) p (header before))) ≤ suc (length ws)
    go none e ih = rw (e, trace) (omega arith)
    go (some m) e ih = rw (e, trace) (let h : length (list_of (trace ws (p + 4) m)) ≤ length ws = ih m in omega arith)
list_short (x ∷ ws) p (payload register left) = go (effect_of register x) refl (list_short ws (p + 4) (mode_of left register other))
  where
    go : (e : Effect) → effect_of register x ≡ e → length (list_of (trace ws (p + 4) (mode_of left register other))) ≤ length ws → length (list_of (trace (x ∷ ws) p (payload register left))) ≤ suc (length ws)
    go GoesOn f ih = rw (f, trace) (omega arith)
    go Desync f ih = rw (f, trace) (omega arith)
    go EffectIprog f ih = rw (f, trace) (omega arith)

-- The scans that the calls make.

pub finish_scan : (s : List ℕ) (from : ℕ) → scan_of s (scanner_from from (length s)) ≡ ScanFinished (finish_from s from)
unfolding scanned_by scanned_from mode_of before_of
finish_scan s from =
    scanned_finish (trace_from s from) (length s) 0 0
    (let h : length (list_of (trace_from s from)) ≤ length (words (drop from s)) = list_short (words (drop from s)) from (header other) in omega (arith, room s from))

pub nth_scan : (s : List ℕ) (from i : ℕ) → scanned_write (scan_of s (scanner_from from i)) ≡ nth_write (writes_from s from) i
unfolding scanned_by scanned_from mode_of before_of
nth_scan s from i = scanned_nth (trace_from s from) i 0 0
