-- Laws of one packet: its data words one by one, and what a scanner that comes to its first data word tells of it.
use Prim.Native.Nat.{ℕ, zero, suc, ◌+◌, ◌-◌, ◌*◌, ◌<◌, ◌≤◌}
use mathlib.Core.Path.{◌≡◌, refl, sym, ap, ◌∙◌}
use mathlib.Core.Logic.{◌⊎◌, inl, inr}
use mathlib.Core.Option as maybe
use mathlib.Core.Option.{some, none}
use mathlib.Core.List.{List, [], ◌∷◌}
use native.Mathlib.Nat.{add-zero, zero-add, sub-zero}
use native.Mathlib.Omega.{arith}
use lib.ListN.{length, get_or, drop}
use lib.Seq.{drop-cons, drop-length}
use Rattle.std.proofs.Common.{Option, None, Result, Ok}
use Rattle.base.specs.Refusal.{refused}
use Rattle.framing.specs.Words.{words}
use Rattle.packets.specs.Header.{head_of, effect_of}
use Rattle.packets.specs.Trace.{Before, other, Mode, header, payload, mode_of, after_header, Trace, wrote, desync, iprog, faulty, short, trace, trace_from}
use Rattle.scanner.specs.Scan.{scanned, scanned_by, scanned_from, before_of, scan_of, scanner_from, ScanResult, ScanReached, ScanFinished}
use Rattle.scanner.proofs.Laws.{at_write, at_end}
use Rattle.packets.proofs.Laws.{trace_data, trace_desync, trace_iprog, trace_header, trace_fault}
use Rattle.framing.proofs.Laws.{words_cons}
use Rattle.imagereader.specs.Imagereader.{past_end, packet, packet_of, first_packet}
use Rattle.imagereader.specs.Internal.{end_answer, stop_by, stop_answer}
use Rattle.imagereader.specs.Types.{Effect, GoesOn, Desync, EffectIprog, Write, Finish, FinishEnded, FinishIprog, FinishFault, FinishShort, Scanner, Status, Going, AtWrite, AtEnd, AtIprog, AtFault, AtShort, ImageFault, ImageJumps, Refusal, Packet}

-- the words after the first
later : (s : List ℕ) (p x : ℕ) (ws : List ℕ) → x ∷ ws ≡ words (drop p s) → ws ≡ words (drop (p + 4) s)
later s p x ws h =
    let e : x ∷ ws ≡ get_or (words (drop p s)) 0 0 ∷ words (drop (p + 4) s) = h ∙ words_cons s p (rw (sym h) (omega arith)) in cc

-- The data words of a packet.

-- A packet is whole where a header or nothing follows its last data word.
whole_data : (image : List ℕ) (register first count : ℕ) (ws : List ℕ) (p r left : ℕ) → packet_of image register first count 0 (trace ws p (payload r left)) ≡ packet register first count (first + 4 * count)
unfolding packet_of trace
whole_data image register first count [] p r left = refl
whole_data image register first count (x ∷ ws) p r left = refl

whole : (image : List ℕ) (register first count : ℕ) (ws : List ℕ) (p : ℕ) (before : Before) → packet_of image register first count 0 (trace ws p (header before)) ≡ packet register first count (first + 4 * count)
unfolding packet_of trace
whole image register first count [] p before = refl
whole image register first count (x ∷ ws) p before = go (after_header (head_of x) before) refl (λ b. whole image register first count ws (p + 4) b)
  where
    go : (o : maybe.Option Mode) → after_header (head_of x) before ≡ o →
        ((b : Before) → packet_of image register first count 0 (trace ws (p + 4) (header b)) ≡ packet register first count (first + 4 * count)) →
        packet_of image register first count 0 (trace (x ∷ ws) p (header before)) ≡ packet register first count (first + 4 * count)
    go none e ih = rw (e, trace) refl
    go (some (header b)) e ih = rw (e, trace) (ih b)
    go (some (payload r left)) e ih = rw (e, trace) (whole_data image register first count ws (p + 4) r left)

-- j data words that let the reading go on are j written ones.
passes : (j : ℕ) (image ws : List ℕ) (register first count n p : ℕ) → j ≤ n → j ≤ length ws → ((i : ℕ) → i < j → effect_of register (get_or ws i 0) ≡ GoesOn) →
    packet_of image register first count n (trace ws p (mode_of n register other))
    ≡ packet_of image register first (count + j) (n - j) (trace (drop j ws) (p + 4 * j) (mode_of (n - j) register other))
unfolding packet_of trace mode_of
passes zero image ws register first count n p a b q = simp (add-zero, sub-zero)
passes (suc j) image [] register first count n p a b q = absurd (omega arith)
passes (suc j) image (x ∷ ws) register first count zero p a b q = absurd (omega arith)
passes (suc j) image (x ∷ ws) register first count (suc n) p a b q =
    let p_on : p + 4 + 4 * j ≡ p + 4 * suc j = omega arith in
    let n_on : n - j ≡ suc n - suc j = omega arith in
    let count_on : count + 1 + j ≡ count + suc j = omega arith in
    one (q 0 (omega arith))
    ∙ passes j image ws register first (count + 1) n (p + 4) (omega arith) (omega arith) (λ i h. q (suc i) (omega arith))
    ∙ rw (p_on, n_on, count_on) refl
  where
    one : effect_of register x ≡ GoesOn → packet_of image register first count (suc n) (trace (x ∷ ws) p (mode_of (suc n) register other)) ≡ packet_of image register first (count + 1) n (trace ws (p + 4) (mode_of n register other))
    one e = ap (packet_of image register first count (suc n)) (trace_data x ws p register n e)

-- A data word that ends the packet is its last written one.
desync_ends : (image : List ℕ) (register first count left end later : ℕ) (write : Write) → packet_of image register first count (suc left) (wrote write later (desync end)) ≡ packet register first (count + 1) (past_end image)
unfolding packet_of
desync_ends image register first count left end later write = refl

iprog_ends : (image : List ℕ) (register first count left place later : ℕ) (write : Write) → packet_of image register first count (suc left) (wrote write later (iprog place)) ≡ refused ImageJumps place
unfolding packet_of
iprog_ends image register first count left place later write = refl

-- The packet whose first data word is at a place, with `left` more behind it.
module _ (image : List ℕ) (register first left : ℕ) (some_word : 0 < length (words (drop first image))) where
  abbrev ws : List ℕ
  ws = words (drop first image)

  -- The first data word is counted like the others.
  begun : first_packet image (trace ws first (payload register left)) ≡ packet_of image register first 0 (suc left) (trace ws first (mode_of (suc left) register other))
  unfolding first_packet packet_of trace mode_of
  begun = rw (words_cons image first some_word) refl

  -- after `run` of its words that let the reading go on
  after_run : (run : ℕ) → run ≤ suc left → run ≤ length ws → ((i : ℕ) → i < run → effect_of register (get_or ws i 0) ≡ GoesOn) →
      first_packet image (trace ws first (payload register left)) ≡ packet_of image register first run (suc left - run) (trace (drop run ws) (first + 4 * run) (mode_of (suc left - run) register other))
  after_run run a b q =
      begun ∙ passes run image ws register first 0 (suc left) first a b q
      ∙ ap (λ (n : ℕ). packet_of image register first n (suc left - run) (trace (drop run ws) (first + 4 * run) (mode_of (suc left - run) register other))) (zero-add run)

  pub packet_whole : (run : ℕ) → run ≡ suc left → run ≤ length ws → ((i : ℕ) → i < run → effect_of register (get_or ws i 0) ≡ GoesOn) →
      first_packet image (trace ws first (payload register left)) ≡ packet register first run (first + 4 * run)
  unfolding mode_of
  packet_whole run e b q =
      let none_left : suc left - run ≡ 0 = omega arith in
      after_run run (omega arith) b q ∙ rw none_left (whole image register first run (drop run ws) (first + 4 * run) other)

  pub packet_short : (run : ℕ) → run ≡ length ws → run ≤ left → ((i : ℕ) → i < run → effect_of register (get_or ws i 0) ≡ GoesOn) →
      first_packet image (trace ws first (payload register left)) ≡ refused ImageFault (length image)
  unfolding packet_of trace
  packet_short run e a q =
      let more : suc left - run ≡ suc (left - run) = omega arith in
      let out : drop run ws ≡ [] = rw e (drop-length ws) in
      after_run run (omega arith) (omega arith) q ∙ rw (more, out) refl

  pub packet_ended : (run : ℕ) → run ≤ left → run < length ws → ((i : ℕ) → i < run → effect_of register (get_or ws i 0) ≡ GoesOn) → (effect_of register (get_or ws run 0) ≡ GoesOn → ⊥) →
      first_packet image (trace ws first (payload register left)) ≡ end_answer image register first run (effect_of register (get_or ws run 0))
  unfolding mode_of end_answer
  packet_ended run a b q stops =
      let more : suc left - run ≡ suc (left - run) = omega arith in
      after_run run (omega arith) (omega arith) q ∙ rw (more, drop-cons ws run 0 b) (last (get_or ws run 0) (drop (suc run) ws) (left - run) (effect_of register (get_or ws run 0)) refl stops)
    where
      last : (x : ℕ) (more : List ℕ) (n : ℕ) (e : Effect) → effect_of register x ≡ e → (e ≡ GoesOn → ⊥) →
          packet_of image register first run (suc n) (trace (x ∷ more) (first + 4 * run) (payload register n)) ≡ end_answer image register first run e
      last x more n GoesOn f h = absurd (h refl)
      last x more n Desync f h = ap (packet_of image register first run (suc n)) (trace_desync x more (first + 4 * run) register n f) ∙ desync_ends image register first run n _ _ _
      last x more n EffectIprog f h = ap (packet_of image register first run (suc n)) (trace_iprog x more (first + 4 * run) register n f) ∙ iprog_ends image register first run n _ _ _

-- The first data word from a place on.

-- Where a trace writes, it is that of a packet from its first data word on; where it writes nothing, it is faulty or short.
pub record FirstData (image : List ℕ) (p : ℕ) (t : Trace) : Type 0 where
  pub first : ℕ
  pub register : ℕ
  pub left : ℕ
  pub later : p ≤ first
  pub inside : 0 < length (words (drop first image))
  pub same : t ≡ trace (words (drop first image)) first (payload register left)

pub first_data : (image ws : List ℕ) (p : ℕ) (m : Mode) → ws ≡ words (drop p image) → FirstData image p (trace ws p m) ⊎ (((place : ℕ) × (trace ws p m ≡ faulty place)) ⊎ (trace ws p m ≡ short))
unfolding trace
first_data image [] p m h = inr (inr refl)
first_data image (x ∷ ws) p (header before) h = go (after_header (head_of x) before) refl (λ m. first_data image ws (p + 4) m (later image p x ws h))
  where
    go : (o : maybe.Option Mode) → after_header (head_of x) before ≡ o →
        ((m : Mode) → FirstData image (p + 4) (trace ws (p + 4) m) ⊎ (((place : ℕ) × (trace ws (p + 4) m ≡ faulty place)) ⊎ (trace ws (p + 4) m ≡ short))) →
        FirstData image p (trace (x ∷ ws) p (header before)) ⊎ (((place : ℕ) × (trace (x ∷ ws) p (header before) ≡ faulty place)) ⊎ (trace (x ∷ ws) p (header before) ≡ short))
    go none e ih = inr (inl (p, trace_fault x ws p before e))
    go (some m) e ih = on (trace_header x ws p before m e) (ih m)
      where
        on : {t t' : Trace} → t ≡ t' → FirstData image (p + 4) t' ⊎ (((place : ℕ) × (t' ≡ faulty place)) ⊎ (t' ≡ short)) → FirstData image p t ⊎ (((place : ℕ) × (t ≡ faulty place)) ⊎ (t ≡ short))
        on e (inl d) = inl (record { first = d.first; register = d.register; left = d.left; later = let l = d.later in omega arith; inside = d.inside; same = e ∙ d.same })
        on e (inr (inl f)) = inr (inl (f.0, e ∙ f.1))
        on e (inr (inr f)) = inr (inr (e ∙ f))
first_data image (x ∷ ws) p (payload register left) h =
    inl (record { first = p; register = register; left = left; later = omega arith; inside = rw (sym h) (omega arith); same = ap (λ (l : List ℕ). trace l p (payload register left)) h })

-- A scanner sent for the very next write from a place.

from_place : (image : List ℕ) (at : ℕ) → scan_of image (scanner_from at 0) ≡ scanned (trace_from image at) 0 0 0
unfolding scanned_by scanned_from mode_of before_of
from_place image at = refl

-- where it comes to a write, the packets from the place on begin with that write's packet
reached_data : (image : List ℕ) (at : ℕ) (write : Write) (left : ℕ) → scanned (trace_from image at) 0 0 0 ≡ ScanReached write left →
    trace_from image at ≡ trace (words (drop write.place image)) write.place (payload write.register left)
unfolding scanned trace
reached_data image at write left e = go (first_data image (words (drop at image)) at (header other) refl)
  where
    go : FirstData image at (trace_from image at) ⊎ (((place : ℕ) × (trace_from image at ≡ faulty place)) ⊎ (trace_from image at ≡ short)) →
        trace_from image at ≡ trace (words (drop write.place image)) write.place (payload write.register left)
    go (inl d) =
        let reached : ScanReached (record { register = d.register; word = get_or (words (drop d.first image)) 0 0; place = d.first }) d.left ≡ ScanReached write left
        = sym (rw (d.same ∙ ap (λ (ws : List ℕ). trace ws d.first (payload d.register d.left)) (words_cons image d.first d.inside)) refl) ∙ e in
        let same_write : record { register = d.register; word = get_or (words (drop d.first image)) 0 0; place = d.first } ≡ write = cc in
        let same_left : d.left ≡ left = cc in
        rw (sym same_write, sym same_left) d.same
    go (inr (inl f)) = let z = sym e ∙ ap (λ (t : Trace). scanned t 0 0 0) f.1 in cc
    go (inr (inr f)) = let z = sym e ∙ ap (λ (t : Trace). scanned t 0 0 0) f in cc

pub scan_reached : (image : List ℕ) (at : ℕ) (w : Scanner) → w.status ≡ AtWrite → scan_of image w ≡ scan_of image (scanner_from at 0) →
    trace_from image at ≡ trace (words (drop w.at image)) w.at (payload w.register w.left)
scan_reached image at w e came = reached_data image at _ w.left (sym (from_place image at) ∙ sym came ∙ at_write image w e)

-- where it comes to none, what it stops at is the answer
unfoldable pub finish_answer : List ℕ → Finish → Result (Option Packet) Refusal
finish_answer image (FinishEnded end writes) = Ok None
finish_answer image (FinishIprog place to) = refused ImageJumps place
finish_answer image (FinishFault place) = refused ImageFault place
finish_answer image FinishShort = refused ImageFault (length image)

unfoldable scan_answer : List ℕ → ScanResult → Result (Option Packet) Refusal
scan_answer image (ScanReached write left) = Ok None
scan_answer image (ScanFinished end) = finish_answer image end

first_finish : (image : List ℕ) (t : Trace) (end : Finish) → scanned t 0 0 0 ≡ ScanFinished end → first_packet image t ≡ scan_answer image (scanned t 0 0 0)
unfolding first_packet finish_answer scan_answer scanned
first_finish image (wrote write left more) end e = cc
first_finish image (desync at) end e = refl
first_finish image (iprog place) end e = refl
first_finish image (faulty place) end e = refl
first_finish image short end e = refl

stop_finish : (image : List ℕ) (w : Scanner) (status : Status) → (status ≡ Going → ⊥) → scan_answer image (scanned_by status image w) ≡ stop_by status image w
unfolding finish_answer scan_answer scanned_by stop_by
stop_finish image w Going h = absurd (h refl)
stop_finish image w AtWrite h = refl
stop_finish image w AtEnd h = refl
stop_finish image w AtIprog h = refl
stop_finish image w AtFault h = refl
stop_finish image w AtShort h = refl

pub scan_stopped : (image : List ℕ) (at : ℕ) (w : Scanner) → (w.status ≡ Going → ⊥) → (w.status ≡ AtWrite → ⊥) → scan_of image w ≡ scan_of image (scanner_from at 0) →
    first_packet image (trace_from image at) ≡ stop_answer image w
scan_stopped image at w going written came =
    let same : scanned (trace_from image at) 0 0 0 ≡ scan_of image w = sym (from_place image at) ∙ sym came in
    let end = at_end image w going written in
    first_finish image (trace_from image at) end.0 (same ∙ end.1) ∙ ap (scan_answer image) same ∙ stop_finish image w w.status going
