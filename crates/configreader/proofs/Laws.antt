-- What crates above may count on of the reader, beside the contracts: locality and placement, where a fault lies, what a search passes over, the jump through a header. Nothing above needs the reader's definitions opened.
use Prim.Native.Nat.{ℕ, suc, ◌+◌, ◌-◌, ◌%◌, ◌^◌, ◌<◌, ◌≤◌}
use mathlib.Core.Path.{◌≡◌, refl, sym, ap, ap₂, ◌∙◌}
use mathlib.Core.Bool.{Bool, false}
use mathlib.Core.List.{List, [], ◌∷◌, map}
use native.Mathlib.Nat.{zero-add, add_assoc, mod-eq_of_lt}
use native.Mathlib.Omega.{arith}
use lib.ListN.{length, get_or, drop, length-drop}
use lib.Seq.{get_or-drop}
use Rattle.std.proofs.Common.{Option, Some, None}
use Rattle.framing.specs.Search.{begins_with, find}
use Rattle.framing.specs.Words.{words, word_at}
use Rattle.base.specs.Question.{ask}
use Rattle.packets.specs.Header.{register_ok, type1_of, head_of, effect_of}
use Rattle.packets.specs.Trace.{other, header, mode_of, after_header, trace, finish, finish_from, writes_from, contents}
use Rattle.configreader.specs.Configreader.{read_at, search_from, jump, read_from, read_alone, listed}
use Rattle.configreader.specs.Theorems.{Placement, Locality, twelve_bytes, ShortestReading, FaultsWithin, Skipping, Jumping}
use Rattle.configreader.specs.Types.{FinishEnded, FinishIprog, Write, Loaded}
use Rattle.framing.proofs.Laws.{find_here, find_past, find_within, stands_at, words_cons, room}
use Rattle.configreader.proofs.ReadingLaws.{Proper, read_ended, read_jump, search_found, search_none, jump_on, proper, alone_parts}
use Rattle.configreader.proofs.PlacementLaws.{find_moved, looked_to, moved_finish, finish_moved, ended_after}
pub use Rattle.configreader.proofs.PlacementLaws.{moved_write}
pub use Rattle.configreader.proofs.ReadingLaws.{proper, alone_parts}
unfoldable pub use Rattle.configreader.proofs.ReadingLaws.{Proper}

-- A sync word that is found and packets that end are a reading that is Loaded.
pub loads_from : (left : ℕ) (jumped : Bool) (s : List ℕ) (from sync end writes : ℕ) → find (drop from s) from ≡ Some sync → finish_from s (sync + 4) ≡ FinishEnded end writes →
    read_from left jumped s from ≡ Loaded sync end writes jumped
loads_from left jumped s from sync end writes here ended = search_found (jump left s) jumped s from sync here ∙ read_ended (jump left s) jumped s sync end writes ended

-- Places apart, moved writes are the same writes.
moved_contents : (d : ℕ) (writes : List Write) → contents (map (moved_write d) writes) ≡ contents writes
moved_contents d [] = refl
moved_contents d (w ∷ writes) = ap (λ (l : List (ℕ × ℕ)). (w.register, w.word) ∷ l) (moved_contents d writes)

-- An image that reads alone to Loaded stands, as far as its reading went, d further on in t.
module _ (s t : List ℕ) (d from sync end writes : ℕ) (jumped : Bool)
    (alone : read_from 0 jumped s from ≡ Loaded sync end writes jumped)
    (fits : d + end ≤ length t)
    (stands : (i : ℕ) → from ≤ i → i < end → get_or t (d + i) 0 ≡ get_or s i 0) where
  found : find (drop from s) from ≡ Some sync
  found = (alone_parts jumped s from sync end writes jumped alone).0

  ended : finish_from s (sync + 4) ≡ FinishEnded end writes
  ended = (alone_parts jumped s from sync end writes jumped alone).1

  bounds : (from ≤ sync) × (sync + 4 ≤ from + length (drop from s))
  bounds = find_within (drop from s) from sync found

  moved : (finish_from t (d + (sync + 4)) ≡ FinishEnded (d + end) writes) × (writes_from t (d + (sync + 4)) ≡ map (moved_write d) (writes_from s (sync + 4)))
  unfolding looked_to moved_finish
  moved =
      finish_moved s t d (sync + 4) (FinishEnded end writes) ended (λ q. cc) fits
      (λ i a b. stands i (let w = bounds in omega arith) b)

  -- PLACEMENT: whatever else t holds, a search that begins there loads it, d further on.
  pub placed : (left : ℕ) (after : Bool) → read_from left after t (d + from) ≡ Loaded (d + sync) (d + end) writes after
  placed left after =
      let w = bounds in
      let l = ended_after s (sync + 4) end writes ended in
      let here : from + (sync - from) ≡ sync = omega arith in
      let there : d + from + (sync - from) ≡ d + sync = omega arith in
      search_found (jump left t) after t (d + from) (d + sync)
      (find_moved (drop from s) (drop (d + from) t) from (d + from) (sync - from) (found ∙ ap Some (sym here)) (simp length-drop (omega arith)) same ∙ ap Some there)
      ∙ read_ended (jump left t) after t (d + sync) (d + end) writes (rw (add_assoc d sync 4) moved.0)
    where
      same : (j : ℕ) → j < sync - from + 4 → get_or (drop (d + from) t) j 0 ≡ get_or (drop from s) j 0
      same j b =
          let w = bounds in
          let l = ended_after s (sync + 4) end writes ended in
          get_or-drop (d + from) t j 0 ∙ rw (add_assoc d from j) (stands (from + j) (omega arith) (omega arith)) ∙ sym (get_or-drop from s j 0)

  -- with the same writes, d further on
  pub placed_writes : (after : Bool) → listed t (Loaded (d + sync) (d + end) writes after) ≡ map (moved_write d) (listed s (Loaded sync end writes jumped))
  unfolding listed
  placed_writes after = rw (add_assoc d sync 4) moved.1

  -- and so, places apart, the same writes
  pub placed_contents : (after : Bool) → contents (listed t (Loaded (d + sync) (d + end) writes after)) ≡ contents (listed s (Loaded sync end writes jumped))
  placed_contents after = ap contents (placed_writes after) ∙ moved_contents d (listed s (Loaded sync end writes jumped))

-- LOCALITY: a reading that is Loaded without a jump depends only on the bytes from its start to its end.
pub local : (s t : List ℕ) (from sync end writes : ℕ) (jumped : Bool) → read_from 0 jumped s from ≡ Loaded sync end writes jumped → end ≤ length t →
    ((i : ℕ) → from ≤ i → i < end → get_or t i 0 ≡ get_or s i 0) →
    (left : ℕ) (after : Bool) → (read_from left after t from ≡ Loaded sync end writes after) × (listed t (Loaded sync end writes after) ≡ listed s (Loaded sync end writes jumped))
local s t from sync end writes jumped alone fits stands left after =
    let whole : 0 + end ≤ length t = rw (zero-add end) fits in
    let here : (i : ℕ) → from ≤ i → i < end → get_or t (0 + i) 0 ≡ get_or s i 0 = λ i a b. rw (zero-add i) (stands i a b) in (
      simp zero-add at (placed s t 0 from sync end writes jumped alone whole here left after),
      simp zero-add at (placed_writes s t 0 from sync end writes jumped alone whole here after) ∙ unmoved (listed s (Loaded sync end writes jumped)),
    )
  where
    same : (w : Write) → moved_write 0 w ≡ w
    same w = ap (λ (p : ℕ). record { register = w.register; word = w.word; place = p }) (zero-add w.place)

    unmoved : (l : List Write) → map (moved_write 0) l ≡ l
    unmoved [] = refl
    unmoved (w ∷ l) = ap₂ (λ (x : Write) (k : List Write). x ∷ k) (same w) (unmoved l)

-- and ends within them.
pub ends_within : (s : List ℕ) (from sync end writes : ℕ) (jumped : Bool) → read_from 0 jumped s from ≡ Loaded sync end writes jumped → end ≤ length s
ends_within s from sync end writes jumped alone = (ended_after s (sync + 4) end writes (alone_parts jumped s from sync end writes jumped alone).1).1

-- The statements, from these.
pub placement : Placement
placement image bytes d from sync end writes jumped alone holds left after = (
  placed image bytes d from sync end writes jumped alone holds.fits holds.same left after,
  placed_contents image bytes d from sync end writes jumped alone holds.fits holds.same after,
)

pub locality : Locality
locality = record { reads = local; ends = ends_within }

-- From the last sync word to the end there are 12 bytes at least, and there is a reading that has no more.
twelve_least : (left : ℕ) (jumped : Bool) (bytes : List ℕ) (from sync end writes : ℕ) (after : Bool) → from ≤ length bytes → read_from left jumped bytes from ≡ Loaded sync end writes after →
    (sync + 12 ≤ end) × (end ≤ length bytes)
unfolding Proper
twelve_least left jumped bytes from sync end writes after l e =
    let p = rw e at (proper left jumped bytes from l) in
    let w = ended_after bytes (sync + 4) end writes p.1 in
    (omega arith, w.1)

twelve_reads : read_alone twelve_bytes ≡ Loaded 0 12 1 false
unfolding search_from read_at find begins_with words trace finish after_header mode_of head_of type1_of ask register_ok effect_of
twelve_reads = refl

pub shortest_reading : ShortestReading
shortest_reading = record { none_shorter = twelve_least; of_twelve = twelve_reads }

pub faults_within : FaultsWithin
unfolding Proper
faults_within = record {
  stuck = λ left jumped bytes from place l e. rw e at (proper left jumped bytes from l);
  iprog = λ left jumped bytes from place l e. rw e at (proper left jumped bytes from l);
}

-- SKIPPING: a search passes over places where no sync word begins.
pub search_past : Skipping
search_past left jumped t at k l h = go (find (drop (at + k) t) (at + k)) refl
  where
    go : (f : Option ℕ) → find (drop (at + k) t) (at + k) ≡ f → read_from left jumped t at ≡ read_from left jumped t (at + k)
    go (Some sync) e =
        search_found (jump left t) jumped t at sync (find_past t k at l h ∙ e)
        ∙ sym (search_found (jump left t) jumped t (at + k) sync e)
    go None e =
        search_none (jump left t) jumped t at (find_past t k at l h ∙ e)
        ∙ sym (search_none (jump left t) jumped t (at + k) e)

four_words : (t : List ℕ) (p : ℕ) → p + 16 ≤ length t →
    words (drop p t) ≡ word_at t p ∷ word_at t (p + 4) ∷ word_at t (p + 4 + 4) ∷ word_at t (p + 4 + 4 + 4) ∷ words (drop (p + 4 + 4 + 4 + 4) t)
four_words t p l =
    next p (omega arith) ∙ ap (λ (ws : List ℕ). word_at t p ∷ ws)
    (next (p + 4) (omega arith) ∙ ap (λ (ws : List ℕ). word_at t (p + 4) ∷ ws)
    (next (p + 4 + 4) (omega arith) ∙ ap (λ (ws : List ℕ). word_at t (p + 4 + 4) ∷ ws)
    (next (p + 4 + 4 + 4) (omega arith))))
  where
    next : (q : ℕ) → q + 4 ≤ length t → words (drop q t) ≡ word_at t q ∷ words (drop (q + 4) t)
    next q h = words_cons t q (let r = room t q in omega arith)

header_jumps : (to p : ℕ) (rest : List ℕ) → finish (trace (0x30020001 ∷ to ∷ 0x30008001 ∷ 0x0000000F ∷ rest) p (header other)) 0 0 ≡ FinishIprog (p + 4 + 4 + 4) (to % 2 ^ 29)
unfolding trace finish after_header head_of type1_of ask register_ok effect_of mode_of
header_jumps to p rest = refl

-- JUMP: the first sync word, then the words 30020001, a byte's place, 30008001 and 0000000F: the search goes on at that place.
pub jumps_to : Jumping
jumps_to left jumped t from k to none here l a b c d far near =
    let e : find (drop from t) from ≡ Some (from + k) = find_past t k from (omega arith) none ∙ find_here (drop (from + k) t) (from + k) (stands_at t (from + k) (omega arith) here) in
    let p₁ : from + k + 4 + 4 ≡ from + k + 8 = omega arith in
    let p₂ : from + k + 8 + 4 ≡ from + k + 12 = omega arith in
    let p₃ : from + k + 12 + 4 ≡ from + k + 16 = omega arith in
    let fin = rw (p₁, p₂, p₃, a, b, c, d) at (ap (λ (ws : List ℕ). finish (trace ws (from + k + 4) (header other)) 0 0) (four_words t (from + k + 4) (omega arith))) in
    let stays : to % 2 ^ 29 ≡ to = mod-eq_of_lt near in
    search_found (jump (suc left) t) jumped t from (from + k) e
    ∙ read_jump (jump (suc left) t) jumped t (from + k) _ _ (fin ∙ header_jumps to (from + k + 4) _)
    ∙ jump_on (suc left) t _ (to % 2 ^ 29) (λ z. omega arith) (rw stays far)
    ∙ (let q : suc left - 1 ≡ left = omega arith in rw (q, stays) refl)
