-- Locality and placement: a reading depends only on the bytes that it looked at, wherever they stand.
use Prim.Native.Nat.{ℕ, suc, ◌+◌, ◌-◌, ◌*◌, ◌<◌, ◌≤◌}
use mathlib.Core.Path.{◌≡◌, refl, sym, ap, ◌∙◌}
use mathlib.Core.Bool.{Bool, true, false}
use mathlib.Core.Option.{Option, some, none}
use mathlib.Core.List.{List, [], ◌∷◌, map}
use native.Mathlib.Nat.{add-zero, add_assoc}
use native.Mathlib.Omega.{arith}
use lib.ListN.{length, get_or, drop}
use Rattle.std.proofs.Common.{Some}
use Rattle.framing.specs.Search.{sync_bytes, begins_with, find}
use Rattle.framing.specs.Words.{words}
use Rattle.packets.specs.Header.{head_of, effect_of}
use Rattle.packets.specs.Trace.{Before, other, Mode, header, payload, mode_of, after_header, Trace, trace, last_wbstar, finish, list_of, finish_from, writes_from}
use Rattle.configreader.specs.Types.{Effect, GoesOn, Desync, EffectIprog, Finish, FinishEnded, FinishIprog, FinishFault, FinishShort, Write}
use Rattle.base.proofs.Laws.{false_of}
use Rattle.framing.proofs.Laws.{starts_at, starts_all, find_here, find_next, find_within, word_of_law, word_after, room}
use Rattle.packets.proofs.Laws.{trace_none, trace_header, trace_fault, trace_data, trace_desync, trace_iprog}

-- The search: where the same bytes stand, the sync word is found at the same distance.
pub find_moved : (xs ys : List ℕ) (p q i : ℕ) → find xs p ≡ Some (p + i) → i + 4 ≤ length ys → ((j : ℕ) → j < i + 4 → get_or ys j 0 ≡ get_or xs j 0) → find ys q ≡ Some (q + i)
unfolding find
find_moved [] ys p q i e l h = cc
find_moved (x ∷ xs) [] p q i e l h = absurd (omega arith)
find_moved (x ∷ xs) (y ∷ ys) p q i e l h = go (begins_with sync_bytes (x ∷ xs)) refl (λ i. find_moved xs ys (p + 1) (q + 1) i)
  where
    whole : i + 4 ≤ length (x ∷ xs)
    whole = let w : (p ≤ p + i) × (p + i + 4 ≤ p + length (x ∷ xs)) = find_within (x ∷ xs) p (p + i) e in omega arith

    go : (b : Bool) → begins_with sync_bytes (x ∷ xs) ≡ b →
        ((i : ℕ) → find xs (p + 1) ≡ Some (p + 1 + i) → i + 4 ≤ length ys → ((j : ℕ) → j < i + 4 → get_or ys j 0 ≡ get_or xs j 0) → find ys (q + 1) ≡ Some (q + 1 + i)) →
        find (y ∷ ys) q ≡ Some (q + i)
    go true t ih =
        let r : Some p ≡ Some (p + i) = sym (find_here (x ∷ xs) p t) ∙ e in
        let k : p ≡ p + i = cc in
        let n : q ≡ q + i = omega arith in
        find_here (y ∷ ys) q (starts_all sync_bytes (y ∷ ys) (omega arith) (λ j b. h j (omega arith) ∙ starts_at sync_bytes (x ∷ xs) t j b)) ∙ ap Some n
    go false f ih =
        let r : find xs (p + 1) ≡ Some (p + i) = sym (find_next xs p x f) ∙ e in
        let w : (p + 1 ≤ p + i) × (p + i + 4 ≤ p + 1 + length xs) = find_within xs (p + 1) (p + i) r in
        let a : p + i ≡ p + 1 + (i - 1) = omega arith in
        let b : q + 1 + (i - 1) ≡ q + i = omega arith in
        let other : begins_with sync_bytes (y ∷ ys) ≡ false =
        false_of (begins_with sync_bytes (y ∷ ys)) (λ t. let z : ◌≡◌ {A = ℕ} 0 1 = no_both t f in omega arith) in
        find_next ys q y other
        ∙ ih (i - 1) (r ∙ ap Some a) (omega arith) (λ j k. h (suc j) (omega arith))
        ∙ ap Some b
      where
        no_both : begins_with sync_bytes (y ∷ ys) ≡ true → begins_with sync_bytes (x ∷ xs) ≡ false → ◌≡◌ {A = ℕ} 0 1
        no_both t f =
            let u : begins_with sync_bytes (x ∷ xs) ≡ true = starts_all sync_bytes (x ∷ xs) (omega (arith, whole)) (λ j b. sym (h j (omega arith)) ∙ starts_at sync_bytes (y ∷ ys) t j b) in cc

-- The place after the last word that a reading of packets looked at.
unfoldable pub looked_to : Finish → ℕ
looked_to (FinishEnded end writes) = end
looked_to (FinishIprog place to) = place + 4
looked_to (FinishFault place) = place + 4
looked_to FinishShort = 0

-- The same end and the same writes, d further on.
unfoldable pub moved_finish : ℕ → Finish → Finish
moved_finish d (FinishEnded end writes) = FinishEnded (d + end) writes
moved_finish d (FinishIprog place to) = FinishIprog (d + place) to
moved_finish d (FinishFault place) = FinishFault (d + place)
moved_finish d FinishShort = FinishShort

abbrev pub moved_write : ℕ → Write → Write
moved_write d w = record { register = w.register; word = w.word; place = d + w.place }

-- A reading that does not run out of words looks at one at least, and only at those there are.
looked : (ws : List ℕ) (p : ℕ) (m : Mode) (n wbstar : ℕ) (f : Finish) → finish (trace ws p m) n wbstar ≡ f → (f ≡ FinishShort → ⊥) →
    (p + 4 ≤ looked_to f) × (looked_to f ≤ p + 4 * length ws)
unfolding trace finish looked_to
looked [] p m n wbstar f e h = absurd (h (sym e))
looked (x ∷ ws) p (header before) n wbstar f e h = go (after_header (head_of x) before) refl (λ m q. looked ws (p + 4) m n wbstar f q h)
  where
    go : (o : Option Mode) → after_header (head_of x) before ≡ o →
        ((m : Mode) → finish (trace ws (p + 4) m) n wbstar ≡ f → (p + 4 + 4 ≤ looked_to f) × (looked_to f ≤ p + 4 + 4 * length ws)) →
        (p + 4 ≤ looked_to f) × (looked_to f ≤ p + 4 * suc (length ws))
    go none a ih = let k : p + 4 ≡ looked_to f = ap looked_to (rw (trace_fault x ws p before a) at e) in omega arith
    go (some m) a ih = let w = ih m (rw (trace_header x ws p before m a) at e) in omega arith
looked (x ∷ ws) p (payload register left) n wbstar f e h =
    go (effect_of register x) refl (λ q. looked ws (p + 4) (mode_of left register other) (n + 1) (last_wbstar (record { register = register; word = x; place = p }) wbstar) f q h)
  where
    go : (o : Effect) → effect_of register x ≡ o →
        (finish (trace ws (p + 4) (mode_of left register other)) (n + 1) (last_wbstar (record { register = register; word = x; place = p }) wbstar) ≡ f → (p + 4 + 4 ≤ looked_to f) × (looked_to f ≤ p + 4 + 4 * length ws)) →
        (p + 4 ≤ looked_to f) × (looked_to f ≤ p + 4 * suc (length ws))
    go GoesOn a ih = let w = ih (rw (trace_data x ws p register left a) at e) in omega arith
    go Desync a ih = let k : p + 4 ≡ looked_to f = ap looked_to (rw (trace_desync x ws p register left a) at e) in omega arith
    go EffectIprog a ih = let k : p + 4 ≡ looked_to f = ap looked_to (rw (trace_iprog x ws p register left a) at e) in omega arith

-- The packets: where the same words stand, the reading ends the same and has the same writes, d further on.
trace_moved : (ws vs : List ℕ) (d p : ℕ) (m : Mode) (n wbstar : ℕ) (f : Finish) → finish (trace ws p m) n wbstar ≡ f → (f ≡ FinishShort → ⊥) →
    ((i : ℕ) → p + 4 * i + 4 ≤ looked_to f → (i < length vs) × (get_or vs i 0 ≡ get_or ws i 0)) →
    (finish (trace vs (d + p) m) n wbstar ≡ moved_finish d f) × (list_of (trace vs (d + p) m) ≡ map (moved_write d) (list_of (trace ws p m)))
unfolding finish list_of moved_finish
trace_moved [] vs d p m n wbstar f e h same = absurd (h (sym (rw (trace_none p m) at e)))
trace_moved (x ∷ ws) [] d p m n wbstar f e h same =
    let l = looked (x ∷ ws) p m n wbstar f e h in
    let w : (0 < 0) × (0 ≡ x) = same 0 (omega arith) in absurd (omega arith)
trace_moved (x ∷ ws) (y ∷ vs) d p (header before) n wbstar f e h same =
    rw (first) (go (after_header (head_of x) before) refl (λ m. trace_moved ws vs d (p + 4) m n wbstar f))
  where
    first : y ≡ x
    first = let l = looked (x ∷ ws) p (header before) n wbstar f e h in (same 0 (omega arith)).1

    Goal : Trace → Trace → Type 0
    Goal moved here = (finish moved n wbstar ≡ moved_finish d f) × (list_of moved ≡ map (moved_write d) (list_of here))

    go : (o : Option Mode) → after_header (head_of x) before ≡ o →
        ((m : Mode) → finish (trace ws (p + 4) m) n wbstar ≡ f → (f ≡ FinishShort → ⊥) →
        ((i : ℕ) → p + 4 + 4 * i + 4 ≤ looked_to f → (i < length vs) × (get_or vs i 0 ≡ get_or ws i 0)) →
        Goal (trace vs (d + (p + 4)) m) (trace ws (p + 4) m)) →
        Goal (trace (x ∷ vs) (d + p) (header before)) (trace (x ∷ ws) p (header before))
    go none a ih =
        rw (trace_fault x vs (d + p) before a, trace_fault x ws p before a)
        (ap (moved_finish d) (rw (trace_fault x ws p before a) at e), refl)
    go (some m) a ih =
        rw (trace_header x vs (d + p) before m a, trace_header x ws p before m a, add_assoc d p 4)
        (ih m (rw (trace_header x ws p before m a) at e) h (λ i l. let w = same (suc i) (omega arith) in (omega arith, w.1)))
trace_moved (x ∷ ws) (y ∷ vs) d p (payload register left) n wbstar f e h same =
    rw (first) (go (effect_of register x) refl (trace_moved ws vs d (p + 4) (mode_of left register other) (n + 1) (last_wbstar (record { register = register; word = x; place = p }) wbstar) f))
  where
    first : y ≡ x
    first = let l = looked (x ∷ ws) p (payload register left) n wbstar f e h in (same 0 (omega arith)).1

    Goal : Trace → Trace → ℕ → ℕ → Type 0
    Goal moved here n wbstar = (finish moved n wbstar ≡ moved_finish d f) × (list_of moved ≡ map (moved_write d) (list_of here))

    go : (o : Effect) → effect_of register x ≡ o →
        (finish (trace ws (p + 4) (mode_of left register other)) (n + 1) (last_wbstar (record { register = register; word = x; place = p }) wbstar) ≡ f → (f ≡ FinishShort → ⊥) →
        ((i : ℕ) → p + 4 + 4 * i + 4 ≤ looked_to f → (i < length vs) × (get_or vs i 0 ≡ get_or ws i 0)) →
        Goal (trace vs (d + (p + 4)) (mode_of left register other)) (trace ws (p + 4) (mode_of left register other)) (n + 1) (last_wbstar (record { register = register; word = x; place = p }) wbstar)) →
        Goal (trace (x ∷ vs) (d + p) (payload register left)) (trace (x ∷ ws) p (payload register left)) n wbstar
    go GoesOn a ih =
        let r = ih (rw (trace_data x ws p register left a) at e) h (λ i l. let w = same (suc i) (omega arith) in (omega arith, w.1)) in
        rw (trace_data x vs (d + p) register left a, trace_data x ws p register left a, add_assoc d p 4)
        (r.0, ap (λ (l : List Write). moved_write d (record { register = register; word = x; place = p }) ∷ l) r.1)
    go Desync a ih =
        rw (trace_desync x vs (d + p) register left a, trace_desync x ws p register left a, add_assoc d p 4)
        (ap (moved_finish d) (rw (trace_desync x ws p register left a) at e), refl)
    go EffectIprog a ih =
        rw (trace_iprog x vs (d + p) register left a, trace_iprog x ws p register left a)
        (ap (moved_finish d) (rw (trace_iprog x ws p register left a) at e), refl)

-- The same of bytes: t has, d further on, the bytes of s that a reading of packets looked at.
pub finish_moved : (s t : List ℕ) (d from : ℕ) (f : Finish) → finish_from s from ≡ f → (f ≡ FinishShort → ⊥) → d + looked_to f ≤ length t →
    ((i : ℕ) → from ≤ i → i < looked_to f → get_or t (d + i) 0 ≡ get_or s i 0) →
    (finish_from t (d + from) ≡ moved_finish d f) × (writes_from t (d + from) ≡ map (moved_write d) (writes_from s from))
finish_moved s t d from f e h l same = trace_moved (words (drop from s)) (words (drop (d + from) t)) d from (header other) 0 0 f e h words_same
  where
    within : (from + 4 ≤ looked_to f) × (looked_to f ≤ from + 4 * length (words (drop from s)))
    within = looked (words (drop from s)) from (header other) 0 0 f e h

    byte : (i k : ℕ) → from + 4 * i + 4 ≤ looked_to f → k < 4 → get_or t (d + from + 4 * i + k) 0 ≡ get_or s (from + 4 * i + k) 0
    byte i k b c = let q : d + from + 4 * i + k ≡ d + (from + 4 * i + k) = omega arith in rw q (same (from + 4 * i + k) (omega arith) (omega arith))

    words_same : (i : ℕ) → from + 4 * i + 4 ≤ looked_to f → (i < length (words (drop (d + from) t))) × (get_or (words (drop (d + from) t)) i 0 ≡ get_or (words (drop from s)) i 0)
    words_same i b = (
      let r = room t (d + from) in omega arith,
      word_after t (d + from) i
          ∙ word_of_law t (d + from + 4 * i) (omega arith)
          ∙ rw (sym (ap (λ (n : ℕ). get_or t n 0) (add-zero (d + from + 4 * i))) ∙ byte i 0 b (omega arith) ∙ ap (λ (n : ℕ). get_or s n 0) (add-zero (from + 4 * i)), byte i 1 b (omega arith), byte i 2 b (omega arith), byte i 3 b (omega arith))
          (sym (word_after s from i ∙ word_of_law s (from + 4 * i) (let r = room s from in omega (arith, within)))),
    )

-- A reading that ends from a header has read a data word after it.
ended_words : (ws : List ℕ) (p : ℕ) (before : Before) (n wbstar end writes : ℕ) → finish (trace ws p (header before)) n wbstar ≡ FinishEnded end writes →
    (p + 8 ≤ end) × (end ≤ p + 4 * length ws)
unfolding finish looked_to
ended_words [] p before n wbstar end writes e = let q = rw (trace_none p (header before)) at e in cc
ended_words (x ∷ ws) p before n wbstar end writes e = go (after_header (head_of x) before) refl
  where
    go : (o : Option Mode) → after_header (head_of x) before ≡ o → (p + 8 ≤ end) × (end ≤ p + 4 * length (x ∷ ws))
    go none a = let q = rw (trace_fault x ws p before a) at e in cc
    go (some m) a =
        let w : (p + 4 + 4 ≤ end) × (end ≤ p + 4 + 4 * length ws) =
        looked ws (p + 4) m n wbstar (FinishEnded end writes) (rw (trace_header x ws p before m a) at e) (λ q. cc) in
        (omega arith, omega arith)

-- Packets that end take two words at least, and only what there is.
pub ended_after : (s : List ℕ) (from end writes : ℕ) → finish_from s from ≡ FinishEnded end writes → (from + 8 ≤ end) × (end ≤ length s)
ended_after s from end writes e =
    let l = ended_words (words (drop from s)) from other 0 0 end writes e in
    let r = room s from in
    (omega arith, omega arith)

-- Packets are not read past the bytes.
pub looked_within : (s : List ℕ) (from : ℕ) (f : Finish) → from ≤ length s → finish_from s from ≡ f → (f ≡ FinishShort → ⊥) → looked_to f ≤ length s
looked_within s from f l e h =
    let w = looked (words (drop from s)) from (header other) 0 0 f e h in
    let r = room s from in
    omega arith
