-- Laws of text put into a buffer, one piece after the other.
use Prim.Native.Nat.{ℕ, suc, ◌+◌, ◌-◌, ◌<◌, ◌≤◌}
use mathlib.Core.Path.{◌≡◌, refl, sym, ap, ap₂, ◌∙◌, subst}
use mathlib.Core.List.{List, [], ◌∷◌, ◌++◌, append_assoc, append-nil}
use native.Mathlib.Nat.{add_assoc, zero-add}
use native.Mathlib.Numerals.{add-one}
use native.Mathlib.Omega.{arith}
use lib.ListN.{length, take, drop, set, length-append, length-drop, drop_of_length-le}
use lib.Seq.{paste, take_all, drop-cons, drop-drop, append_snoc, set_split, lt-length-set, get_or-set_same, take-set-le, drop-set-lt, length-paste, take-paste, drop-paste}
use Rattle.base.specs.Output.{front_filled}
use Rattle.base.proofs.Laws.{front_fits}

-- A text put right after another is the two of them put in one.
pub paste_paste : (d : List ℕ) (at : ℕ) (s : List ℕ) (m : ℕ) (t : List ℕ) (n : ℕ) → length s ≡ m → length t ≡ n → at + m ≤ length d →
    paste (paste d at s m) (at + m) t n ≡ paste d at (s ++ t) (m + n)
paste_paste d at s m t n long more room =
    let head : take (at + m) (paste d at s m) ≡ take at d ++ s =
    take-paste d at s m (omega arith) (omega arith) ∙ ap (λ (l : List ℕ). take at d ++ l) (take_all m s (omega arith)) in
    let tail : drop (at + m + n) (paste d at s m) ≡ drop (at + m + n) d =
    sym (drop-drop n (at + m) (paste d at s m)) ∙ ap (λ (l : List ℕ). drop n l) (drop-paste d at s m (omega arith) (omega arith)) ∙ drop-drop n (at + m) d in
    let both : take (m + n) (s ++ t) ≡ s ++ t = take_all (m + n) (s ++ t) (omega (arith, length-append s t)) in
    ap₂ ◌++◌
    (ap₂ ◌++◌ head (take_all n t (omega arith)) ∙ append_assoc (take at d) s t ∙ ap (λ (l : List ℕ). take at d ++ l) (sym both))
    (tail ∙ ap (λ (k : ℕ). drop k d) (add_assoc at m n))

-- A store puts a text of one byte.
pub paste_one : (d : List ℕ) (at x : ℕ) → at < length d → set d at x ≡ paste d at (x ∷ []) 1
paste_one d at x h =
    set_split d at x h ∙ sym (append_snoc (take at d) x (drop (at + 1) d) ∙ ap (λ (k : ℕ). take at d ++ x ∷ drop k d) (add-one at))

-- A byte that is stored after a text that was put: the two of them in one.
pub paste_byte : (d : List ℕ) (at : ℕ) (s : List ℕ) (m x : ℕ) (mid : List ℕ) (next : ℕ) → mid ≡ paste d at s m → next ≡ at + m → length s ≡ m → at + (m + 1) ≤ length d →
    set mid next x ≡ paste d at (s ++ x ∷ []) (m + 1)
paste_byte d at s m x mid next put here long room =
    ap₂ (λ (l : List ℕ) (k : ℕ). set l k x) put here
    ∙ paste_one (paste d at s m) (at + m) x (omega (arith, length-paste d at s m (omega arith) (omega arith)))
    ∙ paste_paste d at s m (x ∷ []) 1 long refl (omega arith)

-- A byte that is stored where a text will end: the two of them in one.
pub put_behind : (d : List ℕ) (at : ℕ) (s : List ℕ) (m x : ℕ) → length s ≡ m → at + m < length d → paste (set d (at + m) x) at s m ≡ paste d at (s ++ x ∷ []) (m + 1)
put_behind d at s m x long room =
    let front : take at (set d (at + m) x) ≡ take at d = take-set-le at d (at + m) x (omega arith) in
    let next : suc (at + m) ≡ at + (m + 1) = omega arith in
    let back : drop (at + m) (set d (at + m) x) ≡ x ∷ drop (at + (m + 1)) d =
    drop-cons (set d (at + m) x) (at + m) 0 (lt-length-set d (at + m) x room)
    ∙ ap₂ ◌∷◌ (get_or-set_same d (at + m) x 0 room) (drop-set-lt (suc (at + m)) d (at + m) x (omega arith) ∙ ap (λ (k : ℕ). drop k d) next) in
    let all : take (m + 1) (s ++ x ∷ []) ≡ s ++ x ∷ [] = take_all (m + 1) (s ++ x ∷ []) (omega (arith, length-append s (x ∷ []))) in
    ap₂ ◌++◌ (ap₂ ◌++◌ front (take_all m s (omega arith))) back
    ∙ sym (append_snoc (take at d ++ s) x (drop (at + (m + 1)) d))
    ∙ ap (λ (l : List ℕ). l ++ drop (at + (m + 1)) d) (append_assoc (take at d) s (x ∷ []) ∙ ap (λ (l : List ℕ). take at d ++ l) (sym all))

-- So does a copy to the front of what lies from the place on.
pub paste_front : (d : List ℕ) (at : ℕ) (s after : List ℕ) → after ≡ s ++ drop (length s) (take (length d - at) (drop at d)) →
    take at d ++ (after ++ drop (length d - at) (drop at d)) ≡ paste d at s (length s)
paste_front d at s after e =
    let n : length (drop at d) ≡ length d - at = length-drop at d in
    let all : take (length d - at) (drop at d) ≡ drop at d = take_all (length d - at) (drop at d) (omega arith) in
    let none : drop (length d - at) (drop at d) ≡ [] = drop_of_length-le (drop at d) {i = length d - at} (omega arith) in
    let copied : after ≡ take (length s) s ++ drop (at + length s) d = e ∙ rw (all, drop-drop (length s) at d) (ap (λ (l : List ℕ). l ++ drop (at + length s) d) (sym (take_all (length s) s (omega arith)))) in
    ap (λ (l : List ℕ). take at d ++ l) (rw none (append-nil after) ∙ copied) ∙ sym (append_assoc (take at d) (take (length s) s) (drop (at + length s) d))

-- The buffer after a text of so many bytes was put at a place, where there was room for it.
pub record Put (before : List ℕ) (at : ℕ) (text : List ℕ) (count : ℕ) (after : List ℕ) : Type 0 where
  pub long : length text ≡ count
  pub room : at + count ≤ length before
  pub is : after ≡ paste before at text count

-- It is as long as it was.
pub put_length : {before text after : List ℕ} {at count : ℕ} → Put before at text count after → length after ≡ length before
put_length {before} {text} {after} {at} {count} p =
    ap (λ (l : List ℕ). length l) p.is ∙ length-paste before at text count p.room (omega arith)

-- Then comes another text, at the place after it.
pub put_after : {before s mid : List ℕ} {at m : ℕ} → Put before at s m mid → (next : ℕ) (t : List ℕ) (n : ℕ) (after : List ℕ) → next ≡ at + m → length t ≡ n → at + (m + n) ≤ length before →
    after ≡ paste mid next t n → Put before at (s ++ t) (m + n) after
put_after {before} {s} {mid} {at} {m} p next t n after here more room e = record {
  long = omega (arith, length-append s t, p.long);
  room = room;
  is = e ∙ ap₂ (λ (l : List ℕ) (k : ℕ). paste l k t n) p.is here ∙ paste_paste before at s m t n p.long more p.room;
}

-- The same where that place is a sum as it stands.
pub put_then : {before s mid : List ℕ} {at m : ℕ} → Put before at s m mid → (t : List ℕ) (n : ℕ) (after : List ℕ) → length t ≡ n → at + (m + n) ≤ length before →
    after ≡ paste mid (at + m) t n → Put before at (s ++ t) (m + n) after
put_then {at = at} {m = m} p t n after more room e = put_after p (at + m) t n after refl more room e

-- All of it was put at the front of a buffer: so output is handed back.
pub put_front : {text buffer after : List ℕ} {count : ℕ} → Put buffer 0 text count after → front_filled text buffer ≡ after
put_front {text} {buffer} {after} {count} p =
    let place : length text ≡ 0 + count = p.long ∙ sym (zero-add count) in
    front_fits text buffer (omega (arith, p.long, p.room))
    ∙ ap₂ (λ (s : List ℕ) (k : ℕ). s ++ drop k buffer) (sym (take_all count text (omega (arith, p.long)))) place
    ∙ sym p.is

-- All of it was put.
pub put_whole : {before text after : List ℕ} {at count : ℕ} → Put before at text count after → after ≡ paste before at text (length text)
put_whole {before} {text} {after} {at} p = p.is ∙ ap (λ (k : ℕ). paste before at text k) (sym p.long)

-- Then comes one byte.
pub put_byte : {before s mid : List ℕ} {at m : ℕ} → Put before at s m mid → (x : ℕ) → at + m < length before → Put before at (s ++ x ∷ []) (m + 1) (set mid (at + m) x)
put_byte {before} {s} {mid} {at} {m} p x h =
    put_then p (x ∷ []) 1 (set mid (at + m) x) refl (omega arith) (paste_one mid (at + m) x (omega (arith, put_length p)))

-- Then comes a field: a number's digits and the byte after them.
pub put_field : {before s mid : List ℕ} {at m : ℕ} → Put before at s m mid → (next : ℕ) (t : List ℕ) (n x : ℕ) (after : List ℕ) → next ≡ at + m → length t ≡ n → at + (m + (n + 1)) ≤ length before →
    after ≡ paste mid next (t ++ x ∷ []) (n + 1) → Put before at (s ++ t ++ x ∷ []) (m + (n + 1)) after
put_field {before} {s} {at = at} {m = m} p next t n x after here long room e =
    subst (λ (l : List ℕ). Put before at l (m + (n + 1)) after) (sym (append_assoc s t (x ∷ [])))
    (put_after p next (t ++ x ∷ []) (n + 1) after here (omega (arith, length-append t (x ∷ []))) room e)
