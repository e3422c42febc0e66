-- Where a sync word begins, and what a search passes over.
use Prim.Native.Nat.{ℕ, zero, suc, ◌+◌, ◌<◌, ◌≤◌}
use mathlib.Core.Path.{◌≡◌, refl, sym, ap₂, ◌∙◌}
use mathlib.Core.Bool.{Bool, true, false, ◌&&◌}
use mathlib.Core.List.{List, [], ◌∷◌}
use native.Mathlib.Nat.{add-zero}
use native.Mathlib.Numerals.{add-one}
use native.Mathlib.Omega.{arith}
use borrow.Author.Tests.{eqb-true, eqb-false, eq-eqb, ne_eqb}
use lib.Dec.{eqb}
use lib.ListN.{length, get_or, drop, length-drop}
use lib.Seq.{drop-cons, get_or-drop}
use Rattle.base.proofs.Laws.{false_of, both_true}
use Rattle.framing.specs.Search.{sync_bytes, begins_with, find}
use Rattle.std.specs.Prelude.{Some, None}
use Rattle.std.specs.List.{list_any, starts_with}
use Rattle.std.proofs.lemmas.List.Folds.{list_any_at}
use Rattle.base.proofs.Laws.{false_true}
use Rattle.std.proofs.Common.{take, length-take}
use Rattle.std.proofs.lemmas.List.{get_or-take}

-- A slice's `starts_with` says the same as `begins_with`.
same_test : (a b : ℕ) → eqb a b ≡ eqb b a
same_test a b = go (eqb a b) refl
  where
    go : (t : Bool) → eqb a b ≡ t → eqb a b ≡ eqb b a
    go true e = e ∙ sym (eq-eqb b a (sym (eqb-true a b e)))
    go false e = e ∙ sym (ne_eqb b a (λ h. eqb-false a b e (sym h)))

pub starts_begins : (pattern bytes : List ℕ) → starts_with eqb bytes pattern ≡ begins_with pattern bytes
unfolding begins_with
starts_begins [] bytes = refl
starts_begins (p ∷ pattern) [] = refl
starts_begins (p ∷ pattern) (byte ∷ bytes) = ap₂ ◌&&◌ (same_test p byte) (starts_begins pattern bytes)

-- Where a pattern begins, its bytes stand.

pub starts_length : (ps xs : List ℕ) → begins_with ps xs ≡ true → length ps ≤ length xs
unfolding begins_with
starts_length [] xs e = omega arith
starts_length (p ∷ ps) [] e = let z : ◌≡◌ {A = ℕ} 0 1 = cc in absurd (omega arith)
starts_length (p ∷ ps) (x ∷ xs) e = let h : length ps ≤ length xs = starts_length ps xs (both_true (eqb x p) (begins_with ps xs) e).1 in omega arith

pub starts_at : (ps xs : List ℕ) → begins_with ps xs ≡ true → (j : ℕ) → j < length ps → get_or xs j 0 ≡ get_or ps j 0
unfolding begins_with
starts_at [] xs e j h = absurd (omega arith)
starts_at (p ∷ ps) [] e j h = let z : ◌≡◌ {A = ℕ} 0 1 = cc in absurd (omega arith)
starts_at (p ∷ ps) (x ∷ xs) e zero h = eqb-true x p (both_true (eqb x p) (begins_with ps xs) e).0
starts_at (p ∷ ps) (x ∷ xs) e (suc j) h = starts_at ps xs (both_true (eqb x p) (begins_with ps xs) e).1 j (omega arith)

pub starts_all : (ps xs : List ℕ) → length ps ≤ length xs → ((j : ℕ) → j < length ps → get_or xs j 0 ≡ get_or ps j 0) → begins_with ps xs ≡ true
unfolding begins_with
starts_all [] xs l h = refl
starts_all (p ∷ ps) [] l h = absurd (omega arith)
starts_all (p ∷ ps) (x ∷ xs) l h =
    rw (eq-eqb x p (h 0 (omega arith))) (starts_all ps xs (omega arith) (λ j k. h (suc j) (omega arith)))

-- No pattern begins where one of its bytes does not stand, or where too few bytes are left.
pub starts_differs : (ps xs : List ℕ) (j : ℕ) → j < length ps → (get_or xs j 0 ≡ get_or ps j 0 → ⊥) → begins_with ps xs ≡ false
starts_differs ps xs j h d = false_of (begins_with ps xs) (λ e. d (starts_at ps xs e j h))

pub starts_short : (ps xs : List ℕ) → length xs < length ps → begins_with ps xs ≡ false
starts_short ps xs h = false_of (begins_with ps xs) (λ e. let l : length ps ≤ length xs = starts_length ps xs e in omega arith)

-- The same by a place of the bytes.
pub differs_at : (s : List ℕ) (at j : ℕ) → j < 4 → (get_or s (at + j) 0 ≡ get_or sync_bytes j 0 → ⊥) → begins_with sync_bytes (drop at s) ≡ false
differs_at s at j h d = starts_differs sync_bytes (drop at s) j h (λ e. d (sym (get_or-drop at s j 0) ∙ e))

pub stands_at : (s : List ℕ) (at : ℕ) → at + 4 ≤ length s → ((j : ℕ) → j < 4 → get_or s (at + j) 0 ≡ get_or sync_bytes j 0) → begins_with sync_bytes (drop at s) ≡ true
stands_at s at l h = starts_all sync_bytes (drop at s) (simp length-drop (omega arith)) (λ j k. get_or-drop at s j 0 ∙ h j k)

-- The search.

pub find_here : (xs : List ℕ) (p : ℕ) → begins_with sync_bytes xs ≡ true → find xs p ≡ Some p
unfolding find begins_with
find_here [] p e = let z : ◌≡◌ {A = ℕ} 0 1 = cc in absurd (omega arith)
find_here (x ∷ xs) p e = rw (e, find)

pub find_short : (xs : List ℕ) (p : ℕ) → length xs < 4 → find xs p ≡ None
unfolding find
find_short [] p h = refl
find_short (x ∷ xs) p h = rw (starts_short sync_bytes (x ∷ xs) h, find) (find_short xs (p + 1) (omega arith))

pub find_next : (xs : List ℕ) (p : ℕ) (x : ℕ) → begins_with sync_bytes (x ∷ xs) ≡ false → find (x ∷ xs) p ≡ find xs (p + 1)
unfolding find
find_next xs p x e = rw (e, find)

pub find_on : (s : List ℕ) (at : ℕ) → at < length s → begins_with sync_bytes (drop at s) ≡ false → find (drop at s) at ≡ find (drop (at + 1) s) (at + 1)
find_on s at h e =
    rw (drop-cons s at 0 h) (find_next (drop (suc at) s) at (get_or s at 0) (rw (drop-cons s at 0 h) at e) ∙ rw add-one refl)

-- A search passes over places where no sync word begins.
pub find_past : (s : List ℕ) (k at : ℕ) → at + k ≤ length s → ((i : ℕ) → i < k → begins_with sync_bytes (drop (at + i) s) ≡ false) → find (drop at s) at ≡ find (drop (at + k) s) (at + k)
find_past s zero at l h = rw add-zero refl
find_past s (suc k) at l h =
    find_on s at (omega arith) (rw add-zero at (h 0 (omega arith)))
    ∙ find_past s k (at + 1) (omega arith) (λ i j. let e : at + 1 + i ≡ at + suc i = omega arith in rw e (h (suc i) (omega arith)))
    ∙ (let e : at + 1 + k ≡ at + suc k = omega arith in rw e refl)

-- It passes over as many bytes of which none is a sync word's first.
pub find_past_clear : (s : List ℕ) (k at : ℕ) → at + k ≤ length s → list_any (λ y. eqb y 0xAA) (take k (drop at s)) ≡ false → find (drop at s) at ≡ find (drop (at + k) s) (at + k)
find_past_clear s k at l clear = find_past s k at l (λ i h. differs_at s (at + i) 0 (omega arith) (λ e.
    let here : get_or (take k (drop at s)) i 0 ≡ 0xAA = get_or-take k (drop at s) i 0 h ∙ get_or-drop at s i 0 ∙ rw (sym (add-zero (at + i))) e in
    false_true (sym clear ∙ list_any_at (λ y. eqb y 0xAA) (take k (drop at s)) i 0 (simp (length-take, length-drop) (omega arith)) (eq-eqb _ _ here))))

-- A sync word that is found stands at or after where the search began, whole.
pub find_within : (xs : List ℕ) (p at : ℕ) → find xs p ≡ Some at → (p ≤ at) × (at + 4 ≤ p + length xs)
unfolding find
find_within [] p at e = let z : ◌≡◌ {A = ℕ} 0 1 = cc in absurd (omega arith)
find_within (x ∷ xs) p at e = go (begins_with sync_bytes (x ∷ xs)) refl (λ f. find_within xs (p + 1) at (sym (find_next xs p x f) ∙ e))
  where
    go : (b : Bool) → begins_with sync_bytes (x ∷ xs) ≡ b → (begins_with sync_bytes (x ∷ xs) ≡ false → (p + 1 ≤ at) × (at + 4 ≤ p + 1 + length xs)) → (p ≤ at) × (at + 4 ≤ p + length (x ∷ xs))
    go true t ih =
        let q : Some p ≡ Some at = sym (find_here (x ∷ xs) p t) ∙ e in
        let r : p ≡ at = cc in
        let l : 4 ≤ length (x ∷ xs) = starts_length sync_bytes (x ∷ xs) t in omega arith
    go false f ih = let w : (p + 1 ≤ at) × (at + 4 ≤ p + 1 + length xs) = ih f in omega arith
