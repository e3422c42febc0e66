-- Laws of bytes, then FF, and of bytes compared with them.
use Prim.Native.Nat.{ℕ, zero, suc, ◌+◌, ◌-◌, ◌<◌, ◌≤◌}
use mathlib.Core.Path.{◌≡◌, refl, sym, ap, ◌∙◌}
use mathlib.Core.Bool.{Bool, true, false}
use mathlib.Core.List.{List, [], ◌∷◌, ◌++◌}
use native.Mathlib.Omega.{arith}
use borrow.Author.Tests.{ltb-true, ltb-false, eqb-true, eq-eqb, ne_eqb}
use lib.Dec.{eqb, ltb}
use lib.ListN.{length, get_or, drop, length-append, get_or-replicate, drop_of_length-le, get_or-append, get_or-eq_default}
use lib.Seq.{drop-cons, get_or-append-add}
use Rattle.std.specs.Prelude.{Option, Some, None}
use Rattle.flash.specs.Flash.{erased}
use Rattle.flash.proofs.Laws.{get_d_any, erased_length}
use Rattle.comparison.specs.Comparison.{padded, differs}

-- Bytes, then FF: byte k, and how many there are.
pub padded_at : (size : ℕ) (bytes : List ℕ) (k : ℕ) → k < size → get_or (padded size bytes) k 0 ≡ get_or bytes k 0xFF
padded_at size bytes k h = go (ltb k (length bytes)) refl
  where
    go : (b : Bool) → ltb k (length bytes) ≡ b → get_or (padded size bytes) k 0 ≡ get_or bytes k 0xFF
    go true e = let l = ltb-true k (length bytes) e in get_or-append bytes (erased (size - length bytes)) 0 k l ∙ get_d_any bytes k 0 0xFF l
    go false e =
        let l = ltb-false k (length bytes) e in
        let s : k ≡ length bytes + (k - length bytes) = omega arith in
        ap (λ (i : ℕ). get_or (padded size bytes) i 0) s
        ∙ get_or-append-add bytes (erased (size - length bytes)) (k - length bytes) 0
        ∙ get_or-replicate (size - length bytes) (k - length bytes) 0xFF 0 (omega arith)
        ∙ sym (get_or-eq_default bytes 0xFF l)

pub padded_length : (size : ℕ) (bytes : List ℕ) → length bytes ≤ size → length (padded size bytes) ≡ size
padded_length size bytes h =
    let a = length-append bytes (erased (size - length bytes)) in
    let b = erased_length (size - length bytes) in
    omega arith

-- FF from a place on.
erased_drop : (count n : ℕ) → n ≤ count → drop n (erased count) ≡ erased (count - n)
erased_drop count zero h = let e : count ≡ count - 0 = omega arith in ap erased e
erased_drop zero (suc n) h = absurd (omega arith)
erased_drop (suc count) (suc n) h = let e : count - n ≡ suc count - suc n = omega arith in erased_drop count n (omega arith) ∙ ap erased e

-- Bytes at the front of FF are padded.
pub filled_all : (count : ℕ) (bytes : List ℕ) → length bytes ≤ count → bytes ++ drop (length bytes) (erased count) ≡ padded count bytes
filled_all count bytes h = rw (erased_drop count (length bytes) h) refl

-- Bytes compared one by one with those expected there.
differs_same : (place byte m : ℕ) (bytes expected : List ℕ) → byte ≡ m → differs place (byte ∷ bytes) (m ∷ expected) ≡ differs (place + 1) bytes expected
unfolding differs
differs_same place byte m bytes expected e = rw (eq-eqb byte m e, differs) refl

differs_other : (place byte m : ℕ) (bytes expected : List ℕ) → (byte ≡ m → ⊥) → differs place (byte ∷ bytes) (m ∷ expected) ≡ Some place
unfolding differs
differs_other place byte m bytes expected e = rw (ne_eqb byte m e, differs) refl

pub differs_next : (place i : ℕ) (bytes expected : List ℕ) → i < length bytes → length expected ≤ length bytes → get_or bytes i 0 ≡ get_or expected i 0xFF →
    differs (place + (i + 1)) (drop (i + 1) bytes) (drop (i + 1) (padded (length bytes) expected)) ≡ differs (place + i) (drop i bytes) (drop i (padded (length bytes) expected))
differs_next place i bytes expected h k e =
    let filled = padded (length bytes) expected in
    let n = padded_length (length bytes) expected k in
    let s : i + 1 ≡ suc i = omega arith in
    let p : place + suc i ≡ place + i + 1 = omega arith in
    let m : get_or bytes i 0 ≡ get_or filled i 0 = e ∙ sym (padded_at (length bytes) expected i h) in
    rw (s, p, drop-cons bytes i 0 h, drop-cons filled i 0 (omega arith)) (sym (differs_same (place + i) (get_or bytes i 0) (get_or filled i 0) (drop (suc i) bytes) (drop (suc i) filled) m))

pub differs_here : (place i : ℕ) (bytes expected : List ℕ) → i < length bytes → length expected ≤ length bytes → (get_or bytes i 0 ≡ get_or expected i 0xFF → ⊥) →
    differs (place + i) (drop i bytes) (drop i (padded (length bytes) expected)) ≡ Some (place + i)
differs_here place i bytes expected h k e =
    let filled = padded (length bytes) expected in
    let n = padded_length (length bytes) expected k in
    rw (drop-cons bytes i 0 h, drop-cons filled i 0 (omega arith)) (differs_other (place + i) (get_or bytes i 0) (get_or filled i 0) (drop (suc i) bytes) (drop (suc i) filled) (λ q. e (q ∙ padded_at (length bytes) expected i h)))

pub differs_end : (place i : ℕ) (bytes expected : List ℕ) → length bytes ≤ i → differs (place + i) (drop i bytes) (drop i expected) ≡ None
unfolding differs
differs_end place i bytes expected h = rw (drop_of_length-le bytes {i = i} h) refl

-- Bytes that are expected agree with themselves,
pub differs_none : (place : ℕ) (bytes : List ℕ) → differs place bytes bytes ≡ None
unfolding differs
differs_none place [] = refl
differs_none place (byte ∷ bytes) = rw (eq-eqb byte byte refl, differs) (differs_none (place + 1) bytes)

-- and only they do;
pub none_same : (place : ℕ) (bytes expected : List ℕ) → length bytes ≡ length expected → differs place bytes expected ≡ None → bytes ≡ expected
unfolding differs
none_same place [] [] l e = refl
none_same place [] (m ∷ expected) l e = absurd (omega arith)
none_same place (byte ∷ bytes) [] l e = absurd (omega arith)
none_same place (byte ∷ bytes) (m ∷ expected) l e = go (eqb byte m) refl e (none_same (place + 1) bytes expected (omega arith))
  where
    go : (b : Bool) → eqb byte m ≡ b → ◌≡◌ {A = Option ℕ} (elim b [ true ↦ differs (place + 1) bytes expected | false ↦ Some place ]) None → (differs (place + 1) bytes expected ≡ None → bytes ≡ expected) →
        byte ∷ bytes ≡ m ∷ expected
    go true q h rest = rw (eqb-true byte m q) (ap (λ (t : List ℕ). m ∷ t) (rest h))
    go false q h rest = let z : ◌≡◌ {A = ℕ} 0 1 = cc in absurd (omega arith)
