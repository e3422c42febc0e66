-- Laws of yes and no, of a question, and of an answer.
use Prim.Native.Nat.{ℕ, ◌+◌, ◌-◌, ◌<◌, ◌≤◌}
use mathlib.Core.Path.{◌≡◌, refl, sym, ap}
use mathlib.Core.Bool.{Bool, true, false, ◌&&◌}
use mathlib.Core.Logic.{◌⊎◌, inl, inr}
use native.Mathlib.Omega.{arith}
use borrow.Author.Tests.{eqb-true, eqb-false, ltb-true, ltb-false, leb-true, leb-false, le-leb, lt-leb}
use mathlib.Core.List.{List, [], ◌∷◌, ◌++◌}
use lib.Dec.{eqb, ltb, leb}
use lib.ListN.{length, drop}
use Rattle.std.specs.Prelude.{Ok, Err}
use Rattle.base.specs.Types.{Reason, Refusal}
use Rattle.base.specs.Refusal.{refused}
use Rattle.base.specs.Question.{ask}
use Rattle.base.specs.Output.{front_filled}
use Rattle.base.specs.Answer.{Numbered, Gives}

pub false_true : false ≡ true → ⊥
false_true e = let z : ◌≡◌ {A = ℕ} 0 1 = cc in omega arith

pub false_of : (b : Bool) → (b ≡ true → ⊥) → b ≡ false
false_of true h = absurd (h refl)
false_of false h = refl

pub both_true : (a b : Bool) → (a && b) ≡ true → (a ≡ true) × (b ≡ true)
both_true true b e = (refl, e)
both_true false b e = absurd (false_true e)

-- Where the answer is not the refusal, the question had a yes, and the rest gave the answer.
pub asked {ℓ} : {A : Type ℓ} (b : Bool) (refused rest answer : A) → ask b refused rest ≡ answer → (refused ≡ answer → ⊥) → (b ≡ true) × (rest ≡ answer)
unfolding ask
asked true refused rest answer e differ = (refl, e)
asked false refused rest answer e differ = absurd (differ e)

pub asked_yes : {A : Type 0} (b : Bool) (refused rest : A) → b ≡ true → ask b refused rest ≡ rest
unfolding ask
asked_yes true refused rest e = refl
asked_yes false refused rest e = absurd (false_true e)

-- What the answer to a question of the code tells: allowed, it had a yes; refused, it had a no, and that is the refusal.
pub asked_ok : (b : Bool) (reason : Reason) → ask b (refused {A = Unit {0}} reason 0) (Ok tt) ≡ Ok tt → b ≡ true
unfolding ask
asked_ok true reason e = refl
asked_ok false reason e = let z : ◌≡◌ {A = ℕ} 0 1 = cc in absurd (omega arith)

pub asked_err : (b : Bool) (reason : Reason) (r : Refusal) → ask b (refused {A = Unit {0}} reason 0) (Ok tt) ≡ Err r → (b ≡ false) × (record { reason = reason; place = 0 } ≡ r)
unfolding ask
asked_err true reason r e = let z : ◌≡◌ {A = ℕ} 0 1 = cc in absurd (omega arith)
asked_err false reason r e = (refl, cc)

-- What holds of the refusal and of the rest holds of the answer.
pub either_way {ℓ} : {A : Type ℓ} (P : A → Type 0) (b : Bool) (refused rest : A) → P refused → P rest → P (ask b refused rest)
unfolding ask
either_way P true refused rest r h = h
either_way P false refused rest r h = r

-- Below a number, or not.
pub below_or_not : (a b : ℕ) → (a < b) ⊎ (b ≤ a)
below_or_not a b = go (ltb a b) refl
  where
    go : (t : Bool) → ltb a b ≡ t → (a < b) ⊎ (b ≤ a)
    go true e = inl (ltb-true a b e)
    go false e = inr (ltb-false a b e)

-- Equal, or not.
pub equal_or_not : (a b : ℕ) → (a ≡ b) ⊎ (a ≡ b → ⊥)
equal_or_not a b = go (eqb a b) refl
  where
    go : (t : Bool) → eqb a b ≡ t → (a ≡ b) ⊎ (a ≡ b → ⊥)
    go true e = inl (eqb-true a b e)
    go false e = inr (eqb-false a b e)

-- Whether a span lies within so many places, asked of what is left after its own, so that no sum can wrap.
pub fits_after : (length place count : ℕ) → place ≤ length → leb count (length - place) ≡ leb (place + count) length
fits_after length place count h = go (leb count (length - place)) refl
  where
    go : (b : Bool) → leb count (length - place) ≡ b → b ≡ leb (place + count) length
    go true e = let l = leb-true count (length - place) e in sym (le-leb (place + count) length (omega arith))
    go false e = let l = leb-false count (length - place) e in sym (lt-leb (place + count) length (omega arith))

-- A list of no length is empty.
pub nil_of_length : {A : Type 0} (l : List A) → length l ≡ 0 → l ≡ []
nil_of_length [] h = refl
nil_of_length (x ∷ l) h = absurd (omega arith)

-- Output that fits is at the front, with the old bytes after it.
pub front_fits : (output buffer : List ℕ) → length output ≤ length buffer → front_filled output buffer ≡ output ++ drop (length output) buffer
unfolding front_filled ask
front_fits output buffer fits = rw (le-leb (length output) (length buffer) fits) refl

-- An answer that is the one defined has its number and values.
pub gives : {A : Type 0} (numbers : A → Numbered) (answer defined : A) → answer ≡ defined → Gives numbers answer defined
gives numbers answer defined same = record { same = same; numbered = ap numbers same }
