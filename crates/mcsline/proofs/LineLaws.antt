-- Laws of a line: what its characters spell, by their place in the text.
use Prim.Native.Nat.{ℕ, zero, suc, ◌+◌, ◌-◌, ◌*◌, ◌<◌, ◌≤◌}
use mathlib.Core.Path.{◌≡◌, refl, sym, ap, ap₂, ◌∙◌}
use mathlib.Core.Bool.{Bool, true, false, ◌&&◌}
use mathlib.Core.List.{List, [], ◌∷◌}
use native.Mathlib.Omega.{arith}
use borrow.Author.Tests.{eqb-true, ltb-true, ltb-false}
use lib.Dec.{eqb}
use lib.ListN.{length, get_or, drop, length-drop}
use lib.Seq.{get_or-drop, drop-drop, drop-cons}
use native.Mathlib.Nat.{add-zero}
use native.Mathlib.Numerals.{add-one}
use Rattle.base.specs.Question.{ask}
use Rattle.base.proofs.Laws.{false_of}
use Rattle.digits.specs.Digit.{digits, place_in, digit_of, is_digit}
use Rattle.digits.specs.Pairs.{pair_at, IsPair, ArePairs, pairs_at}
use Rattle.mcsline.specs.Record.{LF, CR, COLON}
use Rattle.mcsline.specs.Line.{is_ending, onto, spelled_by, line_spells}
use Rattle.mcsline.specs.Place.{ending_of, ending_at, first_line, line_at}
use Rattle.std.specs.Prelude.{Option, Some, None}

-- no digit ends a line
pub digit_lf : (c : ℕ) → eqb c LF ≡ true → digit_of c < 16 → ⊥
unfolding digit_of place_in digits
digit_lf c e h = let k : digit_of c ≡ 16 = ap digit_of (eqb-true c LF e) in omega arith

pub not_ending : (a b : ℕ) (cs : List ℕ) → eqb b LF ≡ false → is_ending (a ∷ b ∷ cs) ≡ false
unfolding is_ending
not_ending a b [] e = rw e (go (eqb a CR))
  where
    go : (p : Bool) → (p && false) ≡ false
    go true = refl
    go false = refl
not_ending a b (c ∷ cs) e = refl

empty_ends : is_ending [] ≡ true → ⊥
unfolding is_ending
empty_ends e = cc

-- What characters spell, one step at a time.

pub spelled_end : (cs : List ℕ) → is_ending cs ≡ true → spelled_by cs ≡ Some []
unfolding spelled_by ask
spelled_end [] e = absurd (empty_ends e)
spelled_end (a ∷ []) e = rw e
spelled_end (a ∷ b ∷ cs) e = rw e

pub spelled_one : (a : ℕ) → is_ending (a ∷ []) ≡ false → spelled_by (a ∷ []) ≡ None
unfolding spelled_by ask
spelled_one a e = rw e

pub spelled_pair : (a b : ℕ) (cs : List ℕ) → is_ending (a ∷ b ∷ cs) ≡ false → is_digit a ≡ true → is_digit b ≡ true → spelled_by (a ∷ b ∷ cs) ≡ onto (16 * digit_of a + digit_of b) (spelled_by cs)
unfolding spelled_by ask
spelled_pair a b cs e f g = rw (e, f, g) refl

pub spelled_other : (a b : ℕ) (cs : List ℕ) → is_ending (a ∷ b ∷ cs) ≡ false → (is_digit a && is_digit b) ≡ false → spelled_by (a ∷ b ∷ cs) ≡ None
unfolding spelled_by ask
spelled_other a b cs e f = rw (e, f) refl

pub first_lf : (c : ℕ) (cs : List ℕ) → eqb c LF ≡ true → first_line (c ∷ cs) ≡ c ∷ []
unfolding first_line
first_lf c cs e = rw (e, first_line)

pub first_on : (c : ℕ) (cs : List ℕ) → eqb c LF ≡ false → first_line (c ∷ cs) ≡ c ∷ first_line cs
unfolding first_line
first_on c cs e = rw (e, first_line)

pub one_line : (c : ℕ) → eqb c LF ≡ false → first_line (c ∷ []) ≡ c ∷ []
unfolding first_line
one_line c e = rw (e, first_line)

pub ending_lf : (a b : ℕ) → eqb a LF ≡ true → ending_of a b ≡ 1
unfolding ending_of
ending_lf a b e = rw (e, ending_of)

pub ending_crlf : (a b : ℕ) → eqb a LF ≡ false → eqb a CR ≡ true → eqb b LF ≡ true → ending_of a b ≡ 2
unfolding ending_of
ending_crlf a b e f g = rw (e, f, g, ending_of)

pub ending_cr : (a b : ℕ) → eqb a LF ≡ false → eqb a CR ≡ true → eqb b LF ≡ false → ending_of a b ≡ 0
unfolding ending_of
ending_cr a b e f g = rw (e, f, g, ending_of)

pub ending_none : (a b : ℕ) → eqb a LF ≡ false → eqb a CR ≡ false → ending_of a b ≡ 0
unfolding ending_of
ending_none a b e f = rw (e, f, ending_of)

-- What stands at the front of characters: a line end, a pair, or neither.
pub data View (t : List ℕ) : Type 0 where
  ended : (IsPair t 0 → ⊥) → 1 ≤ ending_at t 0 → spelled_by (first_line t) ≡ Some [] → length (first_line t) ≡ ending_at t 0 → View t
  paired : IsPair t 0 → ending_at t 0 ≡ 0 → spelled_by (first_line t) ≡ onto (pair_at t 0) (spelled_by (first_line (drop 2 t))) → length (first_line t) ≡ 2 + length (first_line (drop 2 t)) → View t
  broken : (IsPair t 0 → ⊥) → ending_at t 0 ≡ 0 → spelled_by (first_line t) ≡ None → View t

no_digit : digit_of 0 < 16 → ⊥
unfolding digit_of place_in digits
no_digit h = omega arith

nothing : View []
unfolding first_line spelled_by ending_of
nothing = broken (λ h. no_digit h.0) refl refl

is_lf : (a : ℕ) → eqb a LF ≡ true → is_ending (a ∷ []) ≡ true
unfolding is_ending
is_lf a e = e

is_crlf : (a b : ℕ) → eqb a CR ≡ true → eqb b LF ≡ true → is_ending (a ∷ b ∷ []) ≡ true
unfolding is_ending
is_crlf a b e f = rw (e, f) refl

no_lf : (a : ℕ) → eqb a LF ≡ false → is_ending (a ∷ []) ≡ false
unfolding is_ending
no_lf a e = e

no_cr : (a b : ℕ) → eqb a CR ≡ false → is_ending (a ∷ b ∷ []) ≡ false
unfolding is_ending
no_cr a b e = rw e refl

pub no_first : (a b : Bool) → a ≡ false → (a && b) ≡ false
no_first a b e = rw e refl

pub no_second : (a b : Bool) → b ≡ false → (a && b) ≡ false
no_second true b e = e
no_second false b e = refl

-- at an LF
at_lf : (a : ℕ) (t : List ℕ) → eqb a LF ≡ true → View (a ∷ t)
at_lf a t e =
    let n : ending_at (a ∷ t) 0 ≡ 1 = ending_lf _ _ e in
    ended (λ h. digit_lf a e h.0) (omega arith) (rw (first_lf a t e) (spelled_end (a ∷ []) (is_lf a e))) (rw (first_lf a t e) (sym n))

two_more : (n : ℕ) → suc (suc n) ≡ 2 + n
two_more n = omega arith

pub view : (t : List ℕ) → View t
view [] = nothing
view (a ∷ []) = go (eqb a LF) (eqb a CR) refl refl
  where
    alone : eqb a LF ≡ false → ending_at (a ∷ []) 0 ≡ 0 → View (a ∷ [])
    alone e n = broken (λ h. no_digit h.1) n (rw (one_line a e) (spelled_one a (no_lf a e)))

    go : (p q : Bool) → eqb a LF ≡ p → eqb a CR ≡ q → View (a ∷ [])
    go true q e f = at_lf a [] e
    go false true e f = alone e (ending_cr _ _ e f refl)
    go false false e f = alone e (ending_none _ _ e f)
view (a ∷ b ∷ t) = go (eqb a LF) (eqb a CR) (eqb b LF) refl refl refl
  where
    pair : (p q : Bool) → is_digit a ≡ p → is_digit b ≡ q → first_line (a ∷ b ∷ t) ≡ a ∷ b ∷ first_line t → is_ending (a ∷ b ∷ first_line t) ≡ false → ending_at (a ∷ b ∷ t) 0 ≡ 0 → View (a ∷ b ∷ t)
    pair true true d e l i n =
        paired (ltb-true _ _ d, ltb-true _ _ e) n (rw l (spelled_pair a b (first_line t) i d e)) (ap (λ (x : List ℕ). length x) l ∙ two_more (length (first_line t)))
    pair false q d e l i n =
        broken (λ h. let k : 16 ≤ digit_of a = ltb-false _ _ d in omega arith) n (rw l (spelled_other a b (first_line t) i (no_first (is_digit a) (is_digit b) d)))
    pair true false d e l i n =
        broken (λ h. let k : 16 ≤ digit_of b = ltb-false _ _ e in omega arith) n (rw l (spelled_other a b (first_line t) i (no_second (is_digit a) (is_digit b) e)))

    both : eqb a LF ≡ false → eqb b LF ≡ false → first_line (a ∷ b ∷ t) ≡ a ∷ b ∷ first_line t
    both e g = first_on a (b ∷ t) e ∙ ap (λ (l : List ℕ). a ∷ l) (first_on b t g)

    lf : eqb a LF ≡ false → eqb b LF ≡ true → first_line (a ∷ b ∷ t) ≡ a ∷ b ∷ []
    lf e g = first_on a (b ∷ t) e ∙ ap (λ (l : List ℕ). a ∷ l) (first_lf b t g)

    go : (p q r : Bool) → eqb a LF ≡ p → eqb a CR ≡ q → eqb b LF ≡ r → View (a ∷ b ∷ t)
    go true q r e f g = at_lf a (b ∷ t) e
    go false true true e f g =
        let n : ending_at (a ∷ b ∷ t) 0 ≡ 2 = ending_crlf _ _ e f g in
        ended (λ h. digit_lf b g h.1) (omega arith) (rw (lf e g) (spelled_end (a ∷ b ∷ []) (is_crlf a b f g))) (rw (lf e g) (sym n))
    go false false true e f g =
        broken (λ h. digit_lf b g h.1) (ending_none _ _ e f)
        (rw (lf e g) (spelled_other a b [] (no_cr a b f) (no_second (is_digit a) (is_digit b) (not_digit b g))))
      where
        not_digit : (b : ℕ) → eqb b LF ≡ true → is_digit b ≡ false
        not_digit b g = false_of (is_digit b) (λ h. digit_lf b g (ltb-true _ _ h))
    go false true false e f g = pair (is_digit a) (is_digit b) refl refl (both e g) (not_ending a b (first_line t) g) (ending_cr _ _ e f g)
    go false false false e f g = pair (is_digit a) (is_digit b) refl refl (both e g) (not_ending a b (first_line t) g) (ending_none _ _ e f)

-- The same by a place of the text.

pub onto_none : (x : ℕ) (s : Option (List ℕ)) → onto x s ≡ Some [] → ⊥
unfolding onto
onto_none x (Some xs) e = cc
onto_none x None e = cc

pub onto_some : (x : ℕ) (s : Option (List ℕ)) (y : ℕ) (ys : List ℕ) → onto x s ≡ Some (y ∷ ys) → (x ≡ y) × (s ≡ Some ys)
unfolding onto
onto_some x (Some xs) y ys e = (cc, cc)
onto_some x None y ys e = cc

pub onto_pairs : (x : ℕ) (s : Option (List ℕ)) (ys : List ℕ) → s ≡ Some ys → onto x s ≡ Some (x ∷ ys)
unfolding onto
onto_pairs x s ys e = rw e refl

pub none_some : {x : ℕ} {xs : List ℕ} → Some [] ≡ Some (x ∷ xs) → ⊥
none_some e = cc

pub broken_not : (ps : List ℕ) → None ≡ Some ps → ⊥
broken_not ps e = cc

pub spells_colon : (c : ℕ) (cs : List ℕ) → eqb c COLON ≡ true → line_spells (c ∷ cs) ≡ spelled_by cs
unfolding line_spells ask
spells_colon c cs e = rw e

pub spells_other : (c : ℕ) (cs : List ℕ) → eqb c COLON ≡ false → line_spells (c ∷ cs) ≡ None
unfolding line_spells ask
spells_other c cs e = rw e

pub first_length : (t : List ℕ) → length (first_line t) ≤ length t
unfolding first_line
first_length [] = omega arith
first_length (c ∷ cs) = go (eqb c LF) refl (first_length cs)
  where
    go : (p : Bool) → eqb c LF ≡ p → length (first_line cs) ≤ length cs → length (first_line (c ∷ cs)) ≤ length (c ∷ cs)
    go true e ih = rw (first_lf c cs e) (omega arith)
    go false e ih = rw (first_on c cs e) (omega arith)

pub first_some : (c : ℕ) (cs : List ℕ) → 1 ≤ length (first_line (c ∷ cs))
first_some c cs = go (eqb c LF) refl
  where
    go : (p : Bool) → eqb c LF ≡ p → 1 ≤ length (first_line (c ∷ cs))
    go true e = rw (first_lf c cs e) (omega arith)
    go false e = rw (first_on c cs e) (omega arith)

module _ (text : List ℕ) where
  abbrev pub spelled_at : ℕ → Option (List ℕ)
  spelled_at p = spelled_by (first_line (drop p text))

  ending_drop : (p : ℕ) → ending_at (drop p text) 0 ≡ ending_at text p
  ending_drop p = simp (get_or-drop, add-zero) refl

  pair_drop : (p : ℕ) → IsPair text p → IsPair (drop p text) 0
  pair_drop p h = simp (get_or-drop, add-zero) h

  drop_pair : (p : ℕ) → IsPair (drop p text) 0 → IsPair text p
  drop_pair p h = simp (get_or-drop, add-zero) at h

  pairs_more : (p k : ℕ) → ArePairs text p (suc k) → ArePairs text (p + 2) k
  pairs_more p k h j l = let e : p + 2 + 2 * j ≡ p + 2 * suc j = omega arith in rw e (h (suc j) (omega arith))

  pairs_first : (p k : ℕ) → IsPair text p → ArePairs text (p + 2) k → ArePairs text p (suc k)
  pairs_first p k f h zero l = rw add-zero f
  pairs_first p k f h (suc j) l = let e : p + 2 + 2 * j ≡ p + 2 * suc j = omega arith in rw e at (h j (omega arith))

  -- pairs and a line end after them are spelled
  pub spells : (k p : ℕ) → ArePairs text p k → 1 ≤ ending_at text (p + 2 * k) →
      (spelled_at p ≡ Some (pairs_at text p k)) × (length (first_line (drop p text)) ≡ 2 * k + ending_at text (p + 2 * k))
  unfolding pairs_at
  spells zero p h e = go (view (drop p text))
    where
      here : ending_at text (p + 2 * 0) ≡ ending_at (drop p text) 0
      here = let z : p + 2 * 0 ≡ p = omega arith in rw z (sym (ending_drop p))

      go : View (drop p text) → (spelled_at p ≡ Some []) × (length (first_line (drop p text)) ≡ 2 * 0 + ending_at text (p + 2 * 0))
      go (ended n m s l) = (s, omega (arith, here))
      go (paired q z s l) = absurd (omega (arith, here))
      go (broken n z s) = absurd (omega (arith, here))
  spells (suc k) p h e = go (view (drop p text)) (spells k (p + 2) (pairs_more p k h) (rw on e))
    where
      on : p + 2 + 2 * k ≡ p + 2 * suc k
      on = omega arith

      first : IsPair (drop p text) 0
      first = pair_drop p (rw add-zero at (h 0 (omega arith)))

      go : View (drop p text) →
          (spelled_at (p + 2) ≡ Some (pairs_at text (p + 2) k)) × (length (first_line (drop (p + 2) text)) ≡ 2 * k + ending_at text (p + 2 + 2 * k)) →
          (spelled_at p ≡ Some (pair_at text p ∷ pairs_at text (p + 2) k)) × (length (first_line (drop p text)) ≡ 2 * suc k + ending_at text (p + 2 * suc k))
      go (ended n m s l) ih = absurd (n first)
      go (paired q z s l) ih = (
        s ∙ onto_pairs (pair_at (drop p text) 0) (spelled_by (first_line (drop 2 (drop p text)))) (pairs_at text (p + 2) k) (rw drop-drop ih.0) ∙ simp (get_or-drop, add-zero) refl,
        (let n : length (first_line (drop 2 (drop p text))) ≡ 2 * k + ending_at text (p + 2 * suc k) = rw drop-drop (rw on at ih.1) in omega arith),
      )
      go (broken n z s) ih = absurd (n first)

  -- what is spelled are pairs and a line end after them
  pub spelled : (ps : List ℕ) (p : ℕ) → spelled_at p ≡ Some ps →
      ArePairs text p (length ps) × (ps ≡ pairs_at text p (length ps)) × (1 ≤ ending_at text (p + 2 * length ps))
  unfolding pairs_at
  spelled [] p e = go (view (drop p text))
    where
      go : View (drop p text) → ArePairs text p 0 × (◌≡◌ {A = List ℕ} [] []) × (1 ≤ ending_at text (p + 2 * 0))
      go (ended n m s l) =
          let z : p + 2 * 0 ≡ p = omega arith in
          let a : ArePairs text p 0 = λ j h. absurd (omega arith) in
          let b : 1 ≤ ending_at text p = rw ending_drop at m in
          (a, refl, rw z b)
      go (paired q z s l) = absurd (onto_none (pair_at (drop p text) 0) (spelled_by (first_line (drop 2 (drop p text)))) (sym s ∙ e))
      go (broken n z s) = absurd (broken_not [] (sym s ∙ e))
  spelled (x ∷ xs) p e = go (view (drop p text)) (spelled xs (p + 2))
    where
      go : View (drop p text) →
          (spelled_at (p + 2) ≡ Some xs → ArePairs text (p + 2) (length xs) × (xs ≡ pairs_at text (p + 2) (length xs)) × (1 ≤ ending_at text (p + 2 + 2 * length xs))) →
          ArePairs text p (suc (length xs)) × (x ∷ xs ≡ pair_at text p ∷ pairs_at text (p + 2) (length xs)) × (1 ≤ ending_at text (p + 2 * suc (length xs)))
      go (ended n m s l) ih = absurd (none_some (sym s ∙ e))
      go (paired q z s l) ih =
          let o : (pair_at (drop p text) 0 ≡ x) × (spelled_by (first_line (drop 2 (drop p text))) ≡ Some xs) = onto_some (pair_at (drop p text) 0) (spelled_by (first_line (drop 2 (drop p text)))) x xs (sym s ∙ e) in
          let r : ArePairs text (p + 2) (length xs) × (xs ≡ pairs_at text (p + 2) (length xs)) × (1 ≤ ending_at text (p + 2 + 2 * length xs)) = ih (rw drop-drop at o.1) in
          let y : pair_at text p ≡ x = simp (get_or-drop, add-zero) at o.0 in
          let on : p + 2 + 2 * length xs ≡ p + 2 * suc (length xs) = omega arith in
          (pairs_first p (length xs) (drop_pair p q) r.0, ap₂ ◌∷◌ (sym y) r.1, rw on at r.2)
      go (broken n z s) ih = absurd (broken_not (x ∷ xs) (sym s ∙ e))

  -- A line that begins with a colon spells what stands after it, and no other line spells pairs.

  pub cut : (at : ℕ) → at < length text → drop at text ≡ get_or text at 0 ∷ drop (at + 1) text
  cut at h = rw add-one (drop-cons text at 0 h)

  pub line_spells_law : (at : ℕ) → at < length text → get_or text at 0 ≡ COLON →
      (line_spells (line_at text at) ≡ spelled_at (at + 1)) × (length (line_at text at) ≡ suc (length (first_line (drop (at + 1) text))))
  line_spells_law at h e =
      let l : line_at text at ≡ get_or text at 0 ∷ first_line (drop (at + 1) text) = ap first_line (cut at h) ∙ first_on (get_or text at 0) (drop (at + 1) text) (rw e refl) in
      (rw l (spells_colon (get_or text at 0) (first_line (drop (at + 1) text)) (rw e refl)), rw l refl)

  pub line_colon : (at : ℕ) (ps : List ℕ) → at < length text → line_spells (line_at text at) ≡ Some ps → get_or text at 0 ≡ COLON
  line_colon at ps h e = go (eqb (get_or text at 0) COLON) (eqb (get_or text at 0) LF) refl refl
    where
      go : (p q : Bool) → eqb (get_or text at 0) COLON ≡ p → eqb (get_or text at 0) LF ≡ q → get_or text at 0 ≡ COLON
      go true q f g = eqb-true _ _ f
      go false true f g =
          let l : line_at text at ≡ get_or text at 0 ∷ [] = ap first_line (cut at h) ∙ first_lf (get_or text at 0) (drop (at + 1) text) g in
          absurd (broken_not ps (sym (rw l (spells_other (get_or text at 0) [] f)) ∙ e))
      go false false f g =
          let l : line_at text at ≡ get_or text at 0 ∷ first_line (drop (at + 1) text) = ap first_line (cut at h) ∙ first_on (get_or text at 0) (drop (at + 1) text) g in
          absurd (broken_not ps (sym (rw l (spells_other (get_or text at 0) (first_line (drop (at + 1) text)) f)) ∙ e))

  pub line_long : (at : ℕ) → at < length text → (1 ≤ length (line_at text at)) × (at + length (line_at text at) ≤ length text)
  line_long at h =
      let a : 1 ≤ length (line_at text at) = rw (cut at h) (first_some (get_or text at 0) (drop (at + 1) text)) in
      let b : length (line_at text at) ≤ length text - at = simp length-drop at (first_length (drop at text)) in
      (a, omega arith)
