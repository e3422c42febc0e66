-- A run's state: what one that fits says, and the next state.
use Prim.Native.Nat.{ℕ, suc, ◌+◌, ◌-◌, ◌/◌, ◌<◌, ◌≤◌}
use mathlib.Core.Path.{◌≡◌, refl, sym, ap, ◌∙◌}
use mathlib.Core.Logic.{◌⊎◌, inl, inr, ⊎_elim}
use mathlib.Core.Bool.{Bool, true, false}
use native.Mathlib.Omega.{arith}
use borrow.Author.Tests.{ltb-true, ltb-false, eqb-true, lt-ltb, le-ltb, eq-eqb}
use lib.Dec.{eqb, ltb}
use Rattle.base.specs.Question.{ask}
use Rattle.kind.specs.Layout.{chip_length_allowed, image_length_allowed, page, segment, update_place_allowed, update_length_allowed, ask_layout}
use Rattle.base.proofs.Laws.{asked, false_true}
use Rattle.updater.specs.Types.{Layout, State}
use Rattle.kind.proofs.Laws.{update_length_range, image_length_range}
use Rattle.orders.specs.Table.{by_phase, pages, count, count_before, total}
use Rattle.orders.proofs.Laws.{phases, before_next, before_later}
use Rattle.updater.specs.State.{position, first, after, running, outcome_allowed, phase_consistent, fits}

-- The numbers of a run: questions 1 to 4.
pub record Numbers (layout : Layout) (n : ℕ) : Type 0 where
  pub long : chip_length_allowed layout.chip_length ≡ true
  pub starts : update_place_allowed layout.chip_length layout.update_place ≡ true
  pub spans : update_length_allowed layout.chip_length layout.update_place layout.update_length ≡ true
  pub image : image_length_allowed layout.update_length n ≡ true

pub numbers_image : (layout : Layout) (n : ℕ) → Numbers layout n → (1 ≤ n) × (n ≤ layout.update_length)
numbers_image layout n numbers = image_length_range layout.update_length n numbers.image

-- What a state that fits says.
pub record Fits (state : State) (lent : ℕ) : Type 0 where
  pub numbers : Numbers state.layout state.image_length
  pub stand : phase_consistent state ≡ true
  pub same : state.image_length ≡ lent

pub fits_says : (state : State) (lent : ℕ) → fits state lent ≡ true → Fits state lent
unfolding fits ask_layout
fits_says state lent e =
    let a = asked _ _ _ _ e false_true in
    let b = asked _ _ _ _ a.1 false_true in
    let c = asked _ _ _ _ b.1 false_true in
    let d = asked _ _ _ _ c.1 false_true in
    let f = asked _ _ _ _ d.1 false_true in
    record {
      numbers = record { long = a.0; starts = b.0; spans = c.0; image = d.0 };
      stand = f.0;
      same = eqb-true _ _ f.1;
    }

pub fits_same : (state : State) (lent : ℕ) → fits state lent ≡ true → state.image_length ≡ lent
fits_same state lent e = (fits_says state lent e).same

pub says_fits : (state : State) (lent : ℕ) → Fits state lent → fits state lent ≡ true
unfolding fits ask_layout ask
says_fits state lent f = rw (f.numbers.long, f.numbers.starts, f.numbers.spans, f.numbers.image, f.stand) (eq-eqb _ _ f.same)

-- Two questions with a yes.
both : {a b : Bool} → a ≡ true → b ≡ true → ask a false b ≡ true
unfolding ask
both p q = rw (p, ask) q

-- Before phase 7: an order of the phase, and outcome 0.
standing : (state : State) → running state ≡ true → phase_consistent state ≡ ask (ltb state.index (count state.layout state.image_length state.phase)) false (eqb state.outcome 0)
unfolding phase_consistent
standing state r = rw (r, phase_consistent) refl

pub running_says : (state : State) (lent : ℕ) → fits state lent ≡ true → running state ≡ true → (state.phase < 7) × (state.index < count state.layout state.image_length state.phase) × (state.outcome ≡ 0)
running_says state lent e r =
    let a = asked _ _ _ _ (sym (standing state r) ∙ (fits_says state lent e).stand) false_true in
    (ltb-true _ _ r, ltb-true _ _ a.0, eqb-true _ _ a.1)

-- Every phase before 7 has an order.
pub count_some : (layout : Layout) (n : ℕ) → Numbers layout n → (phase : ℕ) → phase < 7 → 1 ≤ count layout n phase
unfolding count by_phase
count_some layout n numbers =
    let a = update_length_range layout.chip_length layout.update_place layout.update_length numbers.spans in
    let i = numbers_image layout n numbers in
    let s : 1 ≤ layout.update_length / segment = omega arith in
    let p : 1 ≤ layout.update_length / page = omega arith in
    let m : 1 ≤ pages n = omega arith in
    phases (λ (phase : ℕ). 1 ≤ count layout n phase) (omega arith) (omega arith) s m p (omega arith) (omega arith)

-- The next state: the next index, or the next phase.
pub after_index : (state : State) → state.index + 1 < count state.layout state.image_length state.phase →
    after state ≡ record { layout = state.layout; image_length = state.image_length; phase = state.phase; index = state.index + 1; outcome = state.outcome }
unfolding after
after_index state h = rw (lt-ltb (state.index + 1) (count state.layout state.image_length state.phase) h, after) refl

pub after_phase : (state : State) → count state.layout state.image_length state.phase ≤ state.index + 1 →
    after state ≡ record { layout = state.layout; image_length = state.image_length; phase = state.phase + 1; index = 0; outcome = state.outcome }
unfolding after
after_phase state h = rw (le-ltb (state.index + 1) (count state.layout state.image_length state.phase) h, after) refl

-- Which of the two.
pub last_or_not : (state : State) → (state.index + 1 < count state.layout state.image_length state.phase) ⊎ (count state.layout state.image_length state.phase ≤ state.index + 1)
last_or_not state = go (ltb (state.index + 1) (count state.layout state.image_length state.phase)) refl
  where
    go : (b : Bool) → ltb (state.index + 1) (count state.layout state.image_length state.phase) ≡ b →
        (state.index + 1 < count state.layout state.image_length state.phase) ⊎ (count state.layout state.image_length state.phase ≤ state.index + 1)
    go true e = inl (ltb-true _ _ e)
    go false e = inr (ltb-false _ _ e)

-- A state at the beginning of a phase is consistent there.
begins_phase : (layout : Layout) (n : ℕ) → Numbers layout n → (phase : ℕ) → phase < 7 →
    phase_consistent (record { layout = layout; image_length = n; phase = phase + 1; index = 0; outcome = 0 }) ≡ true
unfolding phase_consistent ask outcome_allowed
begins_phase layout n numbers phase h = go (ltb (phase + 1) 7) refl
  where
    go : (b : Bool) → ltb (phase + 1) 7 ≡ b → phase_consistent (record { layout = layout; image_length = n; phase = phase + 1; index = 0; outcome = 0 }) ≡ true
    go true e = let c = count_some layout n numbers (phase + 1) (ltb-true _ _ e) in rw (e, lt-ltb 0 (count layout n (phase + 1)) c, phase_consistent) refl
    go false e = let s : phase + 1 ≡ 7 = (let l = ltb-false (phase + 1) 7 e in omega arith) in rw (e, eq-eqb (phase + 1) 7 s, phase_consistent) refl

-- It fits, and is one further on.
pub after_fits : (state : State) (lent : ℕ) → fits state lent ≡ true → running state ≡ true → fits (after state) lent ≡ true
after_fits state lent e r = ⊎_elim next_index_law next_phase_law (last_or_not state)
  where
    f : Fits state lent
    f = fits_says state lent e

    zero_outcome : state.outcome ≡ 0
    zero_outcome = (running_says state lent e r).2

    next_index_law : state.index + 1 < count state.layout state.image_length state.phase → fits (after state) lent ≡ true
    next_index_law h =
        let s : State = record { layout = state.layout; image_length = state.image_length; phase = state.phase; index = state.index + 1; outcome = state.outcome } in
        let same : fits s lent ≡ true =
        says_fits s lent (record { numbers = f.numbers; stand = standing s r ∙ both (lt-ltb _ _ h) (eq-eqb _ _ zero_outcome); same = f.same }) in
        ap (λ (t : State). fits t lent) (after_index state h) ∙ same

    next_phase_law : count state.layout state.image_length state.phase ≤ state.index + 1 → fits (after state) lent ≡ true
    next_phase_law h =
        let s : State = record { layout = state.layout; image_length = state.image_length; phase = state.phase + 1; index = 0; outcome = 0 } in
        let same : fits s lent ≡ true =
        says_fits s lent (record { numbers = f.numbers; stand = begins_phase state.layout state.image_length f.numbers state.phase (running_says state lent e r).0; same = f.same }) in
        ap (λ (t : State). fits t lent) (after_phase state h ∙ ap (λ (o : ℕ). record { layout = state.layout; image_length = state.image_length; phase = state.phase + 1; index = 0; outcome = o }) zero_outcome) ∙ same

pub after_position : (state : State) (lent : ℕ) → fits state lent ≡ true → running state ≡ true → position (after state) ≡ position state + 1
after_position state lent e r = ⊎_elim next_index_law next_phase_law (last_or_not state)
  where
    next_index_law : state.index + 1 < count state.layout state.image_length state.phase → position (after state) ≡ position state + 1
    next_index_law h = ap position (after_index state h) ∙ omega arith

    next_phase_law : count state.layout state.image_length state.phase ≤ state.index + 1 → position (after state) ≡ position state + 1
    next_phase_law h =
        let i = (running_says state lent e r).1 in
        let c : count state.layout state.image_length state.phase ≡ state.index + 1 = omega arith in
        let b = before_next state.layout state.image_length state.phase in
        ap position (after_phase state h) ∙ omega arith

-- The position tells whether the run goes on.
pub position_running : (state : State) (lent : ℕ) → fits state lent ≡ true → running state ≡ true → position state < total state.layout state.image_length
position_running state lent e r =
    let s = running_says state lent e r in
    let k : suc state.phase + (6 - state.phase) ≡ 7 = omega arith in
    let h : count_before state.layout state.image_length state.phase + count state.layout state.image_length state.phase ≤ total state.layout state.image_length =
    rw k at (before_later state.layout state.image_length state.phase (6 - state.phase)) in
    omega arith

pub position_ended : (state : State) (lent : ℕ) → fits state lent ≡ true → running state ≡ false → position state ≡ total state.layout state.image_length
unfolding phase_consistent
position_ended state lent e r =
    let s : ask (eqb state.phase 7) false (ask (eqb state.index 0) false (outcome_allowed state.outcome)) ≡ true = rw (r, phase_consistent) at (fits_says state lent e).stand in
    let a = asked _ _ _ _ s false_true in
    let b = asked _ _ _ _ a.1 false_true in
    let p : state.phase ≡ 7 = eqb-true state.phase 7 a.0 in
    let i : state.index ≡ 0 = eqb-true state.index 0 b.0 in
    let q : count_before state.layout state.image_length state.phase ≡ total state.layout state.image_length = ap (count_before state.layout state.image_length) p in
    omega arith

pub first_fits : (layout : Layout) (n : ℕ) → Numbers layout n → fits (first layout n) n ≡ true
first_fits layout n numbers =
    says_fits (first layout n) n
    (record {
      numbers = numbers;
      stand = standing (first layout n) refl ∙ both (lt-ltb 0 (count layout n 0) (count_some layout n numbers 0 (omega arith))) refl;
      same = refl;
    })
