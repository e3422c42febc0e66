-- An order's number: that it goes by whether the run has ended, and that the orders of a run are counted one by one.
use Prim.Native.Nat.{ℕ, ◌+◌, ◌*◌, ◌≤◌}
use mathlib.Core.Path.{◌≡◌, refl, sym, ap, ◌∙◌}
use mathlib.Core.Bool.{Bool, true, false}
use mathlib.Core.Logic.{⊎_elim}
use mathlib.Core.List.{List, ◌∷◌}
use native.Mathlib.Omega.{arith}
use lib.ListN.{length, drop}
use Rattle.std.specs.Prelude.{Option, Some, None, Result, Ok, Err}
use Rattle.base.specs.Question.{ask}
use Rattle.base.specs.Refusal.{refused}
use Rattle.std.specs.Option.{is_none}
use Rattle.base.proofs.Laws.{asked, false_true}
use Rattle.kind.specs.Layout.{longest_chip}
use Rattle.kind.specs.Kind.{Kind}
use Rattle.kind.proofs.Laws.{chip_length_range, update_length_range, image_length_range}
use Rattle.chip.specs.Chip.{Lawful}
use Rattle.orders.specs.Table.{count_before, total}
use Rattle.orders.specs.Orders.{orders}
use Rattle.orders.proofs.Laws.{total_is}
use Rattle.updater.specs.State.{position, first, after, running, fits, current_order}
use Rattle.updater.specs.Run.{finished_case, finished_answer}
use Rattle.updater.proofs.Laws.{fits_says, running_says, first_fits, after_index, after_phase, last_or_not, after_fits, after_position, position_running, position_ended, orders_left}
use Rattle.starts.specs.Types.{Reason, BadState, RunEnded, Refusal, Layout, State, RunProgress}
use Rattle.starts.specs.Starts.{start_answer, counted, progress_of, progress_answer}
use Rattle.starts.specs.Theorems.{OrdersAreCounted}
use Rattle.starts.proofs.StartLaws.{opened}

-- The answer by whether the run has ended,
unfoldable by_finished : State → Result (Option ℕ) Refusal → Result RunProgress Refusal
by_finished state (Ok None) = Ok (progress_of state)
by_finished state (Ok (Some outcome)) = refused RunEnded 0
by_finished state (Err r) = Err r

progress_by : (state : State) (f : Result (Option ℕ) Refusal) → finished_answer state ≡ f → by_finished state f ≡ progress_answer state
unfolding by_finished progress_answer finished_answer finished_case ask
progress_by state f p = ap (by_finished state) (sym p) ∙ go (fits state state.image_length) (running state) refl refl
  where
    go : (a b : Bool) → fits state state.image_length ≡ a → running state ≡ b → by_finished state (finished_answer state) ≡ progress_answer state
    go true true e r = rw (e, r) refl
    go true false e r = rw (e, r) refl
    go false b e r = rw e refl

-- which is refused, or has ended, or goes on:
pub progress_refused : (state : State) (r : Refusal) → finished_answer state ≡ Err r → Err r ≡ progress_answer state
unfolding by_finished
progress_refused state r p = progress_by state _ p

pub progress_ended : (state : State) (outcome : Option ℕ) → finished_answer state ≡ Ok outcome → is_none outcome ≡ false → refused RunEnded 0 ≡ progress_answer state
unfolding by_finished
progress_ended state None p n = absurd (false_true (sym n))
progress_ended state (Some outcome) p n = progress_by state _ p

pub progress_goes_on : (state : State) (outcome : Option ℕ) → finished_answer state ≡ Ok outcome → is_none outcome ≡ true → Ok (progress_of state) ≡ progress_answer state
unfolding by_finished
progress_goes_on state None p n = progress_by state _ p
progress_goes_on state (Some outcome) p n = absurd (false_true n)

-- then its state fits, before phase 7.
pub runs : (state : State) (outcome : Option ℕ) → finished_answer state ≡ Ok outcome → is_none outcome ≡ true → (fits state state.image_length ≡ true) × (running state ≡ true)
unfolding finished_answer finished_case
runs state outcome e n =
    let a = asked _ _ _ _ e not_refused in
    (a.0, go (running state) outcome a.1 n)
  where
    not_refused : ◌≡◌ {A = Result (Option ℕ) Refusal} (refused BadState 0) (Ok outcome) → ⊥
    not_refused q = let z : ◌≡◌ {A = ℕ} 0 1 = cc in absurd (omega arith)

    go : (b : Bool) (o : Option ℕ) → finished_case b state ≡ Ok o → is_none o ≡ true → b ≡ true
    go true o q m = refl
    go false None q m = let z : ◌≡◌ {A = ℕ} 0 1 = cc in absurd (omega arith)
    go false (Some outcome) q m = absurd (false_true m)

-- The numbers of a run that goes on are small enough to count with.
pub record Countable (state : State) : Type 0 where
  pub phase : state.phase ≤ 7
  pub area : state.layout.update_length ≤ longest_chip
  pub image : state.image_length ≤ longest_chip
  pub order : position state + 1 ≤ total state.layout state.image_length
  pub orders : total state.layout state.image_length ≤ 4 * longest_chip

pub countable : (state : State) → fits state state.image_length ≡ true → running state ≡ true → Countable state
countable state fit goes =
    let numbers = (fits_says state _ fit).numbers in
    let f = chip_length_range state.layout.chip_length numbers.long in
    let a = update_length_range state.layout.chip_length state.layout.update_place state.layout.update_length numbers.spans in
    let n = image_length_range state.layout.update_length state.image_length numbers.image in
    let p = (running_says state _ fit goes).0 in
    let o = position_running state _ fit goes in
    let t = total_is state.layout state.image_length in
    record { phase = omega arith; area = omega arith; image = omega arith; order = omega arith; orders = omega arith }

-- THE COUNT: what an order's number says of its state.
says : (state : State) (order all : ℕ) → progress_answer state ≡ Ok (counted order all) →
    (fits state state.image_length ≡ true) × (running state ≡ true) × (order ≡ position state + 1) × (all ≡ total state.layout state.image_length)
unfolding progress_answer
says state order all e =
    let a = asked _ _ _ _ e (not_counted BadState) in
    let b = asked _ _ _ _ a.1 (not_counted RunEnded) in
    let same : progress_of state ≡ counted order all = cc in
    (a.0, b.0, sym (ap (λ (p : RunProgress). p.order) same), sym (ap (λ (p : RunProgress). p.orders) same))
  where
    not_counted : (reason : Reason) → ◌≡◌ {A = Result RunProgress Refusal} (refused reason 0) (Ok (counted order all)) → ⊥
    not_counted reason q = let z : ◌≡◌ {A = ℕ} 0 1 = cc in absurd (omega arith)

counts : (state : State) → fits state state.image_length ≡ true → running state ≡ true → progress_answer state ≡ Ok (progress_of state)
unfolding progress_answer ask
counts state e r = rw (e, r) refl

first_counts : (kind : Kind) → Lawful kind → (layout : Layout) (image : List ℕ) (state : State) → start_answer kind layout image ≡ Ok state → progress_answer state ≡ Ok (counted 1 (total layout (length image)))
unfolding count_before
first_counts kind lawful layout image state e =
    let o = opened kind lawful layout image state e in
    ap progress_answer o.begins ∙ counts (first layout (length image)) (first_fits layout (length image) o.numbers) refl

-- An order leaves layout and length as they were.
after_same : (state : State) → ((after state).layout ≡ state.layout) × ((after state).image_length ≡ state.image_length)
after_same state = ⊎_elim (λ h. (ap (λ (s : State). s.layout) (after_index state h), ap (λ (s : State). s.image_length) (after_index state h))) (λ h. (ap (λ (s : State). s.layout) (after_phase state h), ap (λ (s : State). s.image_length) (after_phase state h))) (last_or_not state)

-- The state after an order fits, and is one further on among as many.
after_counts : (state : State) (order all : ℕ) → progress_answer state ≡ Ok (counted order all) →
    (fits (after state) (after state).image_length ≡ true) × (position (after state) ≡ order) × (total (after state).layout (after state).image_length ≡ all)
after_counts state order all e =
    let c = says state order all e in
    let s = after_same state in (
      ap (fits (after state)) s.1 ∙ after_fits state _ c.0 c.1,
      after_position state _ c.0 c.1 ∙ sym c.2,
      rw (s.0, s.1) (sym c.3),
    )

next_counts : (state : State) (order all : ℕ) → progress_answer state ≡ Ok (counted order all) → running (after state) ≡ true → progress_answer (after state) ≡ Ok (counted (order + 1) all)
next_counts state order all e r =
    let a = after_counts state order all e in
    counts (after state) a.0 r ∙ rw (a.1, a.2) refl

last_counts : (state : State) (order all : ℕ) → progress_answer state ≡ Ok (counted order all) → running (after state) ≡ false → order ≡ all
last_counts state order all e r =
    let a = after_counts state order all e in
    sym a.1 ∙ position_ended (after state) _ a.0 r ∙ a.2

listed : (kind : Kind) (state : State) (image : List ℕ) (before all : ℕ) → state.image_length ≡ length image → progress_answer state ≡ Ok (counted (before + 1) all) →
    drop before (orders kind state.layout image) ≡ current_order kind state image ∷ drop (before + 1) (orders kind state.layout image)
listed kind state image before all same e =
    let c = says state (before + 1) all e in
    let p : position state ≡ before = (let q = c.2 in omega arith) in
    rw (sym p) (orders_left kind state image (ap (fits state) (sym same) ∙ c.0) c.1)

pub orders_counted : OrdersAreCounted
orders_counted = record { first = first_counts; next = next_counts; last = last_counts; listed = listed }
