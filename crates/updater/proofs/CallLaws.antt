-- The calls on a run: what their code computes, as the specification says it.
use Prim.Native.Nat.{ℕ, zero, suc, ◌+◌, ◌*◌, ◌<◌}
use mathlib.Core.Path.{◌≡◌, refl, sym, ap, ◌∙◌}
use mathlib.Core.Bool.{Bool, true, false}
use mathlib.Core.List.{List}
use native.Mathlib.Omega.{arith}
use lib.Dec.{eqb}
use lib.ListN.{length}
use Rattle.std.specs.Prelude.{Option, Some, None, Result, Ok, Err}
use Rattle.base.specs.Question.{ask}
use Rattle.base.specs.Refusal.{refused}
use Rattle.std.specs.Result.{is_err}
use Rattle.base.proofs.Laws.{asked, false_true}
use Rattle.flash.specs.Flash.{erased}
use Rattle.kind.specs.Kind.{Kind}
use Rattle.kind.specs.Spi.{spi}
use Rattle.kind.specs.Layout.{page, ask_numbers, numbers_answer}
use Rattle.kind.proofs.Laws.{chip_length_range, update_length_range, on_layout, by_numbers}
use Rattle.updater.specs.Types.{Reason, BadState, RunEnded, BadReply, Refusal, OrderAnswer, Judgement, NotAsked, Agrees, State, Reply, Next, RefusedReply}
use Rattle.orders.specs.Table.{by_phase, count}
use Rattle.orders.specs.Orders.{Order, erase, program, look, order_of}
use Rattle.updater.specs.State.{after, running, phase_consistent, fits, current_order}
use Rattle.comparison.specs.Comparison.{differs}
use Rattle.orders.specs.Replies.{done, read, asks_for}
use Rattle.updater.specs.Run.{ordered, order_refused, order_answer, stop_of, refused_reply, compared, replied_to, reply_answer}
use Rattle.orders.specs.Judging.{judged_done, judged_look, judged}
use Rattle.updater.specs.declared.state.Running.{Running}
use Rattle.updater.specs.Judging.{running_asked, state_of, on_judged}
use Rattle.orders.proofs.Laws.{phases}
use Rattle.updater.proofs.OrderLaws.{current_order_law}
use Rattle.updater.proofs.RunLaws.{numbers_image, fits_says, running_says}

-- No phase but the three that look has a stop.
pub stop_none : (phase : ℕ) → (phase ≡ 1 → ⊥) → (phase ≡ 4 → ⊥) → (phase ≡ 6 → ⊥) → stop_of phase ≡ 0
unfolding stop_of by_phase
stop_none zero b e g = refl
stop_none (suc zero) b e g = absurd (b refl)
stop_none (suc (suc zero)) b e g = refl
stop_none (suc (suc (suc zero))) b e g = refl
stop_none (suc (suc (suc (suc zero)))) b e g = absurd (e refl)
stop_none (suc (suc (suc (suc (suc zero))))) b e g = refl
stop_none (suc (suc (suc (suc (suc (suc zero)))))) b e g = absurd (g refl)
stop_none (suc (suc (suc (suc (suc (suc (suc phase))))))) b e g = refl

-- Question 6 goes by the answer to questions 1 to 4.
fits_by : (state : State) (lent : ℕ) (answer : Result (Unit {0}) Refusal) → numbers_answer state.layout state.image_length ≡ answer →
    on_layout (λ reason place. false) (ask (phase_consistent state) false (eqb state.image_length lent)) answer ≡ fits state lent
unfolding fits ask_numbers
fits_by state lent answer e = by_numbers (λ reason place. false) _ state.layout state.image_length answer e

pub fits_allowed : (state : State) (lent : ℕ) → is_err (numbers_answer state.layout state.image_length) ≡ false → fits state lent ≡ ask (phase_consistent state) false (eqb state.image_length lent)
unfolding on_layout
fits_allowed state lent e = go (numbers_answer state.layout state.image_length) refl e
  where
    go : (a : Result (Unit {0}) Refusal) → numbers_answer state.layout state.image_length ≡ a → is_err a ≡ false → fits state lent ≡ ask (phase_consistent state) false (eqb state.image_length lent)
    go (Ok allowed) p q = sym (fits_by state lent _ p)
    go (Err r) p q = absurd (false_true (sym q))

pub fits_refused : (state : State) (lent : ℕ) → is_err (numbers_answer state.layout state.image_length) ≡ true → fits state lent ≡ false
unfolding on_layout
fits_refused state lent e = go (numbers_answer state.layout state.image_length) refl e
  where
    go : (a : Result (Unit {0}) Refusal) → numbers_answer state.layout state.image_length ≡ a → is_err a ≡ true → fits state lent ≡ false
    go (Ok allowed) p q = absurd (false_true q)
    go (Err r) p q = sym (fits_by state lent _ p)

-- A run's numbers are small enough to compute with: whatever the phase, as many pages as its index is stand in the update area.
pub places_small : (state : State) (lent : ℕ) → fits state lent ≡ true → running state ≡ true → state.layout.update_place + page * state.index < 16777216
unfolding count by_phase
places_small state lent e r =
    let f = fits_says state lent e in
    let l = chip_length_range state.layout.chip_length f.numbers.long in
    let a = update_length_range state.layout.chip_length state.layout.update_place state.layout.update_length f.numbers.spans in
    let n = numbers_image state.layout state.image_length f.numbers in
    let s = running_says state lent e r in
    let within : page * state.index < state.layout.update_length =
    phases (λ (phase : ℕ). state.index < count state.layout state.image_length phase → page * state.index < state.layout.update_length)
    (λ h. omega arith)
    (λ h. omega arith)
    (λ h. omega arith)
    (λ h. omega arith)
    (λ h. omega arith)
    (λ h. omega arith)
    (λ h. omega arith)
    state.phase s.0 s.1 in
    omega arith

-- The image lent is as long as the run's.
pub fits_own : (state : State) (lent : ℕ) → fits state lent ≡ true → fits state state.image_length ≡ true
fits_own state lent e = ap (fits state) (fits_says state lent e).same ∙ e

-- A reply that was judged is answered as the specification says.
look_judged : (d : Option ℕ) (state : State) → on_judged (judged_look d) state ≡ compared d state
unfolding on_judged judged_look compared
look_judged None state = refl
look_judged (Some address) state = refl

ask_judged : (b : Bool) (rest : Judgement) (state : State) (answer : Result Reply RefusedReply) → on_judged rest state ≡ answer → on_judged (ask b NotAsked rest) state ≡ ask b (refused_reply BadReply 0 state) answer
unfolding ask on_judged
ask_judged true rest state answer e = e
ask_judged false rest state answer e = refl

judged_replies : (order : Order) (state : State) (reply_kind : ℕ) (bytes : List ℕ) → on_judged (judged order reply_kind bytes) state ≡ replied_to order state reply_kind bytes
unfolding judged judged_done replied_to on_judged
judged_replies (erase place count) state reply_kind bytes = ask_judged (asks_for done 0 reply_kind (length bytes)) Agrees state (Ok (Next (after state))) refl
judged_replies (program place contents) state reply_kind bytes = ask_judged (asks_for done 0 reply_kind (length bytes)) Agrees state (Ok (Next (after state))) refl
judged_replies (look place expected) state reply_kind bytes =
    ask_judged (asks_for read (length expected) reply_kind (length bytes)) _ state (compared (differs place bytes expected) state) (look_judged (differs place bytes expected) state)

-- Questions 6 and 7 by themselves: with a yes to both, the run's state fits and goes on,
pub goes_on : (state : State) (lent : ℕ) (answer : Result Running Refusal) (run : Running) → state_of answer ≡ running_asked state lent → answer ≡ Ok run →
    (run.state ≡ state) × (fits state lent ≡ true) × (running state ≡ true)
unfolding running_asked state_of
goes_on state lent answer run e was =
    let a = asked _ _ _ _ (sym e ∙ ap state_of was) (refused_running BadState) in
    let b = asked _ _ _ _ a.1 (refused_running RunEnded) in
    (cc, a.0, b.0)
  where
    refused_running : (reason : Reason) → ◌≡◌ {A = Result State Refusal} (refused reason 0) (Ok run.state) → ⊥
    refused_running reason q = let z : ◌≡◌ {A = ℕ} 0 1 = cc in omega arith

-- and an order and a reply are what the current order makes them;
pub order_goes_on : (kind : Kind) (state : State) (image : List ℕ) → fits state (length image) ≡ true → running state ≡ true → ordered (current_order kind state image) ≡ order_answer kind state image
unfolding order_answer ask
order_goes_on kind state image e r = rw (e, r) refl

pub reply_goes_on : (state : State) (image : List ℕ) (reply_kind : ℕ) (bytes : List ℕ) → fits state (length image) ≡ true → running state ≡ true →
    on_judged (judged (order_of spi state.layout image state.phase state.index) reply_kind bytes) state ≡ reply_answer spi state image reply_kind bytes
unfolding reply_answer ask
reply_goes_on state image reply_kind bytes e r =
    ap (λ (o : Order). on_judged (judged o reply_kind bytes) state) (sym (current_order_law spi state image e r)) ∙ rw (e, r) (judged_replies (current_order spi state image) state reply_kind bytes)

-- and else both are refused as they are.
pub order_refuses : (kind : Kind) (state : State) (image : List ℕ) (answer : Result Running Refusal) (r : Refusal) → state_of answer ≡ running_asked state (length image) → answer ≡ Err r →
    record { result = Err r; bytes = erased page } ≡ order_answer kind state image
unfolding order_answer running_asked state_of ask
order_refuses kind state image answer r e was = go (fits state (length image)) (running state) (sym (ap state_of was) ∙ e)
  where
    go : (a b : Bool) → ◌≡◌ {A = Result State Refusal} (Err r) (ask a (refused BadState 0) (ask b (refused RunEnded 0) (Ok state))) →
        ◌≡◌ {A = OrderAnswer} (record { result = Err r; bytes = erased page }) (ask a (order_refused BadState) (ask b (order_refused RunEnded) (ordered (current_order kind state image))))
    go true true q = let z : ◌≡◌ {A = ℕ} 0 1 = cc in absurd (omega arith)
    go true false q = cc
    go false b q = cc

pub reply_refuses : (kind : Kind) (state : State) (image : List ℕ) (reply_kind : ℕ) (bytes : List ℕ) (answer : Result Running Refusal) (r : Refusal) → state_of answer ≡ running_asked state (length image) → answer ≡ Err r →
    Err (record { refusal = r; state = state }) ≡ reply_answer kind state image reply_kind bytes
unfolding reply_answer running_asked state_of ask
reply_refuses kind state image reply_kind bytes answer r e was = go (fits state (length image)) (running state) (sym (ap state_of was) ∙ e)
  where
    go : (a b : Bool) → ◌≡◌ {A = Result State Refusal} (Err r) (ask a (refused BadState 0) (ask b (refused RunEnded 0) (Ok state))) →
        ◌≡◌ {A = Result Reply RefusedReply} (Err (record { refusal = r; state = state })) (ask a (refused_reply BadState 0 state) (ask b (refused_reply RunEnded 0 state) (replied_to (current_order kind state image) state reply_kind bytes)))
    go true true q = let z : ◌≡◌ {A = ℕ} 0 1 = cc in absurd (omega arith)
    go true false q = cc
    go false b q = cc
