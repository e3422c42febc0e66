-- Replies: question 9 both ways, and what a reply that is taken says.
use Prim.Native.Nat.{ℕ, zero, suc, ◌+◌, ◌-◌, ◌<◌}
use mathlib.Core.Path.{◌≡◌, refl, sym, ap, subst, ◌∙◌}
use mathlib.Core.Logic.{inl, inr}
use mathlib.Core.Bool.{Bool, true, false}
use Rattle.std.specs.Prelude.{Option, Some, None, Result, Ok}
use mathlib.Core.List.{List, [], ◌∷◌}
use native.Mathlib.Omega.{arith}
use borrow.Author.Tests.{eqb-true, eqb-false, eq-eqb}
use lib.Dec.{eqb}
use lib.ListN.{length, get_or}
use Rattle.base.specs.Question.{ask}
use Rattle.base.proofs.Laws.{asked, nil_of_length}
use Rattle.kind.specs.Kind.{Kind}
use Rattle.comparison.proofs.Laws.{differs_none, none_same}
use Rattle.orders.specs.Table.{by_phase}
use Rattle.orders.specs.Orders.{Order, erase, program, look, order_of}
use Rattle.updater.specs.State.{after, ended, running, fits, current_order}
use Rattle.comparison.specs.Comparison.{differs}
use Rattle.orders.specs.Replies.{done, read, asks_for}
use Rattle.updater.specs.Run.{refused_reply, stop_of, compared, replied_to, reply_answer}
use Rattle.life.specs.OrderList.{Replies, FirstDiffers, Moved, StopsIn, Halted}
use Rattle.life.specs.Types.{Reason, BadState, RunEnded, BadReply, State, Reply, Next, Stopped, RefusedReply}
use Rattle.orders.proofs.Laws.{phases, asked_for}
use Rattle.updater.proofs.Laws.{running_says, current_order_law}

-- Where bytes differ, the address is that of the first byte that does.
pub some_differs : (place : ℕ) (bytes expected : List ℕ) (address : ℕ) → differs place bytes expected ≡ Some address → FirstDiffers place bytes expected address
unfolding differs
some_differs place [] expected address e = let z : ◌≡◌ {A = ℕ} 0 1 = cc in absurd (omega arith)
some_differs place (byte ∷ bytes) [] address e = let z : ◌≡◌ {A = ℕ} 0 1 = cc in absurd (omega arith)
some_differs place (byte ∷ bytes) (m ∷ expected) address e = go (eqb byte m) refl e (some_differs (place + 1) bytes expected address)
  where
    later : FirstDiffers (place + 1) bytes expected address → byte ≡ m → FirstDiffers place (byte ∷ bytes) (m ∷ expected) address
    later f q =
        let l = f.from in
        let k : address - place ≡ suc (address - (place + 1)) = omega arith in
        record {
          from = omega arith;
          within = (let w = f.within in rw k (omega arith));
          other = rw k f.other;
          before = λ i h. at i (omega arith);
        }
      where
        at : (i : ℕ) → i < suc (address - (place + 1)) → get_or (byte ∷ bytes) i 0 ≡ get_or (m ∷ expected) i 0
        at zero h = q
        at (suc i) h = f.before i (omega arith)

    go : (b : Bool) → eqb byte m ≡ b → ◌≡◌ {A = Option ℕ} (elim b [ true ↦ differs (place + 1) bytes expected | false ↦ Some place ]) (Some address) →
        (differs (place + 1) bytes expected ≡ Some address → FirstDiffers (place + 1) bytes expected address) → FirstDiffers place (byte ∷ bytes) (m ∷ expected) address
    go true q h rest = later (rest h) (eqb-true byte m q)
    go false q h rest =
        let a : place ≡ address = cc in
        let k : address - place ≡ 0 = omega arith in
        record {
          from = omega arith;
          within = rw k (omega arith);
          other = rw k (eqb-false byte m q);
          before = λ i h. absurd (omega arith);
        }

-- Question 8 with a yes.
for_asked : (what count reply_kind lent : ℕ) → reply_kind ≡ what → lent ≡ count → asks_for what count reply_kind lent ≡ true
for_asked what count reply_kind lent p q = rw (eq-eqb reply_kind what p, eq-eqb lent count q) refl

module _ (kind : Kind) (state : State) (image : List ℕ) (reply_kind : ℕ) (bytes : List ℕ) where
  refused_next : (reason : Reason) (next : State) → refused_reply reason 0 state ≡ Ok (Next next) → ⊥
  refused_next reason next q = cc

  refused_stopped : (reason : Reason) (n a : ℕ) (next : State) → refused_reply reason 0 state ≡ Ok (Stopped n a next) → ⊥
  refused_stopped reason n a next q = cc

  next_same : {a b : State} → ◌≡◌ {A = Result Reply RefusedReply} (Ok (Next a)) (Ok (Next b)) → b ≡ a
  next_same q = cc

  stopped_same : {n m p q : ℕ} {a b : State} → ◌≡◌ {A = Result Reply RefusedReply} (Ok (Stopped n p a)) (Ok (Stopped m q b)) → (n ≡ m) × (p ≡ q) × (a ≡ b)
  stopped_same e = (cc, cc, cc)

  pub moved : (next : State) → reply_answer kind state image reply_kind bytes ≡ Ok (Next next) → Moved kind state image reply_kind bytes next
  unfolding reply_answer replied_to compared Replies
  moved next e =
      let a = asked _ _ _ _ e (refused_next BadState next) in
      let b = asked _ _ _ _ a.1 (refused_next RunEnded next) in
      go (current_order kind state image) refl a.0 b.0 b.1
    where
      to_done : (o : Order) → current_order kind state image ≡ o → ((reply_kind ≡ done) × (bytes ≡ []) → Replies o reply_kind bytes) → fits state (length image) ≡ true → running state ≡ true →
          ask (asks_for done 0 reply_kind (length bytes)) (refused_reply BadReply 0 state) (Ok (Next (after state))) ≡ Ok (Next next) → Moved kind state image reply_kind bytes next
      to_done o w says f r q =
          let c = asked _ _ _ _ q (refused_next BadReply next) in
          let d = asked_for done 0 reply_kind (length bytes) c.0 in
          record { fitted = f; ran = r; replied = subst (λ (x : Order). Replies x reply_kind bytes) (sym w) (says (d.0, nil_of_length bytes d.1)); comes = next_same c.1 }

      to_look : (place : ℕ) (expected : List ℕ) → current_order kind state image ≡ look place expected → fits state (length image) ≡ true → running state ≡ true → reply_kind ≡ read → length bytes ≡ length expected →
          (d : Option ℕ) → differs place bytes expected ≡ d → compared d state ≡ Ok (Next next) → Moved kind state image reply_kind bytes next
      to_look place expected w f r p l None h q = record {
        fitted = f;
        ran = r;
        replied = subst (λ (x : Order). Replies x reply_kind bytes) (sym w) (p, none_same place bytes expected l h);
        comes = next_same q;
      }
      to_look place expected w f r p l (Some address) h q = let z : ◌≡◌ {A = ℕ} 0 1 = cc in absurd (omega arith)

      go : (o : Order) → current_order kind state image ≡ o → fits state (length image) ≡ true → running state ≡ true → replied_to o state reply_kind bytes ≡ Ok (Next next) → Moved kind state image reply_kind bytes next
      go (erase place count) w f r q = to_done (erase place count) w (λ p. p) f r q
      go (program place contents) w f r q = to_done (program place contents) w (λ p. p) f r q
      go (look place expected) w f r q =
          let c = asked _ _ _ _ q (refused_next BadReply next) in
          let d = asked_for read (length expected) reply_kind (length bytes) c.0 in
          to_look place expected w f r d.0 d.1 (differs place bytes expected) refl c.1

  -- An order that is a look: one of phase 1, 4 or 6.
  pub look_phase : (place : ℕ) (expected : List ℕ) → fits state (length image) ≡ true → running state ≡ true → current_order kind state image ≡ look place expected → StopsIn state.phase (stop_of state.phase)
  unfolding stop_of order_of by_phase
  look_phase place expected f r o =
      phases (λ (phase : ℕ). order_of kind state.layout image phase state.index ≡ look place expected → StopsIn phase (stop_of phase))
      (λ q. no_look q)
      (λ q. inl (refl, refl))
      (λ q. no_look q)
      (λ q. let z : ◌≡◌ {A = ℕ} 0 1 = cc in absurd (omega arith))
      (λ q. inr (inl (refl, refl)))
      (λ q. let z : ◌≡◌ {A = ℕ} 0 1 = cc in absurd (omega arith))
      (λ q. inr (inr (refl, refl)))
      state.phase (running_says state (length image) f r).0 (sym (current_order_law kind state image f r) ∙ o)
    where
      no_look : {A : Type 0} {at count : ℕ} → erase at count ≡ look place expected → A
      no_look q = let z : ◌≡◌ {A = ℕ} 0 1 = cc in absurd (omega arith)

  pub halted : (number address : ℕ) (next : State) → reply_answer kind state image reply_kind bytes ≡ Ok (Stopped number address next) → Halted kind state image reply_kind bytes number address next
  unfolding reply_answer replied_to compared
  halted number address next e =
      let a = asked _ _ _ _ e (refused_stopped BadState number address next) in
      let b = asked _ _ _ _ a.1 (refused_stopped RunEnded number address next) in
      go (current_order kind state image) refl a.0 b.0 b.1
    where
      not_done : {A : Type 0} → ask (asks_for done 0 reply_kind (length bytes)) (refused_reply BadReply 0 state) (Ok (Next (after state))) ≡ Ok (Stopped number address next) → A
      not_done q = let c = asked _ _ _ _ q (refused_stopped BadReply number address next) in let z : ◌≡◌ {A = ℕ} 0 1 = (let k = c.1 in cc) in absurd (omega arith)

      to_look : (place : ℕ) (expected : List ℕ) → current_order kind state image ≡ look place expected → fits state (length image) ≡ true → running state ≡ true → reply_kind ≡ read → length bytes ≡ length expected →
          (d : Option ℕ) → differs place bytes expected ≡ d → compared d state ≡ Ok (Stopped number address next) → Halted kind state image reply_kind bytes number address next
      to_look place expected w f r p l None h q = let z : ◌≡◌ {A = ℕ} 0 1 = cc in absurd (omega arith)
      to_look place expected w f r p l (Some found) h q =
          let s = stopped_same q in
          record {
            fitted = f;
            ran = r;
            place = place;
            expected = expected;
            looked = w;
            said = p;
            long = l;
            differ = some_differs place bytes expected address (h ∙ ap (λ (x : ℕ). Some x) s.1);
            stop = subst (StopsIn state.phase) s.0 (look_phase place expected f r w);
            comes = sym s.2 ∙ ap (ended state) s.0;
          }

      go : (o : Order) → current_order kind state image ≡ o → fits state (length image) ≡ true → running state ≡ true → replied_to o state reply_kind bytes ≡ Ok (Stopped number address next) → Halted kind state image reply_kind bytes number address next
      go (erase place count) w f r q = not_done q
      go (program place contents) w f r q = not_done q
      go (look place expected) w f r q =
          let c = asked _ _ _ _ q (refused_stopped BadReply number address next) in
          let d = asked_for read (length expected) reply_kind (length bytes) c.0 in
          to_look place expected w f r d.0 d.1 (differs place bytes expected) refl c.1

  -- And the other way: bytes that are not those expected are a stop,
  pub halts : (place : ℕ) (expected : List ℕ) → fits state (length image) ≡ true → running state ≡ true → current_order kind state image ≡ look place expected → length bytes ≡ length expected → (bytes ≡ expected → ⊥) →
      (number : ℕ) × (address : ℕ) × StopsIn state.phase number × (reply_answer kind state image read bytes ≡ Ok (Stopped number address (ended state number)))
  unfolding reply_answer replied_to compared ask
  halts place expected f r w l other = go (differs place bytes expected) refl
    where
      go : (d : Option ℕ) → differs place bytes expected ≡ d → (number : ℕ) × (address : ℕ) × StopsIn state.phase number × (reply_answer kind state image read bytes ≡ Ok (Stopped number address (ended state number)))
      go None h = absurd (other (none_same place bytes expected l h))
      go (Some address) h = (stop_of state.phase, address, look_phase place expected f r w, rw (f, r, w, for_asked read (length expected) read (length bytes) refl l, h) refl)

  -- and the reply that the order asks for moves the run on.
  replied_moves : (o : Order) → Replies o reply_kind bytes → replied_to o state reply_kind bytes ≡ Ok (Next (after state))
  unfolding replied_to Replies compared ask
  replied_moves (erase place count) q = rw (for_asked done 0 reply_kind (length bytes) q.0 (ap length q.1)) refl
  replied_moves (program place contents) q = rw (for_asked done 0 reply_kind (length bytes) q.0 (ap length q.1)) refl
  replied_moves (look place expected) q =
      rw (for_asked read (length expected) reply_kind (length bytes) q.0 (ap length q.1))
      (ap (λ (d : Option ℕ). compared d state) (ap (λ (b : List ℕ). differs place b expected) q.1 ∙ differs_none place expected))

  pub moves : fits state (length image) ≡ true → running state ≡ true → Replies (current_order kind state image) reply_kind bytes → reply_answer kind state image reply_kind bytes ≡ Ok (Next (after state))
  unfolding reply_answer ask
  moves f r q = rw (f, r) (replied_moves (current_order kind state image) q)
