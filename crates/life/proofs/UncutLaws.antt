-- A run on a chip that obeys, as events. Uncut it keeps the premises, ends in phase 7 with outcome 0, and leaves the switch ON, its own image being the ordered one; cut, it leaves what the bench leaves. Of any kind.
use Prim.Native.Nat.{ℕ, zero, suc, ◌+◌, ◌<◌, ◌≤◌}
use mathlib.Core.Path.{◌≡◌, refl, sym, ap, ap₂, subst, ◌∙◌}
use mathlib.Core.Logic.{⊎_elim}
use mathlib.Core.Bool.{Bool, true, false}
use Rattle.std.specs.Prelude.{Option, Some, Result, Ok}
use mathlib.Core.List.{List, [], ◌∷◌, ◌++◌, append-nil}
use native.Mathlib.Omega.{arith}
use borrow.Author.Tests.{ltb-false, eqb-false}
use lib.Dec.{eqb}
use lib.ListN.{length, drop, take, length-drop, drop_of_length-le}
use lib.Seq.{take_all}
use Rattle.kind.specs.Kind.{Kind}
use Rattle.chip.specs.Chip.{LoadsAlone, Lawful}
use Rattle.life.specs.Types.{Refusal, Layout, State, Reply, Next, RefusedReply}
use Rattle.orders.specs.Table.{by_phase, count, count_before, total}
use Rattle.orders.specs.Orders.{Order, erase, program, look, order_of, orders}
use Rattle.updater.specs.State.{position, first, after, ended, running, fits, current_order}
use Rattle.effects.specs.Effects.{order_place, obeyed_span, obeyed, obeyed_all, order_length, Bytes}
use Rattle.starts.specs.Starts.{start_answer}
use Rattle.updater.specs.Run.{reply_answer}
use Rattle.bench.specs.Bench.{cut_allowed, cut_in}
use Rattle.life.specs.BenchLife.{cut_events, bench_events}
use Rattle.life.specs.Life.{Run, World, Event, starts, carries, replies, after_start, ordered_image, carry_out, after_reply, on_run, next, AdmissibleStart, TrueRead, AdmissibleReply, Admissible, Valid, life, is_on, reply_kind_of, bytes_read, obeying, uncut}
use Rattle.updater.proofs.Laws.{Numbers, running_says, after_index, after_phase, last_or_not, after_fits, after_position, position_running, first_fits, current_order_law, orders_left, orders_ended}
use Rattle.starts.proofs.Laws.{starts as start_accepted}
use Rattle.life.proofs.ReplyLaws.{moves}
use Rattle.life.proofs.ObeyLaws.{Obeys}
use Rattle.effects.specs.Progress.{state_after}
use Rattle.effects.proofs.Laws.{order_within}
use Rattle.orders.proofs.Laws.{orders_length}
use Rattle.life.proofs.DamageLaws.{damage_may}
use Rattle.life.proofs.ProgressLaws.{Progress, Advances, Step, advances, ends_on}

-- A list of events that keeps the premises and leads to a world of which something holds.
pub record Leads (kind : Kind) (update_place : ℕ) (goal : World → Type 0) (w : World) (events : List Event) : Type 0 where
  pub valid : Valid kind update_place w events
  pub reached : goal (life kind w events)

-- one event before
pub event_first : (kind : Kind) (update_place : ℕ) (goal : World → Type 0) (w : World) (event : Event) (events : List Event) →
    Admissible kind update_place w event → Leads kind update_place goal (next kind w event) events → Leads kind update_place goal w (event ∷ events)
unfolding Valid life
event_first kind update_place goal w event events may l = record { valid = (may, l.valid); reached = l.reached }

-- A run that has ended well: the switch is ON, and the image is the ordered one.
pub record Finished (kind : Kind) (layout : Layout) (image : List ℕ) (w : World) : Type 0 where
  pub state : w.run ≡ Some (record { state = ended (first layout (length image)) 0; image = image; carried = false })
  pub on : is_on kind w ≡ true
  pub ordered : w.image ≡ Some image

-- What a look reads is true.
reads_true : (order : Order) (chip : List ℕ) → TrueRead order chip (bytes_read order chip)
unfolding TrueRead bytes_read
reads_true (erase place count) chip = tt
reads_true (program place bytes) chip = tt
reads_true (look place bytes) chip = refl

-- From phase 5's order on the run's image is the ordered one.
orders_image : (phase : ℕ) (image : List ℕ) (last : Option (List ℕ)) → (5 < phase → last ≡ Some image) → 5 ≤ phase → ordered_image (eqb phase 5) image last ≡ Some image
unfolding ordered_image
orders_image phase image last known h = go (eqb phase 5) refl
  where
    go : (b : Bool) → eqb phase 5 ≡ b → ordered_image b image last ≡ Some image
    go true e = refl
    go false e = known (let n = eqb-false phase 5 e in omega arith)

module _ (kind : Kind) (lawful : Lawful kind) (update_place : ℕ) (layout : Layout) (image : List ℕ) (numbers : Numbers layout (length image)) (alone : LoadsAlone kind image) (bytes : Bytes image) where
  -- the run's state at a phase's index, its order, and a world in which the run is open
  abbrev at : ℕ → ℕ → State
  at phase i = record { layout = layout; image_length = length image; phase = phase; index = i; outcome = 0 }

  abbrev order : ℕ → ℕ → Order
  order phase i = current_order kind (at phase i) image

  abbrev world : List ℕ → State → Bool → ℕ → Bool → Option (List ℕ) → World
  world chip state carried looks ordered last = record { chip = chip; run = Some (record { state = state; image = image; carried = carried }); looks = looks; ordered = ordered; image = last }

  abbrev Ends : World → List Event → Type 0
  Ends w events = Leads kind update_place (Finished kind layout image) w events

  -- How far a run has come: its state fits, its chip is as far, and from phase 6 on its image is the ordered one.
  record Reached (phase i : ℕ) (chip : List ℕ) (last : Option (List ℕ)) : Type 0 where
    fitted : fits (at phase i) (length image) ≡ true
    stop : 7 ≤ phase → (phase ≡ 7) × (i ≡ 0)
    long : length chip ≡ layout.chip_length
    progress : Progress kind layout image phase i chip
    known : 5 < phase → last ≡ Some image

  -- one order further
  record Further (phase i : ℕ) (chip : List ℕ) (last : Option (List ℕ)) : Type 0 where
    then_phase : ℕ
    then_index : ℕ
    comes : after (at phase i) ≡ at then_phase then_index
    reached : Reached then_phase then_index chip last

  begins : (w : World) → layout.chip_length ≡ length w.chip → Reached 0 0 w.chip w.image
  unfolding Progress by_phase
  begins w l = record { fitted = first_fits layout (length image) numbers; stop = λ h. absurd (omega arith); long = sym l; progress = tt; known = λ h. absurd (omega arith) }

  -- A run that has ended has finished.
  finished : (chip : List ℕ) (looks : ℕ) (ordered : Bool) (last : Option (List ℕ)) → Reached 7 0 chip last → Ends (world chip (at 7 0) false looks ordered last) []
  unfolding Valid life
  finished chip looks ordered last reached = record {
    valid = tt;
    reached = record { state = refl; on = ends_on kind lawful layout image numbers bytes chip reached.long reached.progress; ordered = reached.known (omega arith) };
  }

  ended_finished : (phase i : ℕ) (chip : List ℕ) (looks : ℕ) (ordered : Bool) (last : Option (List ℕ)) → Reached phase i chip last → phase ≡ 7 → i ≡ 0 →
      Ends (world chip (at phase i) false looks ordered last) []
  ended_finished phase i chip looks ordered last reached p z =
      subst (λ (q : ℕ). Reached q i chip last → Ends (world chip (at q i) false looks ordered last) []) (sym p)
      (subst (λ (j : ℕ). Reached 7 j chip last → Ends (world chip (at 7 j) false looks ordered last) []) (sym z) (finished chip looks ordered last))
      reached

  -- Before its end the current order advances the chip, and so the run comes further.
  module _ (phase i : ℕ) (chip : List ℕ) (last : Option (List ℕ)) (reached : Reached phase i chip last) (runs : running (at phase i) ≡ true) where
    -- chip and ordered image afterwards
    abbrev then_chip : List ℕ
    then_chip = obeyed (order phase i) chip

    abbrev then_image : Option (List ℕ)
    then_image = ordered_image (eqb phase 5) image last

    says : (phase < 7) × (i < count layout (length image) phase)
    says = let s = running_says (at phase i) (length image) reached.fitted runs in (s.0, s.1)

    advance : Advances kind layout image phase i chip
    unfolding Step
    advance = advances kind lawful layout image numbers bytes phase says.0 i says.1 chip reached.long reached.progress

    is_order : order phase i ≡ order_of kind layout image phase i
    is_order = current_order_law kind (at phase i) image reached.fitted runs

    obeys : Obeys (order phase i) chip
    obeys = subst (λ (o : Order). Obeys o chip) (sym is_order) advance.obeys

    -- the state that the reply hands back
    further_at : (then_phase then_index : ℕ) → after (at phase i) ≡ at then_phase then_index → then_phase ≤ phase + 1 → (7 ≤ then_phase → (then_phase ≡ 7) × (then_index ≡ 0)) →
        Progress kind layout image then_phase then_index (obeyed (order_of kind layout image phase i) chip) → Further phase i then_chip then_image
    further_at then_phase then_index comes next_or_same stop progress = record {
      then_phase = then_phase;
      then_index = then_index;
      comes = comes;
      reached = record {
        fitted = subst (λ (s : State). fits s (length image) ≡ true) comes (after_fits (at phase i) (length image) reached.fitted runs);
        stop = stop;
        long = obeys.long ∙ reached.long;
        progress = subst (λ (o : Order). Progress kind layout image then_phase then_index (obeyed o chip)) (sym is_order) progress;
        known = λ h. orders_image phase image last reached.known (omega arith);
      };
    }

    further : Further phase i then_chip then_image
    further =
        let s = says in
        ⊎_elim
        (λ h. further_at phase (i + 1) (after_index (at phase i) h) (omega arith) (λ m. absurd (omega arith)) (advance.further h))
        (λ h. further_at (phase + 1) 0 (after_phase (at phase i) h) (omega arith) (λ m. (omega arith, refl)) (advance.last h))
        (last_or_not (at phase i))

    moved : reply_answer kind (at phase i) image (reply_kind_of (order phase i)) (bytes_read (order phase i) then_chip) ≡ Ok (Next (after (at phase i)))
    moved = moves kind (at phase i) image (reply_kind_of (order phase i)) (bytes_read (order phase i) then_chip) reached.fitted runs obeys.replied

    -- Its order, obeyed, and its true reply move the run on.
    order_first : (goal : World → Type 0) (looks : ℕ) (ordered : Bool) (events : List Event) →
        ((looks : ℕ) (ordered : Bool) → Leads kind update_place goal (world then_chip (after (at phase i)) false looks ordered then_image) events) →
        Leads kind update_place goal (world chip (at phase i) false looks ordered last)
        (carries (obeyed_span (order phase i) chip) ∷ replies image (reply_kind_of (order phase i)) (bytes_read (order phase i) then_chip) ∷ events)
    unfolding Admissible next on_run carry_out after_reply AdmissibleReply
    order_first goal looks ordered events rest =
        event_first kind update_place goal _ _ _
        (record { asked = runs; once = refl; leaves = obeys.may })
        (event_first kind update_place goal _ _ _
        (subst (λ (a : Result Reply RefusedReply). AdmissibleReply a kind image read carried done) (sym moved) (record { carried = refl; same = refl; reads = reads_true (order phase i) then_chip }))
        (subst (λ (a : Result Reply RefusedReply). Leads kind update_place goal (after_reply a carried done) events) (sym moved) (rest done.looks done.ordered)))
      where
        read : List ℕ
        read = bytes_read (order phase i) then_chip

        carried : Run
        carried = record { state = at phase i; image = image; carried = true }

        done : World
        done = carry_out (order phase i) (obeyed_span (order phase i) chip) (record { state = at phase i; image = image; carried = false }) (world chip (at phase i) false looks ordered last)

  -- WHERE SOME OF THE ORDERS LEFT LEAD: k of them, or all, each obeyed and with its true reply.
  record Came (k : ℕ) (left : List Order) (from : State) (chip : List ℕ) (last : Option (List ℕ)) (phase i : ℕ) : Type 0 where
    reached : Reached phase i chip last
    state : at phase i ≡ state_after (length (take k left)) from
    rest : drop k left ≡ drop (position (at phase i)) (orders kind layout image)

  -- What leads on from there leads on from before those orders.
  abbrev LeadsOn : ℕ → List Order → State → List ℕ → Option (List ℕ) → Type 1
  LeadsOn k left from chip last =
      (goal : World → Type 0) (events : List Event) →
      ((phase i looks : ℕ) (ordered : Bool) (image : Option (List ℕ)) → Came k left from (obeyed_all (take k left) chip) image phase i → Leads kind update_place goal (world (obeyed_all (take k left) chip) (at phase i) false looks ordered image) events) →
      (looks : ℕ) (ordered : Bool) → Leads kind update_place goal (world chip from false looks ordered last) (obeying image (take k left) chip ++ events)

  leads_on : (k phase i : ℕ) (chip : List ℕ) (last : Option (List ℕ)) → Reached phase i chip last → LeadsOn k (drop (position (at phase i)) (orders kind layout image)) (at phase i) chip last
  unfolding obeying obeyed_all state_after
  leads_on zero phase i chip last reached = λ goal events on_from looks ordered. on_from phase i looks ordered last (record { reached = reached; state = refl; rest = refl })
  leads_on (suc k) phase i chip last reached = go (running (at phase i)) refl (λ chip last p j r. leads_on k p j chip last r)
    where
      go : (b : Bool) → running (at phase i) ≡ b →
          ((chip : List ℕ) (last : Option (List ℕ)) (p j : ℕ) → Reached p j chip last → LeadsOn k (drop (position (at p j)) (orders kind layout image)) (at p j) chip last) →
          LeadsOn (suc k) (drop (position (at phase i)) (orders kind layout image)) (at phase i) chip last
      go true r on = subst (λ (left : List Order). LeadsOn (suc k) left (at phase i) chip last) (sym (orders_left kind (at phase i) image reached.fitted r)) one_more
        where
          f : Further phase i (obeyed (order phase i) chip) (ordered_image (eqb phase 5) image last)
          f = further phase i chip last reached r

          more : List Order
          more = drop (position (at phase i) + 1) (orders kind layout image)

          here : LeadsOn k more (at f.then_phase f.then_index) (obeyed (order phase i) chip) (ordered_image (eqb phase 5) image last)
          here =
              subst (λ (n : ℕ). LeadsOn k (drop n (orders kind layout image)) (at f.then_phase f.then_index) (obeyed (order phase i) chip) (ordered_image (eqb phase 5) image last))
              (ap position (sym f.comes) ∙ after_position (at phase i) (length image) reached.fitted r)
              (on (obeyed (order phase i) chip) (ordered_image (eqb phase 5) image last) f.then_phase f.then_index f.reached)

          one_more : LeadsOn (suc k) (order phase i ∷ more) (at phase i) chip last
          one_more goal events on_from looks ordered =
              order_first phase i chip last reached r goal looks ordered (obeying image (take k more) (obeyed (order phase i) chip) ++ events)
              (λ looks ordered.
              subst (λ (s : State). Leads kind update_place goal (world (obeyed (order phase i) chip) s false looks ordered (ordered_image (eqb phase 5) image last)) (obeying image (take k more) (obeyed (order phase i) chip) ++ events)) (sym f.comes)
              (here goal events
              (λ p j looks ordered later c.
              on_from p j looks ordered later (record { reached = c.reached; state = c.state ∙ ap (state_after (length (take k more))) (sym f.comes); rest = c.rest }))
              looks ordered))
      go false r on =
          subst (λ (left : List Order). LeadsOn (suc k) left (at phase i) chip last) (sym (orders_ended kind (at phase i) image reached.fitted r))
          (λ goal events on_from looks ordered. on_from phase i looks ordered last (record { reached = reached; state = refl; rest = sym (orders_ended kind (at phase i) image reached.fitted r) }))

  -- its start before
  start_first : (goal : World → Type 0) (w : World) (events : List Event) → layout.chip_length ≡ length w.chip → layout.update_place ≡ update_place →
      Leads kind update_place goal (world w.chip (at 0 0) false 0 false w.image) events → Leads kind update_place goal w (starts layout image ∷ events)
  unfolding Admissible AdmissibleStart next after_start
  start_first goal w events l u run =
      event_first kind update_place goal w (starts layout image) events
      (subst (λ (a : Result State Refusal). AdmissibleStart a update_place layout w) (sym accepted) (l, u))
      (subst (λ (a : Result State Refusal). Leads kind update_place goal (after_start a image w) events) (sym accepted) run)
    where
      accepted : start_answer kind layout image ≡ Ok (first layout (length image))
      accepted = start_accepted kind layout image numbers alone

  -- A RUN on a chip that obeys: its start, k of its orders, or all, and what leads on from there.
  run_leads : (k : ℕ) (w : World) → layout.chip_length ≡ length w.chip → layout.update_place ≡ update_place → (goal : World → Type 0) (events : List Event) →
      ((phase i looks : ℕ) (ordered : Bool) (last : Option (List ℕ)) → Came k (orders kind layout image) (first layout (length image)) (obeyed_all (take k (orders kind layout image)) w.chip) last phase i →
      Leads kind update_place goal (world (obeyed_all (take k (orders kind layout image)) w.chip) (at phase i) false looks ordered last) events) →
      Leads kind update_place goal w (starts layout image ∷ (obeying image (take k (orders kind layout image)) w.chip ++ events))
  unfolding count_before
  run_leads k w l u goal events on_from =
      start_first goal w (obeying image (take k (orders kind layout image)) w.chip ++ events) l u
      (leads_on k 0 0 w.chip w.image (begins w l) goal events on_from 0 false)

  -- Its state then is the one after as many orders.
  abbrev AtState : ℕ → World → Type 0
  AtState k w = w.run ≡ Some (record { state = state_after (length (take k (orders kind layout image))) (first layout (length image)); image = image; carried = false })

  pub run_state : (k : ℕ) (w : World) → layout.chip_length ≡ length w.chip → layout.update_place ≡ update_place →
      Leads kind update_place (AtState k) w (starts layout image ∷ (obeying image (take k (orders kind layout image)) w.chip ++ []))
  unfolding Valid life
  run_state k w l u =
      run_leads k w l u (AtState k) []
      (λ phase i looks ordered last c. record { valid = tt; reached = ap (λ (s : State). Some (record { state = s; image = image; carried = false })) c.state })

  -- THE UNCUT RUN has finished.
  all_orders : (k : ℕ) → total layout (length image) ≤ k → take k (orders kind layout image) ≡ orders kind layout image
  all_orders k h = let n = orders_length kind layout image in take_all k (orders kind layout image) (omega arith)

  came_ended : (k phase i : ℕ) (chip : List ℕ) (last : Option (List ℕ)) → total layout (length image) ≤ k → Came k (orders kind layout image) (first layout (length image)) chip last phase i → (phase ≡ 7) × (i ≡ 0)
  came_ended k phase i chip last h c = go (running (at phase i)) refl
    where
      none_left : drop (position (at phase i)) (orders kind layout image) ≡ []
      none_left = let n = orders_length kind layout image in sym c.rest ∙ drop_of_length-le (orders kind layout image) {i = k} (omega arith)

      go : (b : Bool) → running (at phase i) ≡ b → (phase ≡ 7) × (i ≡ 0)
      go false r = c.reached.stop (ltb-false phase 7 r)
      go true r =
          let n = orders_length kind layout image in
          let d = length-drop (position (at phase i)) (orders kind layout image) in
          let z : length (drop (position (at phase i)) (orders kind layout image)) ≡ 0 = ap length none_left in
          let p = position_running (at phase i) (length image) c.reached.fitted r in
          absurd (omega arith)

  pub uncut_run : (w : World) → layout.chip_length ≡ length w.chip → layout.update_place ≡ update_place → Ends w (uncut kind layout image w.chip)
  uncut_run w l u =
      subst (Ends w) (ap (λ (e : List Event). starts layout image ∷ e) (append-nil _ ∙ ap (λ (o : List Order). obeying image o w.chip) (all_orders (total layout (length image)) (omega arith))))
      (run_leads (total layout (length image)) w l u (Finished kind layout image) []
      (λ phase i looks ordered last c.
      let s = came_ended (total layout (length image)) phase i _ last (omega arith) c in
      ended_finished phase i _ looks ordered last c.reached s.0 s.1))

  -- At or above the total its state is the ended one.
  pub run_ended_law : (k : ℕ) → total layout (length image) ≤ k → (w : World) → layout.chip_length ≡ length w.chip → layout.update_place ≡ update_place →
      state_after (length (take k (orders kind layout image))) (first layout (length image)) ≡ ended (first layout (length image)) 0
  unfolding Valid life
  run_ended_law k h w l u =
      (run_leads k w l u (λ later. state_after (length (take k (orders kind layout image))) (first layout (length image)) ≡ ended (first layout (length image)) 0) []
      (λ phase i looks ordered last c.
      let s = came_ended k phase i _ last h c in
      record { valid = tt; reached = sym c.state ∙ ap₂ at s.0 s.1 })
      ).reached

  -- A RUN THAT IS CUT after k orders, as the bench cuts it: the events lead to the chip that the bench leaves.
  module _ (damage : List ℕ) (small : Bytes damage) where
    abbrev Cut : List Order → List ℕ → World → Type 0
    Cut left chip w = w.chip ≡ cut_in left chip damage

    -- in the current order, or after the last
    cut_next : (phase i : ℕ) (chip : List ℕ) (looks : ℕ) (ordered : Bool) (last : Option (List ℕ)) → Reached phase i chip last → (left : List Order) → left ≡ drop (position (at phase i)) (orders kind layout image) →
        cut_allowed left chip damage ≡ true → Leads kind update_place (Cut left chip) (world chip (at phase i) false looks ordered last) (cut_events left chip damage)
    unfolding cut_allowed cut_events Admissible next on_run carry_out cut_in Valid life
    cut_next phase i chip looks ordered last reached left e allowed = go (running (at phase i)) refl
      where
        cut_none : Leads kind update_place (Cut [] chip) (world chip (at phase i) false looks ordered last) (cut_events [] chip damage)
        cut_none = record { valid = tt; reached = refl }

        within_chip : running (at phase i) ≡ true → order_place (order phase i) + order_length (order phase i) ≤ length chip
        within_chip r =
            let s = says phase i chip last reached r in
            let l = reached.long in
            subst (λ (o : Order). order_place o + order_length o ≤ length chip) (sym (is_order phase i chip last reached r))
            (let w = order_within kind lawful layout image numbers phase s.0 i s.1 in omega arith)

        cut_here : running (at phase i) ≡ true → (more : List Order) → cut_allowed (order phase i ∷ more) chip damage ≡ true →
            Leads kind update_place (Cut (order phase i ∷ more) chip) (world chip (at phase i) false looks ordered last) (cut_events (order phase i ∷ more) chip damage)
        cut_here r more spans =
            event_first kind update_place (Cut (order phase i ∷ more) chip) (world chip (at phase i) false looks ordered last) _ _
            (record { asked = r; once = refl; leaves = damage_may (order phase i) chip damage (within_chip r) small spans })
            (record { valid = (tt, tt); reached = refl })

        go : (b : Bool) → running (at phase i) ≡ b → Leads kind update_place (Cut left chip) (world chip (at phase i) false looks ordered last) (cut_events left chip damage)
        go true r =
            let q = e ∙ orders_left kind (at phase i) image reached.fitted r in
            subst (λ (l : List Order). Leads kind update_place (Cut l chip) (world chip (at phase i) false looks ordered last) (cut_events l chip damage)) (sym q)
            (cut_here r (drop (position (at phase i) + 1) (orders kind layout image)) (subst (λ (l : List Order). cut_allowed l chip damage ≡ true) q allowed))
        go false r =
            subst (λ (l : List Order). Leads kind update_place (Cut l chip) (world chip (at phase i) false looks ordered last) (cut_events l chip damage)) (sym (e ∙ orders_ended kind (at phase i) image reached.fitted r)) cut_none

    -- THE RUN THAT IS CUT.
    pub cut_run : (w : World) (k : ℕ) → layout.chip_length ≡ length w.chip → layout.update_place ≡ update_place →
        cut_allowed (drop k (orders kind layout image)) (obeyed_all (take k (orders kind layout image)) w.chip) damage ≡ true →
        Leads kind update_place (Cut (drop k (orders kind layout image)) (obeyed_all (take k (orders kind layout image)) w.chip)) w (starts layout image ∷ bench_events k image (orders kind layout image) w.chip damage)
    cut_run w k l u allowed =
        run_leads k w l u (Cut (drop k (orders kind layout image)) (obeyed_all (take k (orders kind layout image)) w.chip)) (cut_events (drop k (orders kind layout image)) (obeyed_all (take k (orders kind layout image)) w.chip) damage)
        (λ phase i looks ordered last c. cut_next phase i _ looks ordered last c.reached (drop k (orders kind layout image)) c.rest allowed)
