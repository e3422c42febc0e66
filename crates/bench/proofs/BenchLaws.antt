-- The bench: the state and the chip after so many orders, and what the cut order may leave.
use Prim.Native.Nat.{ℕ, suc, ◌+◌, ◌-◌, ◌*◌, ◌<◌, ◌≤◌, min}
use mathlib.Core.Path.{◌≡◌, refl, sym, ap, ap₂, subst, ◌∙◌}
use mathlib.Core.Bool.{Bool, true, false}
use mathlib.Core.Logic.{◌⊎◌, inl, inr, ⊎_elim}
use mathlib.Core.List.{List}
use native.Mathlib.Omega.{arith}
use lib.ListN.{length, take, drop, length-take, drop_of_length-le}
use lib.Seq.{ext_get_or}
use Rattle.std.specs.Prelude.{Result, Ok, Err}
use Rattle.base.specs.Refusal.{refused}
use Rattle.base.specs.Question.{ask}
use Rattle.kind.specs.Layout.{chip_length_allowed, image_length_allowed, page, segment, switch_at, update_place_allowed, update_length_allowed, ask_layout}
use Rattle.bootreader.specs.Image.{alone_case}
use Rattle.bench.specs.Types.{Reason, BadChipLength, BadUpdatePlace, BadUpdateLength, BadImageLength, Refusal, Outcome, Loaded, OutcomeIprog, Stuck, Layout, State, Operation, Erase, Program, Look}
use Rattle.kind.proofs.Laws.{chip_length_range, update_place_range}
use Rattle.flash.specs.Flash.{erased, span, overwrite_in_range, cleared, after_program}
use Rattle.kind.specs.Kind.{Kind}
use Rattle.kind.specs.Spi.{spi, spi_on}
use Rattle.chip.proofs.Laws.{spi_lawful}
use Rattle.flash.proofs.Laws.{span_at, span_length, in_range, erased_length, erased_at}
use Rattle.orders.specs.Table.{by_phase, count, count_before, total}
use Rattle.orders.specs.Orders.{Order, erase, program, look, page_of, order_of, orders, operation_of}
use Rattle.updater.specs.State.{position, first, running, fits, current_order}
use Rattle.effects.specs.Effects.{order_place, obeyed_span, leaves, obeyed_all, order_length}
use Rattle.starts.specs.Starts.{ask_run, start_answer}
use Rattle.effects.specs.Progress.{chip_after, state_after, state_at}
use Rattle.bench.specs.Bench.{span_allows, damage_allowed, cut_allowed, cut_in}
use Rattle.orders.proofs.Laws.{phases, orders_length}
use Rattle.updater.proofs.Laws.{fits_says, running_says, first_fits, index_at, current_order_law, orders_left}
use Rattle.effects.proofs.Laws.{Blank, order_within, span_size, Reaches, reached, chip_all, chip_length_law, chip_blank, current_within, numbers_at}
use Rattle.base.proofs.Laws.{below_or_not}
use Rattle.bench.proofs.MixtureLaws.{allows_enough, allows_elsewhere, allows_swap}

-- QUESTION 10 as it can be asked before the run: the bytes that are not FF are the chip's own in the erase of segment 0, and ON in the program of the switch word.
unfoldable pub asks_of : Operation → List ℕ → List ℕ → Bool
asks_of (Erase place count) chip damage = span_allows place (span chip place count) (erased count) damage
asks_of (Program place count) chip damage = span_allows place spi_on (erased count) damage
asks_of (Look place count) chip damage = true

module _ (layout : Layout) (image chip damage : List ℕ) (fit : fits (first layout (length image)) (length image) ≡ true) (long : layout.chip_length ≡ length chip) where
  -- the chip before order i of a phase
  abbrev chip_at : ℕ → ℕ → List ℕ
  chip_at phase i = chip_after spi layout image (count_before layout (length image) phase + i) chip

  -- Before the program of the switch word its four bytes are FF, and it then leaves ON.
  switch_blank : (i : ℕ) → i < count layout (length image) 5 → span (chip_at 5 i) switch_at 4 ≡ erased 4
  unfolding count_before count by_phase
  switch_blank i h =
      let n = (fits_says (first layout (length image)) (length image) fit).numbers in
      let l = chip_length_range layout.chip_length n.long in
      let m : ℕ = count_before layout (length image) 5 + i in
      let q : suc (m - 1) ≡ m = omega arith in
      let b : Blank (chip_at 5 i) = rw q at (chip_blank spi spi_lawful layout image chip fit long (m - 1) (omega arith)) in
      let e : length (chip_at 5 i) ≡ length chip = chip_length_law spi spi_lawful layout image chip fit long m (omega arith) in
      let f : length (span (chip_at 5 i) switch_at 4) ≡ 4 = span_length (chip_at 5 i) switch_at 4 (omega (arith, long)) in
      ext_get_or 0 (span (chip_at 5 i) switch_at 4) (erased 4) f
      (λ j k. span_at (chip_at 5 i) switch_at 4 j (omega arith) ∙ b (switch_at + j) (omega arith) ∙ sym (erased_at 4 j (omega arith)))

  program_leaves : (i : ℕ) → i < count layout (length image) 5 → after_program (chip_at 5 i) switch_at spi_on ≡ spi_on
  unfolding cleared
  program_leaves i h = ap (λ (l : List ℕ). cleared l spi_on) (switch_blank i h)

  asked_of : (phase : ℕ) → phase < 7 → (i : ℕ) → i < count layout (length image) phase → damage_allowed (order_of spi layout image phase i) (chip_at phase i) damage ≡ asks_of (operation_of (order_of spi layout image phase i)) chip damage
  unfolding order_of by_phase count count_before damage_allowed order_place order_length obeyed_span asks_of operation_of obeyed_all
  asked_of =
      let n = (fits_says (first layout (length image)) (length image) fit).numbers in
      let u = update_place_range layout.chip_length layout.update_place n.starts in
      phases (λ (phase : ℕ). (i : ℕ) → i < count layout (length image) phase → damage_allowed (order_of spi layout image phase i) (chip_at phase i) damage ≡ asks_of (operation_of (order_of spi layout image phase i)) chip damage)
      (λ i h.
      let z : 0 + i ≡ 0 = omega arith in
      ap₂ (λ (k n : ℕ). span_allows 0 (span (chip_after spi layout image k chip) 0 n) (erased segment) damage) z (erased_length segment))
      (λ i h. refl)
      (λ i h. allows_elsewhere (layout.update_place + segment * i) _ (erased segment) _ (erased segment) damage (omega arith) refl)
      (λ i h.
      let place = layout.update_place + page * i in
      let w = order_within spi spi_lawful layout image n 3 (omega arith) i h in
      let b : count_before layout (length image) 3 + i ≤ total layout (length image) = omega arith in
      let l = chip_length_law spi spi_lawful layout image chip fit long (count_before layout (length image) 3 + i) b in
      let size : length (after_program (chip_at 3 i) place (page_of image i)) ≡ length (page_of image i) = span_size (program place (page_of image i)) (chip_at 3 i) (omega (arith, long)) in
      allows_elsewhere place _ (after_program (chip_at 3 i) place (page_of image i)) _ (erased (length (page_of image i))) damage (omega arith) (size ∙ sym (erased_length (length (page_of image i)))))
      (λ i h. refl)
      (λ i h.
      ap (λ (l : List ℕ). span_allows switch_at (span (chip_at 5 i) switch_at (length l)) l damage) (program_leaves i h)
      ∙ ap (λ (l : List ℕ). span_allows switch_at l spi_on damage) (switch_blank i h)
      ∙ allows_swap switch_at (erased 4) spi_on damage (omega arith) refl)
      (λ i h. refl)

-- What it leaves when the order is cut,
unfoldable pub left_by : Operation → List ℕ → List ℕ → List ℕ
left_by (Erase place count) damage chip = overwrite_in_range chip place (length (take count damage)) (take count damage)
left_by (Program place count) damage chip = overwrite_in_range chip place (length (take count damage)) (take count damage)
left_by (Look place count) damage chip = chip

-- is the damage in the order's span;
pub cut_left : (o : Order) (chip damage : List ℕ) → order_place o + order_length o ≤ length chip → leaves o chip (take (length (obeyed_span o chip)) damage) ≡ left_by (operation_of o) damage chip
unfolding order_place order_length obeyed_span leaves operation_of left_by
cut_left (erase place count) chip damage h =
    let t = length-take count damage in
    rw (span_size (erase place count) chip h) (sym (in_range chip place (length (take count damage)) (take count damage) (omega arith)))
cut_left (program place bytes) chip damage h =
    let t = length-take (length bytes) damage in
    rw (span_size (program place bytes) chip h) (sym (in_range chip place (length (take (length bytes) damage)) (take (length bytes) damage) (omega arith)))
cut_left (look place bytes) chip damage h = refl

-- of that there is enough.
unfoldable pub Enough : Operation → List ℕ → Type 0
Enough (Erase place count) damage = count ≤ length damage
Enough (Program place count) damage = count ≤ length damage
Enough (Look place count) damage = Unit {0}

pub damage_enough : (o : Order) (chip damage : List ℕ) → order_place o + order_length o ≤ length chip → damage_allowed o chip damage ≡ true → Enough (operation_of o) damage
unfolding order_place order_length obeyed_span operation_of damage_allowed Enough
damage_enough (erase place count) chip damage h e = let n = span_size (erase place count) chip h in let l = allows_enough _ _ _ _ e in omega arith
damage_enough (program place bytes) chip damage h e = let n = span_size (program place bytes) chip h in let l = allows_enough _ _ _ _ e in omega arith
damage_enough (look place bytes) chip damage h e = tt

-- In segment 0 only ON is programmed.
unfoldable pub LowIsOn : Operation → Type 0
LowIsOn (Erase place count) = Unit {0}
LowIsOn (Program place count) = place < segment → length spi_on ≡ count
LowIsOn (Look place count) = Unit {0}

low_is_on : (layout : Layout) (image : List ℕ) → update_place_allowed layout.chip_length layout.update_place ≡ true → (phase : ℕ) → phase < 7 → (i : ℕ) → LowIsOn (operation_of (order_of spi layout image phase i))
unfolding order_of by_phase operation_of LowIsOn
low_is_on layout image starts =
    let u = update_place_range layout.chip_length layout.update_place starts in
    phases (λ (phase : ℕ). (i : ℕ) → LowIsOn (operation_of (order_of spi layout image phase i)))
    (λ i. tt)
    (λ i. tt)
    (λ i. tt)
    (λ i low. absurd (omega arith))
    (λ i. tt)
    (λ i low. refl)
    (λ i. tt)

-- THE CURRENT ORDER of a state, on a chip of the run's length.
module _ (state : State) (image : List ℕ) (fit : fits state (length image) ≡ true) where
  pub current_low : running state ≡ true → (operation : Operation) → operation_of (current_order spi state image) ≡ operation → LowIsOn operation
  current_low r operation e =
      subst LowIsOn (sym (ap operation_of (current_order_law spi state image fit r)) ∙ e)
      (low_is_on state.layout image (numbers_at state image fit).starts state.phase (running_says state (length image) fit r).0 state.index)

  -- Question 10 asks of it,
  pub current_asked : running state ≡ true → (chip damage : List ℕ) → state.layout.chip_length ≡ length chip →
      cut_allowed (drop (position state) (orders spi state.layout image)) (chip_after spi state.layout image (position state) chip) damage ≡ asks_of (operation_of (current_order spi state image)) chip damage
  unfolding cut_allowed
  current_asked r chip damage long =
      let n = (fits_says state (length image) fit).same in
      let o = current_order_law spi state image fit r in
      ap (λ (l : List Order). cut_allowed l (chip_after spi state.layout image (position state) chip) damage) (orders_left spi state image fit r)
      ∙ ap₂ (λ (x : Order) (k : ℕ). damage_allowed x (chip_after spi state.layout image (count_before state.layout k state.phase + state.index) chip) damage) o n
      ∙ asked_of state.layout image chip damage (first_fits state.layout (length image) (numbers_at state image fit)) long state.phase (running_says state (length image) fit r).0 state.index (index_at state image fit r)
      ∙ ap (λ (x : Order). asks_of (operation_of x) chip damage) (sym o)

  -- The code leaves the damage where it is cut.
  pub current_left : running state ≡ true → (chip damage : List ℕ) → state.layout.chip_length ≡ length chip → (operation : Operation) → operation_of (current_order spi state image) ≡ operation →
      left_by operation damage chip ≡ cut_in (drop (position state) (orders spi state.layout image)) chip damage
  unfolding cut_in
  current_left r chip damage long operation e =
      let w = current_within state image fit r in
      sym
      (ap (λ (l : List Order). cut_in l chip damage) (orders_left spi state image fit r)
      ∙ cut_left (current_order spi state image) chip damage (omega (arith, long))
      ∙ ap (λ (o : Operation). left_by o damage chip) e)

  pub current_enough : running state ≡ true → (chip damage : List ℕ) → state.layout.chip_length ≡ length chip → cut_allowed (drop (position state) (orders spi state.layout image)) chip damage ≡ true →
      (operation : Operation) → operation_of (current_order spi state image) ≡ operation → Enough operation damage
  unfolding cut_allowed
  current_enough r chip damage long yes_said operation e =
      let w = current_within state image fit r in
      subst (λ (o : Operation). Enough o damage) e
      (damage_enough (current_order spi state image) chip damage (omega (arith, long)) (sym (ap (λ (l : List Order). cut_allowed l chip damage) (orders_left spi state image fit r)) ∙ yes_said))

-- THE CUT: a state that stands for a run of so many orders, at most all of them. It fits and has the run's layout; the orders left are those from its position on, and the chip is the one before them.
pub record CutAt (begun : State) (image : List ℕ) (cut : ℕ) (state : State) : Type 0 where
  pub is : state ≡ state_at begun.layout image cut
  pub fit : fits state (length image) ≡ true
  pub same : state.layout ≡ begun.layout
  pub left : drop (position state) (orders spi state.layout image) ≡ drop cut (orders spi begun.layout image)
  pub chip : (chip : List ℕ) → chip_after spi state.layout image (position state) chip ≡ chip_after spi begun.layout image cut chip
  pub long : (chip : List ℕ) → begun.layout.chip_length ≡ length chip → length (chip_after spi begun.layout image cut chip) ≡ length chip

pub cut_at : (begun : State) (image : List ℕ) (cut : ℕ) (state : State) → begun ≡ first begun.layout (length image) → fits begun (length image) ≡ true →
    state ≡ state_after (min cut (total begun.layout (length image))) begun → CutAt begun image cut state
cut_at begun image cut state opens fit comes = record {
  is = reaches.is;
  fit = reaches.fit;
  same = reaches.same;
  left = ap₂ (λ (l : Layout) (k : ℕ). drop k (orders spi l image)) reaches.same reaches.at ∙ ⊎_elim (ap (λ (k : ℕ). drop k (orders spi begun.layout image))) none which;
  chip = λ chip. ap₂ (λ (l : Layout) (k : ℕ). chip_after spi l image k chip) reaches.same reaches.at ∙ to_cut chip;
  long = λ chip long. ap (λ (l : List ℕ). length l) (sym (to_cut chip)) ∙ chip_length_law spi spi_lawful begun.layout image chip first_fit long k (omega arith);
}
  where
    k : ℕ
    k = min cut (total begun.layout (length image))

    first_fit : fits (first begun.layout (length image)) (length image) ≡ true
    first_fit = subst (λ (s : State). fits s (length image) ≡ true) opens fit

    reaches : Reaches begun.layout (length image) k state
    reaches =
        subst (Reaches begun.layout (length image) k)
        (sym (comes ∙ ap (λ (s : State). state_after k s) opens))
        (reached begun.layout (length image) first_fit k (omega arith))

    which : (k ≡ cut) ⊎ ((k ≡ total begun.layout (length image)) × (k ≤ cut))
    which = ⊎_elim (λ l. inl (omega arith)) (λ l. inr (omega arith, omega arith)) (below_or_not cut (total begun.layout (length image)))

    none : (k ≡ total begun.layout (length image)) × (k ≤ cut) → drop k (orders spi begun.layout image) ≡ drop cut (orders spi begun.layout image)
    none e =
        let n = orders_length spi begun.layout image in
        drop_of_length-le (orders spi begun.layout image) {i = k} (omega arith) ∙ sym (drop_of_length-le (orders spi begun.layout image) {i = cut} (omega arith))

    to_cut : (chip : List ℕ) → chip_after spi begun.layout image k chip ≡ chip_after spi begun.layout image cut chip
    to_cut chip = ⊎_elim (ap (λ (i : ℕ). chip_after spi begun.layout image i chip)) (λ e. chip_all spi begun.layout image chip k cut e.0 e.1) which

-- THE START. What a start's answer comes to for one who asks more,
unfoldable pub on_start {ℓ} : {A : Type ℓ} → (Reason → ℕ → A) → A → Result State Refusal → A
on_start refuse rest (Ok state) = rest
on_start refuse rest (Err r) = refuse r.reason r.place

-- and whatever is asked of a run goes by it.
pub by_start {ℓ} : {A : Type ℓ} (kind : Kind) (refuse : Reason → ℕ → A) (rest : A) (layout : Layout) (image : List ℕ) → on_start refuse rest (start_answer kind layout image) ≡ ask_run kind refuse layout image rest
unfolding start_answer ask_run ask_layout ask alone_case on_start
by_start kind refuse rest layout image =
    go (chip_length_allowed layout.chip_length) (update_place_allowed layout.chip_length layout.update_place) (update_length_allowed layout.chip_length layout.update_place layout.update_length) (image_length_allowed layout.update_length (length image)) (kind.alone image)
  where
    begun : Result State Refusal
    begun = Ok (first layout (length image))

    read : (o : Outcome) → on_start refuse rest (alone_case refused (λ sync end writes. begun) o) ≡ alone_case refuse (λ sync end writes. rest) o
    read (Loaded sync end writes jumped) = refl
    read (OutcomeIprog place) = refl
    read (Stuck place) = refl

    go : (a b c d : Bool) (o : Outcome) →
        on_start refuse rest (ask a (refused BadChipLength 0) (ask b (refused BadUpdatePlace 0) (ask c (refused BadUpdateLength 0) (ask d (refused BadImageLength 0) (alone_case refused (λ sync end writes. begun) o)))))
        ≡ ask a (refuse BadChipLength 0) (ask b (refuse BadUpdatePlace 0) (ask c (refuse BadUpdateLength 0) (ask d (refuse BadImageLength 0) (alone_case refuse (λ sync end writes. rest) o))))
    go true true true true o = read o
    go true true true false o = refl
    go true true false d o = refl
    go true false c d o = refl
    go false b c d o = refl
