-- The bench: the state and the chip after so many orders, and what the cut order may leave.
use Prim.Native.Nat.{ℕ, zero, suc, ◌+◌, ◌-◌, ◌*◌, ◌<◌, ◌≤◌}
use mathlib.Core.Path.{◌≡◌, refl, sym, ap, ap₂, subst, ◌∙◌}
use mathlib.Core.Bool.{Bool, true, false}
use mathlib.Core.Logic.{◌⊎◌, inl, inr, ⊎_elim}
use mathlib.Core.List.{List, [], ◌∷◌}
use native.Mathlib.Omega.{arith}
use native.Mathlib.Nat.{zero-add}
use lib.ListN.{length, get_or, take}
use lib.Seq.{take_all, take-append_seam}
use Rattle.kind.proofs.Laws.{chip_length_range, update_place_range, update_length_range}
use Rattle.kind.specs.Layout.{page, segment}
use Rattle.flash.specs.Flash.{erased, span, overwrite_in_range, after_program}
use Rattle.kind.specs.Kind.{Kind}
use Rattle.chip.specs.Chip.{Lawful}
use Rattle.kind.specs.Spi.{spi}
use Rattle.effects.specs.Types.{Layout, State, Operation, Erase, Program, Look}
use Rattle.chip.proofs.Laws.{spi_lawful}
use Rattle.flash.proofs.Laws.{span_length, overwrite_length, overwrite_before, overwrite_inside, in_range, erased_length, cleared_length, erased_at}
use Rattle.orders.specs.Table.{by_phase, count, count_before, total}
use Rattle.orders.specs.Orders.{Order, erase, program, look, page_of, order_of, orders, operation_of, programmed, order_bytes}
use Rattle.updater.specs.State.{position, first, after, running, fits, current_order}
use Rattle.effects.specs.Effects.{order_place, obeyed_span, leaves, obeyed, obeyed_all, order_length}
use Rattle.effects.specs.Progress.{chip_after, state_after}
use Rattle.orders.proofs.Laws.{phases, area_segments, before_later, orders_length, page_length}
use Rattle.updater.proofs.Laws.{Numbers, numbers_image, fits_says, running_says, after_index, after_phase, last_or_not, after_fits, after_position, position_running, position_ended, current_order_law, index_at}
use Rattle.effects.proofs.ReachLaws.{in_reach}
use Rattle.base.proofs.Laws.{below_or_not}

-- THE STATE. One order more is the next state.
state_next : (k : ℕ) (state : State) → state_after (suc k) state ≡ after (state_after k state)
unfolding state_after
state_next zero state = refl
state_next (suc k) state = state_next k (after state)

-- It has the same layout.
after_layout : (state : State) → (after state).layout ≡ state.layout
after_layout state = ⊎_elim (λ h. ap (λ (s : State). s.layout) (after_index state h)) (λ h. ap (λ (s : State). s.layout) (after_phase state h)) (last_or_not state)

-- The state after k orders: it fits, and k orders come before its own.
pub record Reaches (layout : Layout) (n k : ℕ) (state : State) : Type 0 where
  pub is : state ≡ state_after k (first layout n)
  pub fit : fits state n ≡ true
  pub at : position state ≡ k
  pub same : state.layout ≡ layout

module _ (layout : Layout) (n : ℕ) where
  -- the first, and the next
  pub reaches_first : (state : State) → state ≡ first layout n → fits state n ≡ true → Reaches layout n 0 state
  unfolding state_after count_before
  reaches_first state e f = record { is = e; fit = f; at = ap position e; same = ap (λ (s : State). s.layout) e }

  pub reaches_next : (k : ℕ) (state : State) → Reaches layout n k state → running state ≡ true → Reaches layout n (k + 1) (after state)
  reaches_next k state r e =
      let q : k + 1 ≡ suc k = omega arith in
      record {
        is = ap after r.is ∙ sym (state_next k (first layout n)) ∙ ap (λ (i : ℕ). state_after i (first layout n)) (sym q);
        fit = after_fits state n r.fit e;
        at = after_position state n r.fit e ∙ ap (λ (i : ℕ). i + 1) r.at;
        same = after_layout state ∙ r.same;
      }

  total_of : (k : ℕ) (state : State) → Reaches layout n k state → total state.layout state.image_length ≡ total layout n
  total_of k state r = ap₂ total r.same (fits_says state n r.fit).same

  -- The run goes on before the total, and ends there.
  pub reaches_running : (k : ℕ) (state : State) → Reaches layout n k state → running state ≡ true → k < total layout n
  reaches_running k state r e = let p = position_running state n r.fit e in let q = r.at in let t = total_of k state r in omega arith

  pub reaches_ended : (k : ℕ) (state : State) → Reaches layout n k state → running state ≡ false → k ≡ total layout n
  reaches_ended k state r e = sym r.at ∙ position_ended state n r.fit e ∙ total_of k state r

  -- Before the total it goes on,
  pub runs : (k : ℕ) (state : State) → Reaches layout n k state → k < total layout n → running state ≡ true
  runs k state r h = go (running state) refl
    where
      go : (b : Bool) → running state ≡ b → b ≡ true
      go true e = refl
      go false e = absurd (let t = reaches_ended k state r e in omega arith)

  pub reaches_most : (k : ℕ) (state : State) → Reaches layout n k state → k ≤ total layout n
  reaches_most k state r = go (running state) refl
    where
      go : (b : Bool) → running state ≡ b → k ≤ total layout n
      go true e = let t = reaches_running k state r e in omega arith
      go false e = let t = reaches_ended k state r e in omega arith

  -- so every number of orders up to it is reached.
  pub reached : fits (first layout n) n ≡ true → (k : ℕ) → k ≤ total layout n → Reaches layout n k (state_after k (first layout n))
  unfolding state_after
  reached e zero h = reaches_first (first layout n) refl e
  reached e (suc k) h =
      let r = reached e k (omega arith) in
      let q : k + 1 ≡ suc k = omega arith in
      subst (Reaches layout n (suc k)) (sym (state_next k (first layout n)))
      (subst (λ (i : ℕ). Reaches layout n i (after (state_after k (first layout n)))) q (reaches_next k _ r (runs k _ r (omega arith))))

-- THE CHIP. One order more is obeyed after those before it.
obeyed_next : (list : List Order) (k : ℕ) (chip : List ℕ) → k < length list → obeyed_all (take (suc k) list) chip ≡ obeyed (get_or list k (erase 0 0)) (obeyed_all (take k list) chip)
unfolding obeyed_all
obeyed_next [] k chip h = absurd (omega arith)
obeyed_next (o ∷ list) zero chip h = refl
obeyed_next (o ∷ list) (suc k) chip h = obeyed_next list k (obeyed o chip) (omega arith)

pub chip_next : (kind : Kind) (layout : Layout) (image chip : List ℕ) (k : ℕ) (state : State) → Reaches layout (length image) k state → running state ≡ true →
    chip_after kind layout image (k + 1) chip ≡ obeyed (current_order kind state image) (chip_after kind layout image k chip)
chip_next kind layout image chip k state r e =
    let n = orders_length kind layout image in
    let h = reaches_running layout (length image) k state r e in
    let q : k + 1 ≡ suc k = omega arith in
    ap (λ (i : ℕ). chip_after kind layout image i chip) q
    ∙ obeyed_next (orders kind layout image) k chip (omega arith)
    ∙ ap₂ (λ (l : Layout) (i : ℕ). obeyed (get_or (orders kind l image) i (erase 0 0)) (chip_after kind layout image k chip)) (sym r.same) (sym r.at)

-- From the total on the chip stays the same.
pub chip_all : (kind : Kind) (layout : Layout) (image chip : List ℕ) (k cut : ℕ) → k ≡ total layout (length image) → k ≤ cut → chip_after kind layout image k chip ≡ chip_after kind layout image cut chip
chip_all kind layout image chip k cut e h =
    let n = orders_length kind layout image in
    ap (λ (l : List Order). obeyed_all l chip) (take_all k (orders kind layout image) (omega arith) ∙ sym (take_all cut (orders kind layout image) (omega arith)))

-- THE ORDERS. One whose span lies within the chip fills it, and the chip keeps its length.
pub span_size : (o : Order) (chip : List ℕ) → order_place o + order_length o ≤ length chip → length (obeyed_span o chip) ≡ order_length o
unfolding order_place order_length obeyed_span
span_size (erase place count) chip h = erased_length count
span_size (program place bytes) chip h = cleared_length (span chip place (length bytes)) bytes (span_length chip place (length bytes) h)
span_size (look place bytes) chip h = span_length chip place (length bytes) h

pub obeyed_length : (o : Order) (chip : List ℕ) → order_place o + order_length o ≤ length chip → length (obeyed o chip) ≡ length chip
unfolding order_place order_length obeyed_span leaves
obeyed_length (erase place count) chip h = let n = span_size (erase place count) chip h in overwrite_length chip place (erased count) (omega arith)
obeyed_length (program place bytes) chip h = let n = span_size (program place bytes) chip h in overwrite_length chip place (after_program chip place bytes) (omega arith)
obeyed_length (look place bytes) chip h = refl

-- a chip whose segment 0 is FF
abbrev pub Blank : List ℕ → Type 0
Blank chip = (i : ℕ) → i < segment → get_or chip i 0 ≡ 0xFF

-- The table's orders: all lie within the chip,
module _ (kind : Kind) (lawful : Lawful kind) (layout : Layout) (image : List ℕ) (numbers : Numbers layout (length image)) where
  pub order_within : (phase : ℕ) → phase < 7 → (i : ℕ) → i < count layout (length image) phase → order_place (order_of kind layout image phase i) + order_length (order_of kind layout image phase i) ≤ layout.chip_length
  order_within phase early i h =
      let l = chip_length_range layout.chip_length numbers.long in
      let a = update_length_range layout.chip_length layout.update_place layout.update_length numbers.spans in
      ⊎_elim (λ low. omega arith) (λ inside. omega arith) (in_reach kind lawful layout image numbers i phase early h).0

  -- a program takes a page at most,
  pub program_most : (phase : ℕ) → phase < 7 → (i : ℕ) → length (programmed (order_of kind layout image phase i)) ≤ page
  unfolding order_of by_phase programmed
  program_most =
      phases (λ (phase : ℕ). (i : ℕ) → length (programmed (order_of kind layout image phase i)) ≤ page)
      (λ i. omega arith)
      (λ i. omega arith)
      (λ i. omega arith)
      (λ i. let p = page_length image i in omega arith)
      (λ i. omega arith)
      (λ i. omega (arith, lawful.four))
      (λ i. omega arith)

  -- and those before phase 5 leave segment 0 as it was, but for the first, which erases it.
  pub keeps_blank : (phase : ℕ) → phase < 7 → phase < 5 → (i : ℕ) → i < count layout (length image) phase → (chip : List ℕ) → layout.chip_length ≡ length chip → (phase ≡ 0) ⊎ Blank chip → Blank (obeyed (order_of kind layout image phase i) chip)
  unfolding order_of by_phase obeyed_span leaves order_place order_length count
  keeps_blank =
      let l = chip_length_range layout.chip_length numbers.long in
      let u = update_place_range layout.chip_length layout.update_place numbers.starts in
      let a = update_length_range layout.chip_length layout.update_place layout.update_length numbers.spans in
      let n = numbers_image layout (length image) numbers in
      phases (λ (phase : ℕ). phase < 5 → (i : ℕ) → i < count layout (length image) phase → (chip : List ℕ) → layout.chip_length ≡ length chip → (phase ≡ 0) ⊎ Blank chip → Blank (obeyed (order_of kind layout image phase i) chip))
      (λ q i h chip e b j m.
      let f = erased_length segment in
      rw (zero-add j) at (overwrite_inside chip 0 (erased segment) (omega arith) j 0 (omega arith)) ∙ erased_at segment j m)
      (λ q i h chip e b. ⊎_elim (λ z. absurd (omega arith)) (λ blank. blank) b)
      (λ q i h chip e b j m.
      let s = area_segments layout (length image) i h in
      let f = erased_length segment in
      overwrite_before chip (layout.update_place + segment * i) (erased segment) (omega arith) j 0 (omega arith) ∙ ⊎_elim (λ z. absurd (omega arith)) (λ blank. blank j m) b)
      (λ q i h chip e b j m.
      let s = order_within 3 (omega arith) i h in
      let f = span_size (program (layout.update_place + page * i) (page_of image i)) chip (omega arith) in
      overwrite_before chip (layout.update_place + page * i) (after_program chip (layout.update_place + page * i) (page_of image i)) (omega arith) j 0 (omega arith) ∙ ⊎_elim (λ z. absurd (omega arith)) (λ blank. blank j m) b)
      (λ q i h chip e b. ⊎_elim (λ z. absurd (omega arith)) (λ blank. blank) b)
      (λ q. absurd (omega arith))
      (λ q. absurd (omega arith))

-- The chip after some of the orders of a run.
module _ (kind : Kind) (lawful : Lawful kind) (layout : Layout) (image chip : List ℕ) (fit : fits (first layout (length image)) (length image) ≡ true) (long : layout.chip_length ≡ length chip) where
  numbers_of : Numbers layout (length image)
  numbers_of = (fits_says (first layout (length image)) (length image) fit).numbers

  -- order k + 1 is one of the table,
  record Kth (k : ℕ) : Type 0 where
    phase : ℕ
    index : ℕ
    early : phase < 7
    some : index < count layout (length image) phase
    place : count_before layout (length image) phase + index ≡ k
    does : chip_after kind layout image (suc k) chip ≡ obeyed (order_of kind layout image phase index) (chip_after kind layout image k chip)

  kth : (k : ℕ) → k < total layout (length image) → Kth k
  kth k h =
      let state = state_after k (first layout (length image)) in
      let r = reached layout (length image) fit k (omega arith) in
      let e = runs layout (length image) k state r h in
      let s = running_says state (length image) r.fit e in
      let n : state.image_length ≡ length image = (fits_says state (length image) r.fit).same in
      let q : suc k ≡ k + 1 = omega arith in
      record {
        phase = state.phase;
        index = state.index;
        early = s.0;
        some = rw (r.same, n) at s.1;
        place = rw (r.same, n) at r.at;
        does =
            ap (λ (i : ℕ). chip_after kind layout image i chip) q
            ∙ chip_next kind layout image chip k state r e
            ∙ ap (λ (o : Order). obeyed o (chip_after kind layout image k chip)) (current_order_law kind state image r.fit e ∙ ap (λ (l : Layout). order_of kind l image state.phase state.index) r.same);
      }

  -- so the chip's length stays,
  pub chip_length_law : (k : ℕ) → k ≤ total layout (length image) → length (chip_after kind layout image k chip) ≡ length chip
  unfolding obeyed_all
  chip_length_law zero h = refl
  chip_length_law (suc k) h =
      let o = kth k (omega arith) in
      let n = chip_length_law k (omega arith) in
      let w = order_within kind lawful layout image numbers_of o.phase o.early o.index o.some in
      ap (λ (l : List ℕ). length l) o.does
      ∙ obeyed_length (order_of kind layout image o.phase o.index) (chip_after kind layout image k chip) (omega arith)
      ∙ n

  -- and from the first order to phase 5 segment 0 is FF.
  early_phase : (phase i p : ℕ) → count_before layout (length image) phase + i < count_before layout (length image) (suc p) → phase < suc p
  unfolding count_before
  early_phase phase i p h =
      ⊎_elim (λ l. l)
      (λ l.
      let q : suc p + (phase - suc p) ≡ phase = omega arith in
      let b = rw q at (before_later layout (length image) p (phase - suc p)) in
      absurd (omega arith))
      (below_or_not phase (suc p))

  next_blank : (k : ℕ) → k < count_before layout (length image) 5 → (k ≡ 0) ⊎ Blank (chip_after kind layout image k chip) → Blank (chip_after kind layout image (suc k) chip)
  unfolding count_before count by_phase
  next_blank k h was =
      let b : count_before layout (length image) 5 < total layout (length image) = omega arith in
      let o = kth k (omega arith) in
      let at = o.place in
      let p : o.phase < 5 = early_phase o.phase o.index 4 (omega arith) in
      let n = chip_length_law k (omega arith) in
      let zeroth : k ≡ 0 → o.phase ≡ 0 = λ z. (let q : o.phase < 1 = early_phase o.phase o.index 0 (omega arith) in omega arith) in
      subst Blank (sym o.does)
      (keeps_blank kind lawful layout image numbers_of o.phase o.early p o.index o.some (chip_after kind layout image k chip) (omega (arith, long)) (⊎_elim (λ z. inl (zeroth z)) inr was))

  pub chip_blank : (k : ℕ) → k < count_before layout (length image) 5 → Blank (chip_after kind layout image (suc k) chip)
  chip_blank zero h = next_blank 0 h (inl refl)
  chip_blank (suc k) h = next_blank (suc k) h (inr (chip_blank k (omega arith)))

-- What the code does to a chip for an operation,
unfoldable pub done_by : Operation → List ℕ → List ℕ → List ℕ
done_by (Erase place count) bytes chip = overwrite_in_range chip place count (erased count)
done_by (Program place count) bytes chip = overwrite_in_range chip place (length (take count bytes)) (after_program chip place (take count bytes))
done_by (Look place count) bytes chip = chip

-- is what its order asks for.
pub obeyed_done : (o : Order) (chip : List ℕ) → order_place o + order_length o ≤ length chip → obeyed o chip ≡ done_by (operation_of o) (order_bytes o) chip
unfolding order_place order_length obeyed_span leaves programmed operation_of done_by
obeyed_done (erase place count) chip h = sym (in_range chip place count (erased count) h)
obeyed_done (program place bytes) chip h =
    let e : take (length bytes) (order_bytes (program place bytes)) ≡ bytes = take-append_seam bytes (erased (page - length bytes)) in
    sym (ap (λ (l : List ℕ). overwrite_in_range chip place (length l) (after_program chip place l)) e ∙ in_range chip place (length bytes) (after_program chip place bytes) h)
obeyed_done (look place bytes) chip h = refl

-- The numbers of an operation are its order's.
pub erase_span : (o : Order) (place count : ℕ) → operation_of o ≡ Erase place count → order_place o + order_length o ≡ place + count
unfolding order_place order_length operation_of
erase_span (erase place count) p c e = let a : place ≡ p = cc in let b : count ≡ c = cc in omega arith
erase_span (program place bytes) p c e = let z : ◌≡◌ {A = ℕ} 0 1 = cc in absurd (omega arith)
erase_span (look place bytes) p c e = let z : ◌≡◌ {A = ℕ} 0 1 = cc in absurd (omega arith)

pub program_count : (o : Order) (place count : ℕ) → operation_of o ≡ Program place count → length (programmed o) ≡ count
unfolding operation_of programmed
program_count (erase place count) p c e = let z : ◌≡◌ {A = ℕ} 0 1 = cc in absurd (omega arith)
program_count (program place bytes) p c e = cc
program_count (look place bytes) p c e = let z : ◌≡◌ {A = ℕ} 0 1 = cc in absurd (omega arith)

-- THE CURRENT ORDER of a state, on a chip of the run's length.
module _ (state : State) (image : List ℕ) (fit : fits state (length image) ≡ true) where
  pub numbers_at : Numbers state.layout (length image)
  numbers_at = let f = fits_says state (length image) fit in subst (Numbers state.layout) f.same f.numbers

  -- it lies within the chip,
  pub current_within : running state ≡ true → order_place (current_order spi state image) + order_length (current_order spi state image) ≤ state.layout.chip_length
  current_within r =
      rw (current_order_law spi state image fit r)
      (order_within spi spi_lawful state.layout image numbers_at state.phase (running_says state (length image) fit r).0 state.index (index_at state image fit r))

  -- and programs a page at most.
  pub current_most : running state ≡ true → length (programmed (current_order spi state image)) ≤ page
  current_most r =
      rw (current_order_law spi state image fit r)
      (program_most spi spi_lawful state.layout image numbers_at state.phase (running_says state (length image) fit r).0 state.index)

  -- The code does what it asks for,
  pub current_done : running state ≡ true → (chip : List ℕ) → state.layout.chip_length ≡ length chip → (operation : Operation) → operation_of (current_order spi state image) ≡ operation →
      done_by operation (order_bytes (current_order spi state image)) chip ≡ obeyed (current_order spi state image) chip
  current_done r chip long operation e =
      let w = current_within r in
      sym (obeyed_done (current_order spi state image) chip (omega (arith, long)) ∙ ap (λ (o : Operation). done_by o (order_bytes (current_order spi state image)) chip) e)
