-- The list of orders: its length, and each order as the table has it; and the pages of an image.
use Prim.Native.Nat.{ℕ, zero, suc, ◌+◌, ◌-◌, ◌*◌, ◌<◌, ◌≤◌, min}
use mathlib.Core.Path.{◌≡◌, refl, sym, ap, ◌∙◌}
use mathlib.Core.Bool.{Bool, true, false}
use mathlib.Core.Logic.{⊎_elim}
use mathlib.Core.List.{List, [], ◌∷◌, ◌++◌}
use native.Mathlib.Omega.{arith}
use borrow.Author.Tests.{leb-true, leb-false, eq-eqb, ne_eqb}
use lib.Dec.{eqb, leb}
use lib.ListN.{length, get_or, take, drop, length-append, length-take, length-drop, get_or-append, drop_of_length-le}
use lib.Seq.{get_or-append-add, get_or-take, get_or-drop, take_all}
use Rattle.base.proofs.Laws.{equal_or_not}
use Rattle.kind.specs.Layout.{page}
use Rattle.kind.specs.Kind.{Kind}
use Rattle.orders.specs.Types.{Layout}
use Rattle.orders.specs.Table.{count, count_before, total}
use Rattle.orders.specs.Orders.{Order, page_of, order_of, in_phase, orders_before, orders, how_many}
use Rattle.orders.proofs.TableLaws.{before_later}

-- The orders of one phase.
phase_length : (order : ℕ → Order) (i more : ℕ) → length (in_phase order i more) ≡ more
unfolding in_phase
phase_length order i zero = refl
phase_length order i (suc more) = ap suc (phase_length order (i + 1) more)

phase_at : (order : ℕ → Order) (i more j : ℕ) (d : Order) → j < more → get_or (in_phase order i more) j d ≡ order (i + j)
unfolding in_phase
phase_at order i zero j d h = absurd (omega arith)
phase_at order i (suc more) zero d h = let e : i ≡ i + 0 = omega arith in ap order e
phase_at order i (suc more) (suc j) d h = let e : i + 1 + j ≡ i + suc j = omega arith in phase_at order (i + 1) more j d (omega arith) ∙ ap order e

-- How many orders pass a test: of two lists one after the other, and of a phase whose orders all pass it, or none of them.
many_append : (test : Order → Bool) (a b : List Order) → how_many test (a ++ b) ≡ how_many test a + how_many test b
unfolding how_many
many_append test [] b = omega arith
many_append test (order ∷ a) b = go (test order) (many_append test a b)
  where
    go : (passes : Bool) → how_many test (a ++ b) ≡ how_many test a + how_many test b →
        ◌≡◌ {A = ℕ} (elim passes [ true ↦ suc (how_many test (a ++ b)) | false ↦ how_many test (a ++ b) ]) (elim passes [ true ↦ suc (how_many test a) | false ↦ how_many test a ] + how_many test b)
    go true h = omega arith
    go false h = h

many_in_phase : (test : Order → Bool) (order : ℕ → Order) (passes : Bool) (i more : ℕ) → ((j : ℕ) → j < more → test (order (i + j)) ≡ passes) →
    ◌≡◌ {A = ℕ} (how_many test (in_phase order i more)) (elim passes [ true ↦ more | false ↦ 0 ])
unfolding how_many in_phase
many_in_phase test order true i zero h = refl
many_in_phase test order false i zero h = refl
many_in_phase test order passes i (suc more) h = go passes first (many_in_phase test order passes (i + 1) more later)
  where
    first : test (order i) ≡ passes
    first = let e : i ≡ i + 0 = omega arith in ap (λ (k : ℕ). test (order k)) e ∙ h 0 (omega arith)

    later : (j : ℕ) → j < more → test (order (i + 1 + j)) ≡ passes
    later j l = let e : i + 1 + j ≡ i + suc j = omega arith in ap (λ (k : ℕ). test (order k)) e ∙ h (suc j) (omega arith)

    go : (b : Bool) → test (order i) ≡ b → ◌≡◌ {A = ℕ} (how_many test (in_phase order (i + 1) more)) (elim b [ true ↦ more | false ↦ 0 ]) →
        ◌≡◌ {A = ℕ} (elim (test (order i)) [ true ↦ suc (how_many test (in_phase order (i + 1) more)) | false ↦ how_many test (in_phase order (i + 1) more) ]) (elim b [ true ↦ suc more | false ↦ 0 ])
    go true e h' = rw e (ap suc h')
    go false e h' = rw e h'

module _ (kind : Kind) (layout : Layout) (image : List ℕ) where
  abbrev of_phase : ℕ → List Order
  of_phase phase = in_phase (order_of kind layout image phase) 0 (count layout (length image) phase)

  before_length : (phase : ℕ) → length (orders_before kind layout image phase) ≡ count_before layout (length image) phase
  unfolding orders_before count_before
  before_length zero = refl
  before_length (suc phase) =
      let a = length-append (orders_before kind layout image phase) (of_phase phase) in
      let b = before_length phase in
      let c = phase_length (order_of kind layout image phase) 0 (count layout (length image) phase) in
      omega arith

  -- The total is the list's length.
  pub orders_length : length (orders kind layout image) ≡ total layout (length image)
  orders_length = before_length 7

  -- Order i of a phase stands in the list of all phases before any later one.
  pub order_at : (phase k i : ℕ) (d : Order) → i < count layout (length image) phase →
      get_or (orders_before kind layout image (suc phase + k)) (count_before layout (length image) phase + i) d ≡ order_of kind layout image phase i
  unfolding orders_before
  order_at phase zero i d h =
      let e : suc phase + 0 ≡ suc phase = omega arith in
      let l : count_before layout (length image) phase + i ≡ length (orders_before kind layout image phase) + i = ap (λ (n : ℕ). n + i) (sym (before_length phase)) in
      ap (λ (p : ℕ). get_or (orders_before kind layout image p) (count_before layout (length image) phase + i) d) e
      ∙ ap (λ (n : ℕ). get_or (orders_before kind layout image phase ++ of_phase phase) n d) l
      ∙ get_or-append-add (orders_before kind layout image phase) (of_phase phase) i d
      ∙ phase_at (order_of kind layout image phase) 0 (count layout (length image) phase) i d h
      ∙ (let z : 0 + i ≡ i = omega arith in ap (order_of kind layout image phase) z)
  order_at phase (suc k) i d h =
      let e : suc phase + suc k ≡ suc (suc phase + k) = omega arith in
      let l = before_later layout (length image) phase k in
      let b = before_length (suc phase + k) in
      ap (λ (p : ℕ). get_or (orders_before kind layout image p) (count_before layout (length image) phase + i) d) e
      ∙ get_or-append (orders_before kind layout image (suc phase + k)) (of_phase (suc phase + k)) d (count_before layout (length image) phase + i) (omega arith)
      ∙ order_at phase k i d h

  -- A test that the orders of one phase pass, and no others, is passed by as many as that phase has.
  pub pass_in_phase : (test : Order → Bool) (which : ℕ) → which < 7 → ((phase i : ℕ) → phase < 7 → i < count layout (length image) phase → test (order_of kind layout image phase i) ≡ eqb phase which) →
      how_many test (orders kind layout image) ≡ count layout (length image) which
  unfolding orders_before how_many
  pass_in_phase test which w passes = (before 7 (omega arith)).1 w
    where
      here : (phase : ℕ) (b : Bool) → phase < 7 → eqb phase which ≡ b → (j : ℕ) → j < count layout (length image) phase → test (order_of kind layout image phase (0 + j)) ≡ b
      here phase b p e j l = let z : 0 + j ≡ j = omega arith in ap (λ (k : ℕ). test (order_of kind layout image phase k)) z ∙ passes phase j p l ∙ e

      before : (phase : ℕ) → phase ≤ 7 → (phase ≤ which → how_many test (orders_before kind layout image phase) ≡ 0) × (which < phase → how_many test (orders_before kind layout image phase) ≡ count layout (length image) which)
      before zero p = ((λ l. refl), (λ l. absurd (omega arith)))
      before (suc phase) p =
          let b = before phase (omega arith) in
          let sum = many_append test (orders_before kind layout image phase) (of_phase phase) in
          let none : (phase ≡ which → ⊥) → how_many test (of_phase phase) ≡ 0 = (λ d. many_in_phase test (order_of kind layout image phase) false 0 (count layout (length image) phase) (here phase false (omega arith) (ne_eqb phase which d))) in
          let all : phase ≡ which → how_many test (of_phase phase) ≡ count layout (length image) which = (λ e. many_in_phase test (order_of kind layout image phase) true 0 (count layout (length image) phase) (here phase true (omega arith) (eq-eqb phase which e)) ∙ ap (count layout (length image)) e) in (
            (λ l. let x = b.0 (omega arith) in let y = none (λ e. omega arith) in omega arith),
            (λ l. ⊎_elim (λ e. let x = b.0 (omega arith) in let y = all e in omega arith) (λ d. let x = b.1 (omega (arith, d)) in let y = none d in omega arith) (equal_or_not phase which)),
          )

-- Byte k of an image's page.
pub page_at_law : (image : List ℕ) (i k d : ℕ) → k < page → get_or (page_of image i) k d ≡ get_or image (page * i + k) d
page_at_law image i k d h = get_or-take page (drop (page * i) image) k d h ∙ get_or-drop (page * i) image k d

-- A page of an image: how long it is, and its place in the image.
pub page_length : (image : List ℕ) (i : ℕ) → length (page_of image i) ≡ min page (length image - page * i)
page_length image i = length-take page (drop (page * i) image) ∙ ap (min page) (length-drop (page * i) image)

pub page_part : (image : List ℕ) (i from to : ℕ) → from ≡ min (page * i) (length image) → to ≡ min (from + page) (length image) → take (to - from) (drop from image) ≡ page_of image i
page_part image i from to e f = go (leb (page * i + page) (length image)) refl (leb (page * i) (length image)) refl
  where
    -- to the end, where that is no further than a page
    rest : from ≡ page * i → length image < page * i + page → take (to - from) (drop from image) ≡ page_of image i
    rest s h =
        let a = length-drop from image in
        let b = length-drop (page * i) image in
        take_all (to - from) (drop from image) (omega (arith, e, f))
        ∙ ap (λ (n : ℕ). drop n image) s
        ∙ sym (take_all page (drop (page * i) image) (omega arith))

    go : (a : Bool) → leb (page * i + page) (length image) ≡ a → (b : Bool) → leb (page * i) (length image) ≡ b → take (to - from) (drop from image) ≡ page_of image i
    go true p b q =
        let l = leb-true (page * i + page) (length image) p in
        let s : from ≡ page * i = omega (arith, e) in
        let t : to - from ≡ page = omega (arith, e, f) in
        rw (t, s) refl
    go false p true q = let l = leb-true (page * i) (length image) q in rest (omega (arith, e)) (leb-false (page * i + page) (length image) p)
    go false p false q =
        let l = leb-false (page * i) (length image) q in
        let s : from ≡ length image = omega (arith, e) in
        let t : to - from ≡ 0 = omega (arith, e, f) in
        let z : drop (page * i) image ≡ [] = drop_of_length-le image {i = page * i} (omega arith) in
        rw (t, z) refl
