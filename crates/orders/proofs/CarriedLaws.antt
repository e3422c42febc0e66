-- What an order programs or looks for, by its phase.
use Prim.Native.Nat.{ℕ, zero, suc, ◌+◌, ◌*◌, ◌<◌, ◌≤◌}
use mathlib.Core.Path.{◌≡◌, refl, sym, ap, ◌∙◌}
use mathlib.Core.Logic.{◌⊎◌, inl, inr}
use mathlib.Core.List.{List, []}
use native.Mathlib.Omega.{arith}
use lib.ListN.{length}
use Rattle.base.proofs.Laws.{below_or_not}
use Rattle.kind.specs.Layout.{page}
use Rattle.kind.specs.Spi.{spi}
use Rattle.orders.specs.Types.{Layout, Look}
use Rattle.flash.proofs.Laws.{erased_length}
use Rattle.comparison.specs.Comparison.{padded}
use Rattle.comparison.proofs.Laws.{padded_length}
use Rattle.orders.specs.Table.{by_phase}
use Rattle.orders.specs.Orders.{page_of, order_of, operation_of, programmed}
use Rattle.orders.specs.Carried.{expected_bytes, carried}
use Rattle.orders.proofs.OrderLaws.{page_length}

-- Phases 3 and 4 carry a page of the image, 5 and 6 the ON word, and no other phase anything.
pub carried_page : (image : List ℕ) (phase i : ℕ) → 3 ≤ phase → phase < 5 → carried spi image phase i ≡ page_of image i
unfolding carried by_phase
carried_page image phase i h k = elim (below_or_not phase 4) [
  | inl l ↦ (let e : phase ≡ 3 = omega arith in rw e refl)
  | inr l ↦ (let e : phase ≡ 4 = omega arith in rw e refl)
]

pub carried_on : (image : List ℕ) (phase i : ℕ) → 5 ≤ phase → phase < 7 → carried spi image phase i ≡ spi.on
unfolding carried by_phase
carried_on image phase i h k = elim (below_or_not phase 6) [
  | inl l ↦ (let e : phase ≡ 5 = omega arith in rw e refl)
  | inr l ↦ (let e : phase ≡ 6 = omega arith in rw e refl)
]

neither : (phase : ℕ) → 3 ≤ phase → phase < 7 → (phase < 3) ⊎ (7 ≤ phase) → ⊥
neither phase a b (inl h) = omega arith
neither phase a b (inr h) = omega arith

pub carried_none : (image : List ℕ) (phase i : ℕ) → (phase < 3) ⊎ (7 ≤ phase) → carried spi image phase i ≡ []
unfolding carried by_phase
carried_none image zero i h = refl
carried_none image (suc zero) i h = refl
carried_none image (suc (suc zero)) i h = refl
carried_none image (suc (suc (suc (suc (suc (suc (suc phase))))))) i h = refl
carried_none image (suc (suc (suc zero))) i h = absurd (neither 3 (omega arith) (omega arith) h)
carried_none image (suc (suc (suc (suc zero)))) i h = absurd (neither 4 (omega arith) (omega arith) h)
carried_none image (suc (suc (suc (suc (suc zero))))) i h = absurd (neither 5 (omega arith) (omega arith) h)
carried_none image (suc (suc (suc (suc (suc (suc zero)))))) i h = absurd (neither 6 (omega arith) (omega arith) h)

-- Of those that carry something, 3 and 5 program it.
pub programs : (layout : Layout) (image : List ℕ) (phase i : ℕ) → (phase ≡ 3) ⊎ (phase ≡ 5) → programmed (order_of spi layout image phase i) ≡ carried spi image phase i
unfolding order_of by_phase programmed carried
programs layout image phase i (inl e) = rw e refl
programs layout image phase i (inr e) = rw e refl

pub programs_none : (layout : Layout) (image : List ℕ) (phase i : ℕ) → ((phase ≡ 3) ⊎ (phase ≡ 5) → ⊥) → programmed (order_of spi layout image phase i) ≡ []
unfolding order_of by_phase programmed
programs_none layout image zero i a = refl
programs_none layout image (suc zero) i a = refl
programs_none layout image (suc (suc zero)) i a = refl
programs_none layout image (suc (suc (suc zero))) i a = absurd (a (inl refl))
programs_none layout image (suc (suc (suc (suc zero)))) i a = refl
programs_none layout image (suc (suc (suc (suc (suc zero))))) i a = absurd (a (inr refl))
programs_none layout image (suc (suc (suc (suc (suc (suc zero)))))) i a = refl
programs_none layout image (suc (suc (suc (suc (suc (suc (suc phase))))))) i a = refl

-- What is carried is at most a page.
pub carried_length : (image : List ℕ) (phase i : ℕ) → length (carried spi image phase i) ≤ page
unfolding carried by_phase
carried_length image zero i = omega arith
carried_length image (suc zero) i = omega arith
carried_length image (suc (suc zero)) i = omega arith
carried_length image (suc (suc (suc zero))) i = let l = page_length image i in omega arith
carried_length image (suc (suc (suc (suc zero)))) i = let l = page_length image i in omega arith
carried_length image (suc (suc (suc (suc (suc zero))))) i = omega arith
carried_length image (suc (suc (suc (suc (suc (suc zero)))))) i = omega arith
carried_length image (suc (suc (suc (suc (suc (suc (suc phase))))))) i = omega arith

-- What is known of a look of n bytes at a place: it looks for what it carries and then FF, in a page or less.
pub record Looks (layout : Layout) (image : List ℕ) (phase i place n : ℕ) : Type 0 where
  pub finds : expected_bytes (order_of spi layout image phase i) ≡ padded n (carried spi image phase i)
  pub room : length (carried spi image phase i) ≤ n
  pub most : n ≤ page
  pub low : place ≤ 16777216

pub looks : (layout : Layout) (image : List ℕ) (phase i place n : ℕ) → layout.update_place + page * i < 16777216 → operation_of (order_of spi layout image phase i) ≡ Look place n → Looks layout image phase i place n
unfolding order_of by_phase operation_of expected_bytes carried
looks layout image zero i place n h e = absurd (let z : ◌≡◌ {A = ℕ} 0 1 = cc in omega arith)
looks layout image (suc zero) i place n h e =
    let p : page * i ≡ place = cc in
    let m : page ≡ n = sym (erased_length page) ∙ cc in
    record { finds = ap (λ (k : ℕ). padded k []) m; room = omega arith; most = omega arith; low = omega arith }
looks layout image (suc (suc zero)) i place n h e = absurd (let z : ◌≡◌ {A = ℕ} 0 1 = cc in omega arith)
looks layout image (suc (suc (suc zero))) i place n h e = absurd (let z : ◌≡◌ {A = ℕ} 0 1 = cc in omega arith)
looks layout image (suc (suc (suc (suc zero)))) i place n h e =
    let l = page_length image i in
    let p : layout.update_place + page * i ≡ place = cc in
    let m : page ≡ n = sym (padded_length page (page_of image i) (omega arith)) ∙ cc in
    record { finds = ap (λ (k : ℕ). padded k (page_of image i)) m; room = omega arith; most = omega arith; low = omega arith }
looks layout image (suc (suc (suc (suc (suc zero))))) i place n h e = absurd (let z : ◌≡◌ {A = ℕ} 0 1 = cc in omega arith)
looks layout image (suc (suc (suc (suc (suc (suc zero)))))) i place n h e =
    let p : 4092 ≡ place = cc in
    let m : 4 ≡ n = cc in
    record { finds = ap (λ (k : ℕ). padded k spi.on) m; room = omega arith; most = omega arith; low = omega arith }
looks layout image (suc (suc (suc (suc (suc (suc (suc phase))))))) i place n h e = absurd (let z : ◌≡◌ {A = ℕ} 0 1 = cc in omega arith)
