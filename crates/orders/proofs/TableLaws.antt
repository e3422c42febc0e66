-- The table of orders: a fact of each phase, how many orders it has, and where they lie.
use Prim.Native.Nat.{ℕ, zero, suc, ◌+◌, ◌-◌, ◌*◌, ◌/◌, ◌<◌, ◌≤◌}
use mathlib.Core.Path.{◌≡◌, refl, ap}
use native.Mathlib.Omega.{arith}
use Rattle.kind.specs.Layout.{page, segment}
use Rattle.orders.specs.Types.{Layout}
use Rattle.orders.specs.Table.{by_phase, pages, count, count_before, total}
use Rattle.orders.specs.Theorems.{TotalFormula}

-- A fact of phases 0 to 6, one by one.
pub phases {ℓ} : (P : ℕ → Type ℓ) → P 0 → P 1 → P 2 → P 3 → P 4 → P 5 → P 6 → (phase : ℕ) → phase < 7 → P phase
phases P a b c d e f g zero h = a
phases P a b c d e f g (suc zero) h = b
phases P a b c d e f g (suc (suc zero)) h = c
phases P a b c d e f g (suc (suc (suc zero))) h = d
phases P a b c d e f g (suc (suc (suc (suc zero)))) h = e
phases P a b c d e f g (suc (suc (suc (suc (suc zero))))) h = f
phases P a b c d e f g (suc (suc (suc (suc (suc (suc zero)))))) h = g
phases P a b c d e f g (suc (suc (suc (suc (suc (suc (suc phase))))))) h = absurd (omega arith)

-- No phase but the seven has an order,
pub count_none : (layout : Layout) (n phase : ℕ) → (phase ≡ 0 → ⊥) → (phase ≡ 1 → ⊥) → (phase ≡ 2 → ⊥) → (phase ≡ 3 → ⊥) → (phase ≡ 4 → ⊥) → (phase ≡ 5 → ⊥) → (phase ≡ 6 → ⊥) → count layout n phase ≡ 0
unfolding count by_phase
count_none layout n zero a b c d e f g = absurd (a refl)
count_none layout n (suc zero) a b c d e f g = absurd (b refl)
count_none layout n (suc (suc zero)) a b c d e f g = absurd (c refl)
count_none layout n (suc (suc (suc zero))) a b c d e f g = absurd (d refl)
count_none layout n (suc (suc (suc (suc zero)))) a b c d e f g = absurd (e refl)
count_none layout n (suc (suc (suc (suc (suc zero))))) a b c d e f g = absurd (f refl)
count_none layout n (suc (suc (suc (suc (suc (suc zero)))))) a b c d e f g = absurd (g refl)
count_none layout n (suc (suc (suc (suc (suc (suc (suc phase))))))) a b c d e f g = refl

-- and phase 6 is the one that remains after 0 to 5.
pub last_phase : (layout : Layout) (n phase i : ℕ) → i < count layout n phase → (phase ≡ 0 → ⊥) → (phase ≡ 1 → ⊥) → (phase ≡ 2 → ⊥) → (phase ≡ 3 → ⊥) → (phase ≡ 4 → ⊥) → (phase ≡ 5 → ⊥) → phase ≡ 6
unfolding count by_phase
last_phase layout n zero i h a b c d e f = absurd (a refl)
last_phase layout n (suc zero) i h a b c d e f = absurd (b refl)
last_phase layout n (suc (suc zero)) i h a b c d e f = absurd (c refl)
last_phase layout n (suc (suc (suc zero))) i h a b c d e f = absurd (d refl)
last_phase layout n (suc (suc (suc (suc zero)))) i h a b c d e f = absurd (e refl)
last_phase layout n (suc (suc (suc (suc (suc zero))))) i h a b c d e f = absurd (f refl)
last_phase layout n (suc (suc (suc (suc (suc (suc zero)))))) i h a b c d e f = refl
last_phase layout n (suc (suc (suc (suc (suc (suc (suc phase))))))) i h a b c d e f = absurd (omega arith)

-- The orders' places: pages and segments of the update area, pages of the image.
pub area_segments : (layout : Layout) (n i : ℕ) → i < count layout n 2 → segment * i + segment ≤ layout.update_length
unfolding count by_phase
area_segments layout n i h = let b : i < layout.update_length / segment = h in omega arith

pub image_pages : (layout : Layout) (n i : ℕ) → i < count layout n 3 → page * i < n
unfolding count by_phase
image_pages layout n i h = let b : i < pages n = h in omega arith

pub area_pages : (layout : Layout) (n i : ℕ) → i < count layout n 4 → page * i + page ≤ layout.update_length
unfolding count by_phase
area_pages layout n i h = let b : i < layout.update_length / page = h in omega arith

-- How many orders come before a phase that is not the first.
pub before_next : (layout : Layout) (n phase : ℕ) → count_before layout n (phase + 1) ≡ count_before layout n phase + count layout n phase
unfolding count_before
before_next layout n phase = let e : phase + 1 ≡ suc phase = omega arith in ap (count_before layout n) e

-- In all A/4,096 + A/256 + n/256 rounded up + 19.
pub total_is : TotalFormula
unfolding count_before count by_phase
total_is layout n = omega arith

-- Orders of a phase come before those of a later one.
pub before_later : (layout : Layout) (n phase k : ℕ) → count_before layout n phase + count layout n phase ≤ count_before layout n (suc phase + k)
unfolding count_before
before_later layout n phase zero =
    let e : suc phase + 0 ≡ suc phase = omega arith in
    let b : count_before layout n (suc phase + 0) ≡ count_before layout n phase + count layout n phase = ap (count_before layout n) e in
    omega arith
before_later layout n phase (suc k) =
    let e : suc phase + suc k ≡ suc (suc phase + k) = omega arith in
    let b : count_before layout n (suc phase + suc k) ≡ count_before layout n (suc phase + k) + count layout n (suc phase + k) = ap (count_before layout n) e in
    let h = before_later layout n phase k in
    omega arith

-- Those before a phase are at most all.
pub before_total : (layout : Layout) (n phase : ℕ) → phase ≤ 7 → count_before layout n phase ≤ total layout n
unfolding count_before
before_total layout n zero h = omega arith
before_total layout n (suc phase) h =
    let e : suc phase + (6 - phase) ≡ 7 = omega arith in
    let b : count_before layout n phase + count layout n phase ≤ count_before layout n (suc phase + (6 - phase)) = before_later layout n phase (6 - phase) in
    rw e at b
