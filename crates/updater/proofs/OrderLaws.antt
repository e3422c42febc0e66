-- The current order: the one that the table has for the state's phase and index, and the first of those left.
use Prim.Native.Nat.{ℕ, suc, ◌+◌, ◌-◌, ◌<◌}
use mathlib.Core.Path.{◌≡◌, sym, ap, ◌∙◌}
use mathlib.Core.Bool.{true, false}
use mathlib.Core.List.{List, [], ◌∷◌}
use native.Mathlib.Omega.{arith}
use lib.ListN.{length, get_or, drop, drop_of_length-le}
use lib.Seq.{drop-cons}
use Rattle.kind.specs.Kind.{Kind}
use Rattle.orders.specs.Table.{count, count_before, total}
use Rattle.orders.specs.Orders.{erase, order_of, orders}
use Rattle.orders.proofs.Laws.{orders_length, order_at}
use Rattle.updater.specs.State.{position, running, fits, current_order}
use Rattle.updater.specs.Types.{State}
use Rattle.updater.proofs.RunLaws.{fits_says, running_says, position_running, position_ended}

-- A state of a run that goes on has the index of one of its phase's orders.
pub index_at : (state : State) (image : List ℕ) → fits state (length image) ≡ true → running state ≡ true → state.index < count state.layout (length image) state.phase
index_at state image e r = rw (fits_says state (length image) e).same at (running_says state (length image) e r).1

-- The order at a state's position is the one that the table has for its phase and index.
pub current_order_law : (kind : Kind) (state : State) (image : List ℕ) → fits state (length image) ≡ true → running state ≡ true →
    current_order kind state image ≡ order_of kind state.layout image state.phase state.index
current_order_law kind state image e r =
    let s = running_says state (length image) e r in
    let k : suc state.phase + (6 - state.phase) ≡ 7 = omega arith in
    let n : state.image_length ≡ length image = (fits_says state (length image) e).same in
    let h = index_at state image e r in
    ap (λ (m : ℕ). get_or (orders kind state.layout image) (count_before state.layout m state.phase + state.index) (erase 0 0)) n
    ∙ (rw k at (order_at kind state.layout image state.phase (6 - state.phase) state.index (erase 0 0) h))

-- The same where the image is said to be as long as the run's.
pub own_order : (kind : Kind) (state : State) (image : List ℕ) → state.image_length ≡ length image → fits state state.image_length ≡ true → running state ≡ true →
    current_order kind state image ≡ order_of kind state.layout image state.phase state.index
own_order kind state image same e r = current_order_law kind state image (sym (ap (fits state) same) ∙ e) r

-- It is the first of those that are left.
pub orders_left : (kind : Kind) (state : State) (image : List ℕ) → fits state (length image) ≡ true → running state ≡ true →
    drop (position state) (orders kind state.layout image) ≡ current_order kind state image ∷ drop (position state + 1) (orders kind state.layout image)
orders_left kind state image e r =
    let n : state.image_length ≡ length image = (fits_says state (length image) e).same in
    let l : length (orders kind state.layout image) ≡ total state.layout state.image_length = orders_length kind state.layout image ∙ ap (total state.layout) (sym n) in
    let p = position_running state (length image) e r in
    let q : suc (position state) ≡ position state + 1 = omega arith in
    drop-cons (orders kind state.layout image) (position state) (erase 0 0) (omega arith)
    ∙ ap (λ (m : ℕ). current_order kind state image ∷ drop m (orders kind state.layout image)) q

-- An ended run has none left.
pub orders_ended : (kind : Kind) (state : State) (image : List ℕ) → fits state (length image) ≡ true → running state ≡ false → drop (position state) (orders kind state.layout image) ≡ []
orders_ended kind state image e r =
    let n : state.image_length ≡ length image = (fits_says state (length image) e).same in
    let l : length (orders kind state.layout image) ≡ total state.layout state.image_length = orders_length kind state.layout image ∙ ap (total state.layout) (sym n) in
    let p = position_ended state (length image) e r in
    drop_of_length-le (orders kind state.layout image) {i = position state} (omega arith)
