-- What is proved of a run's state: which order is its current one.
use Rattle.std.specs.Prelude.{ℕ, ◌+◌, ◌≡◌, true, false, List, [], ◌∷◌, length, drop}
use Rattle.kind.specs.Kind.{Kind}
use Rattle.orders.specs.Orders.{order_of, orders}
use Rattle.updater.specs.Types.{State}
use Rattle.updater.specs.State.{position, running, fits, current_order}

-- The current order of a run that goes on is the one that the table has for its phase and index, and the first of those that are left in the list; a run that has ended has none left.
pub record CurrentOrders : Type 0 where
  pub in_table : (kind : Kind) (state : State) (image : List ℕ) → fits state (length image) ≡ true → running state ≡ true →
      current_order kind state image ≡ order_of kind state.layout image state.phase state.index
  pub next_in_list : (kind : Kind) (state : State) (image : List ℕ) → fits state (length image) ≡ true → running state ≡ true →
      drop (position state) (orders kind state.layout image) ≡ current_order kind state image ∷ drop (position state + 1) (orders kind state.layout image)
  pub none_left : (kind : Kind) (state : State) (image : List ℕ) → fits state (length image) ≡ true → running state ≡ false → drop (position state) (orders kind state.layout image) ≡ []
