-- What is proved of an order's number: the orders of a run are counted from 1 to how many there are, one by one.
use Rattle.std.specs.Prelude.{ℕ, ◌+◌, ◌≡◌, true, false, List, ◌∷◌, Ok, length, drop}
use Rattle.kind.specs.Kind.{Kind}
use Rattle.chip.specs.Chip.{Lawful}
use Rattle.orders.specs.Table.{total}
use Rattle.orders.specs.Orders.{orders}
use Rattle.updater.specs.State.{after, running, current_order}
use Rattle.starts.specs.Types.{Layout, State}
use Rattle.starts.specs.Starts.{start_answer, counted, progress_answer}

-- The number of an order, as `progress` gives it, is its place in the run's list of orders.
pub record OrdersAreCounted : Type 0 where
  -- The first order of a run has the number 1;
  pub first : (kind : Kind) → Lawful kind → (layout : Layout) (image : List ℕ) (state : State) → start_answer kind layout image ≡ Ok state → progress_answer state ≡ Ok (counted 1 (total layout (length image)))
  -- the order after one has the next number, and as many are counted in all;
  pub next : (state : State) (order all : ℕ) → progress_answer state ≡ Ok (counted order all) → running (after state) ≡ true → progress_answer (after state) ≡ Ok (counted (order + 1) all)
  -- the one after which the run has ended has the number of all;
  pub last : (state : State) (order all : ℕ) → progress_answer state ≡ Ok (counted order all) → running (after state) ≡ false → order ≡ all
  -- and the order with a number is the one that the run's list has there: after it, those from that number on are left.
  pub listed : (kind : Kind) (state : State) (image : List ℕ) (before all : ℕ) → state.image_length ≡ length image → progress_answer state ≡ Ok (counted (before + 1) all) →
      drop before (orders kind state.layout image) ≡ current_order kind state image ∷ drop (before + 1) (orders kind state.layout image)
