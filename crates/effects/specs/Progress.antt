-- A run on a chip that obeys: the chip, and the run's state, after a number of orders. Document 01, "Orders of one run".
use Rattle.std.specs.Prelude.{ℕ, zero, suc, min, List, length, take}
use Rattle.kind.specs.Kind.{Kind}
use Rattle.effects.specs.Types.{Layout, State}
use Rattle.orders.specs.Table.{total}
use Rattle.orders.specs.Orders.{orders}
use Rattle.updater.specs.State.{first, after}
use Rattle.effects.specs.Effects.{obeyed_all}

-- The first k orders are obeyed in full. The chip that question 10 calls old is the one after them.
abbrev pub chip_after : Kind → Layout → List ℕ → ℕ → List ℕ → List ℕ
chip_after kind layout image k chip = obeyed_all (take k (orders kind layout image)) chip

-- the state after a number of orders
unfoldable pub state_after : ℕ → State → State
state_after zero state = state
state_after (suc more) state = state_after more (after state)

-- With k at or above the total the run ends.
abbrev pub state_at : Layout → List ℕ → ℕ → State
state_at layout image k = state_after (min k (total layout (length image))) (first layout (length image))
