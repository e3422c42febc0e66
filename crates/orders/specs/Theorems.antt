-- What is proved of the table of orders: how many there are in all, as one sum.
use Rattle.std.specs.Prelude.{ℕ, ◌+◌, ◌/◌, ◌≡◌}
use Rattle.orders.specs.Types.{Layout}
use Rattle.orders.specs.Table.{total}

-- A run of an image of n bytes has A/4,096 + A/256 + n/256 rounded up + 19 orders.
abbrev pub TotalFormula : Type 0
TotalFormula = (layout : Layout) (n : ℕ) → total layout n ≡ layout.update_length / 4096 + layout.update_length / 256 + (n + 255) / 256 + 19
