-- `orders_before` meets its contract: the counts of the phases, added up.
use mathlib.Core.Path.{◌≡◌}
use Rattle.orders.specs.Table.{count_before}
use Rattle.orders.proofs.orders_before.Given as goal

abbrev pub invariant-loop-i : goal.invariant-loop-i
invariant-loop-i l = l.orders ≡ count_before l.layout l.image_length l.i
