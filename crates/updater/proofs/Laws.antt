-- What crates above may count on of a run, beside the contracts: its numbers, the next state, and its current order.
pub use Rattle.updater.proofs.RunLaws.{Numbers, numbers_image, fits_says, running_says, first_fits, after_index, after_phase, last_or_not, after_fits, after_position, position_running, position_ended}
pub use Rattle.updater.proofs.OrderLaws.{index_at, current_order_law, orders_left, orders_ended}
pub use Rattle.updater.proofs.CallLaws.{fits_own}
use Rattle.updater.specs.Theorems.{CurrentOrders}

pub current_orders : CurrentOrders
current_orders = record { in_table = current_order_law; next_in_list = orders_left; none_left = orders_ended }
