-- What crates above may count on of the table of orders, beside the contracts.
pub use Rattle.orders.proofs.TableLaws.{phases, area_segments, image_pages, area_pages, before_next, before_later, total_is}
pub use Rattle.orders.proofs.OrderLaws.{orders_length, order_at, pass_in_phase, page_at_law, page_length}
pub use Rattle.orders.proofs.JudgingLaws.{asked_for}
