-- What crates above may count on of a chip that obeys, beside the contracts.
pub use Rattle.effects.proofs.ReachLaws.{in_reach}
pub use Rattle.effects.proofs.ProgressLaws.{Blank, order_within, span_size, Reaches, reached, chip_all, chip_length_law, chip_blank, erase_span, current_within, numbers_at}
