-- What crates above may count on of a layout, beside the contracts: what questions 1 to 4 say of its numbers, whoever asks them.
unfoldable pub use Rattle.kind.proofs.LayoutLaws.{on_layout}
pub use Rattle.kind.proofs.LayoutLaws.{chip_length_range, update_place_range, update_length_range, image_length_range, by_layout, by_numbers, allowed_asks, numbers_asked}
