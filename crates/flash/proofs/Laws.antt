-- What crates above may count on of flash bytes, beside the contracts: bytes in their places, and a byte's bits.
pub use Rattle.flash.proofs.FlashLaws.{get_d_any, span_at, span_length, overwrite_length, overwrite_before, overwrite_inside, overwrite_after, overwrite_append, paste_over, front_over, in_range, front_on, front_again, erased_length, erased_at, cleared_length, cleared_at}
pub use Rattle.flash.proofs.BitLaws.{half_bit, same_bits, all_ones, bit_most, bit_and_law, differ_most, bit_xor_law, not_xor, bit_not, each_bit, no_bit_differs}
