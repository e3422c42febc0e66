-- What crates above may count on of digits and pairs, beside the contracts: a digit and its value, both ways, bytes one after the other, pairs by their place in the text, and a table's rule.
pub use Rattle.digits.proofs.DigitLaws.{digit_value, value_digit, is_digit_law, byte_of, hex_long, hex_append, total_end}
pub use Rattle.digits.proofs.PairLaws.{length_pairs, get_or_pairs, drop_pairs, take_pairs, summed_pairs, summed_none}
pub use Rattle.digits.proofs.TableLaws.{entry}
