-- What crates above may count on of a line, beside the contracts: a record's text is parsed to it and a parsed line is its record's text; a line by its place in the text; and the numbers that a line is refused with.
pub use Rattle.mcsline.proofs.RecordLaws.{both_bytes, bytes_apart, all_bytes, text_parsed, parsed_text, pairs_bytes, summed_long, record_long, record_room}
pub use Rattle.mcsline.proofs.TextLaws.{not_lf}
pub use Rattle.mcsline.proofs.LineLaws.{first_lf, first_on, one_line, cut, line_long}
pub use Rattle.mcsline.proofs.DataLaws.{after, line_refused, DataAt, Told, told_bytes, told_data, told_long, told_upper, told_end}
pub use Rattle.mcsline.proofs.NumberLaws.{refused_number}
