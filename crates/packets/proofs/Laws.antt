-- What crates above may count on of the packet rules: which words are write headers, one word more, that a reading that ends has counted its writes, and that headers are no writes.
pub use Rattle.packets.proofs.HeaderLaws.{type1_write, type2_write, command_ok}
pub use Rattle.packets.proofs.TraceLaws.{counted, trace_data, trace_desync, trace_fault, trace_header, trace_iprog, trace_none}
pub use Rattle.packets.proofs.CostLaws.{headers_cost}
