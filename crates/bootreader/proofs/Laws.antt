-- What crates above may count on of the boot reader, beside the contracts: what an accepted image is and how one is refused, and what a chip lists.
unfoldable pub use Rattle.bootreader.proofs.AnswerLaws.{on_answer}
pub use Rattle.bootreader.proofs.AnswerLaws.{by_answer, write_by_answer, listing_by_answer, alone_stays, accepted_reads, accepted_lists, accepted_length, accepted_sync, opened_remaining, listed_length, chip_steps, image_steps, boots, booted, accepts, whole_writes}
pub use Rattle.bootreader.proofs.TheoremLaws.{cursor_lists, shortest_image_law, image_refusals}
