-- What crates above may count on of the words that a cut can leave, beside the contracts: that the lists are exact, how long they are, that at most one word is ON, and what the counts are for words written out.
pub use Rattle.outcomes.proofs.CountLaws.{program_computed, erase_computed, powers_of_two, on_at_most_once}
pub use Rattle.outcomes.proofs.ExactLaws.{outcomes_exact}
