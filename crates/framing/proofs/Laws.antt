-- What crates above may count on of framing, beside the contracts: where a sync word begins, what a search passes over, and words by their place.
pub use Rattle.framing.proofs.SearchLaws.{starts_begins, starts_length, starts_at, starts_all, starts_differs, starts_short, differs_at, stands_at, find_here, find_next, find_past, find_within}
pub use Rattle.framing.proofs.WordLaws.{word_of_law, bytes_word, words_of_bytes, bytes_words_append, bytes_words_length, bytes_of_zeros, word_of, word_bytes, word_after, room, words_cons, words_on}
unfoldable pub use Rattle.framing.proofs.WordLaws.{AllWords}
