-- What is proved of the packet rules: how many of so many words can be writes. It is about words alone, so it holds however they are framed and whichever registers may be named.
use Rattle.std.specs.Prelude.{ℕ, ◌+◌, ◌≤◌, List, length}
use Rattle.packets.specs.Trace.{other, header, trace, list_of}

-- Not every word can be a write: of the words read from a header on one is none, and of more than 2,048 two are none.
pub record HeadersCost : Type 0 where
  -- The first of them is a header.
  pub one : (words : List ℕ) (place : ℕ) → 1 ≤ length words → length (list_of (trace words place (header other))) + 1 ≤ length words
  -- It cannot be of type 2, and a type 1 header has at most 2,047 data words: so of more than 2,048 words another is a type 2 header or that of a further packet, or is not read.
  pub two : (words : List ℕ) (place : ℕ) → 2049 ≤ length words → length (list_of (trace words place (header other))) + 2 ≤ length words
