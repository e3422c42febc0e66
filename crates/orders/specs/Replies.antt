-- The reply that an order asks for. Document 01, "Orders of one run" and question 8.
use Rattle.std.specs.Prelude.{ℕ, Bool, ◌&&◌, eqb}

-- A reply (document 01's term) is "done" for an erase or program, and the bytes read for a look: a number and bytes. "Done" has no bytes.
abbrev pub done : ℕ
done = 0

abbrev pub read : ℕ
read = 1

-- Question 8: is the reply the kind and length asked for?
abbrev pub asks_for : ℕ → ℕ → ℕ → ℕ → Bool
asks_for what bytes reply_kind lent = eqb reply_kind what && eqb lent bytes
