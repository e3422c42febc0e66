-- What only the contracts of functions that are no public calls cite: what the two passes over a text go by. No promise rests on it.
use Rattle.std.specs.Prelude.{ℕ, ◌≤◌, length, Result, Ok, Err}
use Rattle.mcs.specs.Types.{Refusal}
use Rattle.mcs.specs.Reading.{Reading}

-- what the first pass keeps of a reading
unfoldable pub size_of : Reading → Result ℕ Refusal
size_of (Ok image) = Ok (length image)
size_of (Err refusal) = Err refusal

-- there is room for what a text holds
unfoldable pub Fits : Reading → ℕ → Type 0
Fits (Ok image) room = length image ≤ room
Fits (Err refusal) room = ⊥
