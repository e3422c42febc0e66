-- What only contracts of functions that are no public calls cite.
use Rattle.std.specs.Prelude.{ℕ, List, ◌∷◌}
use Rattle.framing.specs.Words.{bytes_of_words}
use Rattle.heaviest.specs.Heaviest.{heaviest_headers}

-- the bytes before the data words
abbrev pub opening : ℕ → List ℕ
opening words = bytes_of_words (0xAA995566 ∷ heaviest_headers words)
