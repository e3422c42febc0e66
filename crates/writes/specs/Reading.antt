-- The write at a scanner's place. Only contracts of functions that are no public calls cite it.
use Rattle.std.specs.Prelude.{ℕ, List}
use Rattle.framing.specs.Words.{word_at}
use Rattle.writes.specs.Types.{Write, Scanner}

abbrev pub write_at : List ℕ → Scanner → Write
write_at bytes w = record { register = w.register; word = word_at bytes w.at; place = w.at }
