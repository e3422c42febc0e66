-- `scan::count_plain_words` meets its contract. The invariant: the data words so far let the reading go on.
use Rattle.std.proofs.Common.{ℕ, ◌<◌, ◌≡◌, get_or, drop}
use Rattle.framing.specs.Words.{words}
use Rattle.packets.specs.Header.{effect_of}
use Rattle.scanner.specs.Types.{GoesOn}
use Rattle.scanner.proofs.scan.count_plain_words.Given as goal

abbrev pub invariant-loop-i : goal.invariant-loop-i
invariant-loop-i l = (k : ℕ) → k < l.i → effect_of l.register (get_or (words (drop l.at l.s)) k 0) ≡ GoesOn
