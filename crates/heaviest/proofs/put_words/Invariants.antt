-- `put_words` meets its contract. The loop's invariant: the first i words' bytes fill the front.
use Rattle.std.proofs.Common.{◌≡◌, take}
use Rattle.base.specs.Output.{front_filled}
use Rattle.framing.specs.Words.{bytes_of_words}
use Rattle.heaviest.proofs.put_words.Given as goal

abbrev pub invariant-loop-i : goal.invariant-loop-i
invariant-loop-i l = l.out ≡ front_filled (bytes_of_words (take l.i l.words)) l.initial.out
