-- `flash::program` meets its contract. The loop's invariant: the chip with the first i bytes of the span programmed.
use mathlib.Core.Path.{◌≡◌}
use lib.Seq.{paste}
use Rattle.flash.specs.Flash.{after_program}
use Rattle.flash.proofs.program.Given as goal

abbrev pub invariant-loop-i : goal.invariant-loop-i
invariant-loop-i l = l.chip ≡ paste l.initial.chip l.place (after_program l.initial.chip l.place l.bytes) l.i
