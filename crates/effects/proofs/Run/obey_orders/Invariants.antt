-- `effects::Run::obey_orders` meets its contract. The loop's invariant: the state and the chip after so many orders.
use mathlib.Core.Path.{◌≡◌}
use lib.ListN.{length}
use Rattle.kind.specs.Spi.{spi}
use Rattle.effects.specs.Progress.{chip_after}
use Rattle.effects.proofs.ProgressLaws.{Reaches}
use Rattle.effects.proofs.Run.obey_orders.Given as goal

abbrev pub invariant-loop : goal.invariant-loop
invariant-loop l =
    Reaches l.initial.run.state.layout (length l.initial.run.image.now) l.counter l.run.state × (l.run.image ≡ l.initial.run.image)
    × (l.chip ≡ chip_after spi l.initial.run.state.layout l.initial.run.image.now l.counter l.initial.chip)
