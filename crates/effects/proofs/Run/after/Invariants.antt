-- `effects::Run::after` meets its contract. The loop's invariant: the state after so many orders.
use mathlib.Core.Path.{◌≡◌}
use lib.ListN.{length}
use Rattle.effects.proofs.ProgressLaws.{Reaches}
use Rattle.effects.proofs.Run.after.Given as goal

abbrev pub invariant-loop : goal.invariant-loop
invariant-loop l = Reaches l.initial.run.state.layout (length l.initial.run.image.now) l.counter l.run.state × (l.run.image ≡ l.initial.run.image)
