-- What question 10 allows a cut order to leave.
use Prim.Native.Nat.{ℕ, ◌+◌, ◌≤◌}
use mathlib.Core.Path.{◌≡◌}
use mathlib.Core.Bool.{true}
use mathlib.Core.List.{List}
use native.Mathlib.Omega.{arith}
use lib.ListN.{length, take}
use Rattle.orders.specs.Orders.{Order, erase, program, look}
use Rattle.effects.specs.Effects.{order_place, obeyed_span, order_length, Bytes}
use Rattle.bench.specs.Bench.{damage_allowed}
use Rattle.life.specs.Life.{AdmissibleSpan}
use Rattle.effects.proofs.Laws.{span_size}
use Rattle.bench.proofs.Laws.{allows_may}

-- What question 10 allows a cut order to leave, a life allows.
pub damage_may : (o : Order) (chip damage : List ℕ) → order_place o + order_length o ≤ length chip → Bytes damage → damage_allowed o chip damage ≡ true →
    AdmissibleSpan o chip (take (length (obeyed_span o chip)) damage)
unfolding order_place order_length damage_allowed AdmissibleSpan
damage_may (erase place count) chip damage h bytes e = let n = span_size (erase place count) chip h in allows_may chip place (obeyed_span (erase place count) chip) damage (omega arith) bytes e
damage_may (program place contents) chip damage h bytes e = let n = span_size (program place contents) chip h in allows_may chip place (obeyed_span (program place contents) chip) damage (omega arith) bytes e
damage_may (look place expected) chip damage h bytes e = tt
