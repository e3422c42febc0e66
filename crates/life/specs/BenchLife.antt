-- The bench is a life: chip and state are those that a list of events leads to, so that the claim about lists is one about it too.
use Rattle.std.specs.Prelude.{ℕ, ◌≤◌, ◌≡◌, false, List, [], ◌∷◌, ◌++◌, length, take, drop, Some, Ok}
use Rattle.kind.specs.Kind.{Kind}
use Rattle.life.specs.Types.{Layout, State}
use Rattle.orders.specs.Table.{total}
use Rattle.orders.specs.Orders.{Order, orders}
use Rattle.updater.specs.State.{first, ended}
use Rattle.effects.specs.Effects.{obeyed_span, obeyed_all, Bytes}
use Rattle.bench.specs.Bench.{bench_answer, bench_output}
use Rattle.life.specs.Life.{fresh, Event, starts, carries, cuts, Valid, life, obeying}

-- the order that is cut inside, and the cut; a run that has ended is not cut
unfoldable pub cut_events : List Order → List ℕ → List ℕ → List Event
cut_events [] chip damage = []
cut_events (order ∷ more) chip damage = carries (take (length (obeyed_span order chip)) damage) ∷ cuts ∷ []

-- k of the orders, each obeyed and with its true reply, and then that
abbrev pub bench_events : ℕ → List ℕ → List Order → List ℕ → List ℕ → List Event
bench_events k image orders chip damage = obeying image (take k orders) chip ++ cut_events (drop k orders) (obeyed_all (take k orders) chip) damage

-- THE BENCH'S RUN as events, and the part of it before the cut order.
abbrev pub bench_run : Kind → Layout → List ℕ → List ℕ → ℕ → List ℕ → List Event
bench_run kind layout chip image k damage = starts layout image ∷ bench_events k image (orders kind layout image) chip damage

abbrev pub obeyed_run : Kind → Layout → List ℕ → List ℕ → ℕ → List Event
obeyed_run kind layout chip image k = starts layout image ∷ obeying image (take k (orders kind layout image)) chip

-- What a bench that answered a state has done.
pub record BenchLife (kind : Kind) (layout : Layout) (chip image : List ℕ) (k : ℕ) (damage : List ℕ) (state : State) : Type 0 where
  -- Its events keep the premises, and leave the chip that the bench leaves.
  pub valid : Valid kind layout.update_place (fresh chip) (bench_run kind layout chip image k damage)
  pub leaves : (life kind (fresh chip) (bench_run kind layout chip image k damage)).chip ≡ bench_output (Ok state) kind layout chip image k damage
  -- It answers with the run's state before order k + 1,
  pub before : (life kind (fresh chip) (obeyed_run kind layout chip image k)).run ≡ Some (record { state = state; image = image; carried = false })
  -- or with phase 7 and outcome 0 at the end.
  pub ends : total layout (length image) ≤ k → state ≡ ended (first layout (length image)) 0

abbrev pub BenchLives : Kind → Type 0
BenchLives kind =
    (layout : Layout) (chip image : List ℕ) (k : ℕ) (damage : List ℕ) (state : State) → bench_answer kind layout chip image k damage ≡ Ok state → layout.chip_length ≡ length chip → Bytes image → Bytes damage →
    BenchLife kind layout chip image k damage state
