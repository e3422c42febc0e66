-- The bench (document 01's term): a run on a chip's bytes, cut after k orders. Document 01, "Orders of one run" and question 10.
use Rattle.std.specs.Prelude.{ℕ, Bool, true, false, ◌&&◌, List, [], ◌∷◌, eqb, leb, ltb, length, take, drop, Result, Ok, Err}
use Rattle.std.specs.Int.Bits.{bit_and, bit_xor}
use Rattle.base.specs.Refusal.{refused}
use Rattle.base.specs.Answer.{Numbered, in_numbers}
use Rattle.base.specs.Question.{ask}
use Rattle.kind.specs.Layout.{segment, layout_of}
use Rattle.flash.specs.Flash.{span}
use Rattle.kind.specs.Kind.{Kind}
use Rattle.bench.specs.Types.{BadDamage, Refusal, Layout, State}
use Rattle.updater.specs.State.{state_numbers}
use Rattle.orders.specs.Orders.{Order, erase, program, look, orders}
use Rattle.effects.specs.Effects.{order_place, obeyed_span, leaves}
use Rattle.effects.specs.Progress.{chip_after, state_at}
use Rattle.starts.specs.Starts.{ask_run}

-- Each bit equals the old one or the ordered one: no bit of the new bytes differs from both.
unfoldable pub mixture : List ℕ → List ℕ → List ℕ → Bool
mixture (old ∷ olds) (ordered ∷ more) (new ∷ news) = eqb (bit_and (bit_xor new old) (bit_xor new ordered)) 0 && mixture olds more news
mixture (old ∷ olds) (ordered ∷ more) [] = true
mixture (old ∷ olds) [] news = true
mixture [] more news = true

-- Question 10: are there damage bytes for the span, and in segment 0 does each bit equal the old one or the ordered one?
unfoldable pub span_allows : ℕ → List ℕ → List ℕ → List ℕ → Bool
span_allows place old ordered damage =
    ask (leb (length ordered) (length damage)) false
    (elim (ltb place segment) [ true ↦ mixture old ordered (take (length ordered) damage) | false ↦ true ])

-- The same of an order and the chip before it. A look has no damage.
abbrev pub damages : Order → List ℕ → List ℕ → Bool
damages order chip damage = span_allows (order_place order) (span chip (order_place order) (length (obeyed_span order chip))) (obeyed_span order chip) damage

unfoldable pub damage_allowed : Order → List ℕ → List ℕ → Bool
damage_allowed (erase place count) chip damage = damages (erase place count) chip damage
damage_allowed (program place bytes) chip damage = damages (program place bytes) chip damage
damage_allowed (look place bytes) chip damage = true

-- The run is cut in the first of the orders left: its span then holds the first damage bytes. Where none is left the run has ended.
unfoldable pub cut_allowed : List Order → List ℕ → List ℕ → Bool
cut_allowed [] chip damage = true
cut_allowed (order ∷ more) chip damage = damage_allowed order chip damage

unfoldable pub cut_in : List Order → List ℕ → List ℕ → List ℕ
cut_in [] chip damage = chip
cut_in (order ∷ more) chip damage = leaves order chip (take (length (obeyed_span order chip)) damage)

-- in numbers: the state that was reached
abbrev pub bench_numbers : Result State Refusal → Numbered
bench_numbers = in_numbers state_numbers

-- `bench::cut_run`: questions 1 to 5, then 10; the run's state before order k + 1, and the chip as it then is. F is the length of the chip's bytes.
unfoldable pub bench_answer : Kind → Layout → List ℕ → List ℕ → ℕ → List ℕ → Result State Refusal
bench_answer kind layout chip image k damage =
    ask_run kind refused layout image
    (ask (cut_allowed (drop k (orders kind layout image)) (chip_after kind layout image k chip) damage) (refused BadDamage 0)
    (Ok (state_at layout image k)))

-- A refusal leaves the chip as it was.
unfoldable pub bench_output : Result State Refusal → Kind → Layout → List ℕ → List ℕ → ℕ → List ℕ → List ℕ
bench_output (Ok state) kind layout chip image k damage = cut_in (drop k (orders kind layout image)) (chip_after kind layout image k chip) damage
bench_output (Err r) kind layout chip image k damage = chip

abbrev pub bench_layout : List ℕ → ℕ → ℕ → Layout
bench_layout chip update_place update_length = layout_of (length chip) update_place update_length
