-- "In the switch segment each bit ends old or as ordered", word for word. The premises of specs/Life.antt say of a program: old, or as an obeying chip would hold it, which differs where a program has a 1 over an old 0. Here: for every order that a run can give, the two rules permit the same bytes, so that nothing is left out of demand 3.
use Rattle.std.specs.Prelude.{ℕ, ◌≡◌, true, false, List, [], ◌∷◌, Some}
use Rattle.flash.specs.Flash.{erased}
use Rattle.chip.specs.Cut.{MayLeave}
use Rattle.kind.specs.Kind.{Kind}
use Rattle.orders.specs.Orders.{Order, erase, program, look}
use Rattle.updater.specs.State.{running}
use Rattle.life.specs.Life.{Run, World, Event, starts, carries, replies, cuts, order_of_run, on_run, next, AdmissibleSpan, Admissible, Valid, life, LifeBegins}

-- What may stand in an order's span by the words: in segment 0 each bit old or as ordered, FF for an erase and its own bytes for a program; in the update area any bytes. Nothing is asked of a look.
unfoldable pub LiteralSpan : Order → List ℕ → List ℕ → Type 0
LiteralSpan (erase place count) chip left = MayLeave chip place (erased count) left
LiteralSpan (program place bytes) chip left = MayLeave chip place bytes left
LiteralSpan (look place bytes) chip left = Unit {0}

-- The order of a run before phase 7, carried out once.
pub record LiteralOrder (kind : Kind) (left : List ℕ) (run : Run) (w : World) : Type 0 where
  pub asked : running run.state ≡ true
  pub once : run.carried ≡ false
  pub leaves : LiteralSpan (order_of_run kind run) w.chip left

-- THE PREMISES BY THE WORDS: those of `Admissible`, but for what an order may leave.
unfoldable pub LiterallyAdmissible : Kind → ℕ → World → Event → Type 0
LiterallyAdmissible kind update_place w (starts layout image) = Admissible kind update_place w (starts layout image)
LiterallyAdmissible kind update_place w (carries left) = on_run w.run (⊥) (λ run. LiteralOrder kind left run w)
LiterallyAdmissible kind update_place w (replies image reply_kind bytes) = Admissible kind update_place w (replies image reply_kind bytes)
LiterallyAdmissible kind update_place w cuts = Admissible kind update_place w cuts

unfoldable pub LiterallyValid : Kind → ℕ → World → List Event → Type 0
LiterallyValid kind update_place w [] = Unit {0}
LiterallyValid kind update_place w (event ∷ events) = LiterallyAdmissible kind update_place w event × LiterallyValid kind update_place (next kind w event) events

-- THE THEOREM.
pub record AsOrdered (kind : Kind) : Type 0 where
  -- After any list that keeps the premises, the order that an open run asks for may leave the same bytes by both rules;
  pub permits : (update_place : ℕ) (w : World) → LifeBegins kind update_place w → (events : List Event) → Valid kind update_place w events →
      (run : Run) → (life kind w events).run ≡ Some run → running run.state ≡ true → run.carried ≡ false → (left : List ℕ) →
      (LiteralSpan (order_of_run kind run) (life kind w events).chip left → AdmissibleSpan (order_of_run kind run) (life kind w events).chip left)
      × (AdmissibleSpan (order_of_run kind run) (life kind w events).chip left → LiteralSpan (order_of_run kind run) (life kind w events).chip left)
  -- so a list keeps the premises by the words exactly if it keeps them by `Valid`.
  pub valid : (update_place : ℕ) (w : World) → LifeBegins kind update_place w → (events : List Event) → LiterallyValid kind update_place w events → Valid kind update_place w events
  pub literal : (update_place : ℕ) (w : World) → LifeBegins kind update_place w → (events : List Event) → Valid kind update_place w events → LiterallyValid kind update_place w events
