-- A run's state, and its current order. Run, phase and outcome are document 01's terms. Document 01, "Orders of one run" and question 6.
use Rattle.std.specs.Prelude.{ℕ, ◌+◌, Bool, true, false, List, [], ◌∷◌, eqb, leb, ltb, get_or}
use Rattle.base.specs.Refusal.{number_of}
use Rattle.base.specs.Question.{ask}
use Rattle.kind.specs.Layout.{image_length_allowed, ask_layout}
use Rattle.kind.specs.Kind.{Kind}
use Rattle.updater.specs.Types.{SwitchNotErased, SwitchNotOn, Layout, State}
use Rattle.orders.specs.Table.{count, count_before}
use Rattle.orders.specs.Orders.{Order, erase, orders}

-- a state in numbers: F, U, A, n, phase, index, outcome
abbrev pub state_numbers : State → List ℕ
state_numbers state = state.layout.chip_length ∷ state.layout.update_place ∷ state.layout.update_length ∷ state.image_length ∷ state.phase ∷ state.index ∷ state.outcome ∷ []

-- How many orders come before a state's.
abbrev pub position : State → ℕ
position state = count_before state.layout state.image_length state.phase + state.index

-- A run begins at phase 0, index 0, outcome 0.
abbrev pub first : Layout → ℕ → State
first layout n = record { layout = layout; image_length = n; phase = 0; index = 0; outcome = 0 }

-- The state after the order of a state: the next index, or the next phase if that was the last of its own.
unfoldable pub after : State → State
after state =
    elim (ltb (state.index + 1) (count state.layout state.image_length state.phase)) [
      | true ↦ record { layout = state.layout; image_length = state.image_length; phase = state.phase; index = state.index + 1; outcome = state.outcome }
      | false ↦ record { layout = state.layout; image_length = state.image_length; phase = state.phase + 1; index = 0; outcome = state.outcome }
    ]

-- A stop hands back phase 7 and its outcome.
abbrev pub ended : State → ℕ → State
ended state outcome = record { layout = state.layout; image_length = state.image_length; phase = 7; index = 0; outcome = outcome }

-- Is the run before phase 7?
abbrev pub running : State → Bool
running state = ltb state.phase 7

-- An ended run's outcome is 0, or 10 to 12.
unfoldable pub outcome_allowed : ℕ → Bool
outcome_allowed outcome = elim (eqb outcome 0) [ true ↦ true | false ↦ ask (leb (number_of SwitchNotErased) outcome) false (leb outcome (number_of SwitchNotOn)) ]

-- Phase, index and outcome: before phase 7 the index of one of the phase's orders, and outcome 0; in phase 7 index 0.
unfoldable pub phase_consistent : State → Bool
phase_consistent state =
    elim (running state) [
      | true ↦ ask (ltb state.index (count state.layout state.image_length state.phase)) false (eqb state.outcome 0)
      | false ↦ ask (eqb state.phase 7) false (ask (eqb state.index 0) false (outcome_allowed state.outcome))
    ]

-- Question 6: does the state fit: question 1 to 4 numbers, phase, index, outcome, n the lent length?
unfoldable pub fits : State → ℕ → Bool
fits state lent =
    ask_layout (λ reason place. false) state.layout
    (ask (image_length_allowed state.layout.update_length state.image_length) false
    (ask (phase_consistent state) false (eqb state.image_length lent)))

-- The current order is the one at the state's position. (A state that fits, before phase 7, has one; no other gets as far.)
abbrev pub current_order : Kind → State → List ℕ → Order
current_order kind state image = get_or (orders kind state.layout image) (position state) (erase 0 0)
