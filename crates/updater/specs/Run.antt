-- The public calls on a run, each as one definition. Document 01, "Orders of one run" and "Questions at the door".
use Rattle.std.specs.Prelude.{ℕ, Bool, true, false, List, [], ◌∷◌, ◌++◌, Option, Some, None, Result, Ok, Err, length}
use Rattle.base.specs.Refusal.{number_of, refused}
use Rattle.base.specs.Answer.{Numbered, result, in_numbers}
use Rattle.base.specs.Question.{ask}
use Rattle.kind.specs.Layout.{page}
use Rattle.flash.specs.Flash.{erased}
use Rattle.kind.specs.Kind.{Kind}
use Rattle.orders.specs.Table.{by_phase}
use Rattle.orders.specs.Orders.{Order, erase, program, look, operation_of, order_bytes}
use Rattle.orders.specs.Replies.{done, read, asks_for}
use Rattle.updater.specs.State.{state_numbers, after, ended, running, fits, current_order}
use Rattle.comparison.specs.Comparison.{differs}
use Rattle.updater.specs.Types.{Reason, BadState, RunEnded, BadReply, SwitchNotErased, UpdateDiffers, SwitchNotOn, Refusal, Operation, Erase, Program, Look, State, OrderAnswer, Reply, Next, Stopped, RefusedReply}

-- in numbers: 0 for a run that goes on; 1 and the outcome for one that has ended
unfoldable pub outcome_values : Option ℕ → List ℕ
outcome_values None = 0 ∷ []
outcome_values (Some outcome) = 1 ∷ outcome ∷ []

abbrev pub finished_numbers : Result (Option ℕ) Refusal → Numbered
finished_numbers = in_numbers outcome_values

-- `State::finished`: 7 for a state that does not fit (no image is lent), then whether the run has ended
unfoldable pub finished_case : Bool → State → Result (Option ℕ) Refusal
finished_case true state = Ok None
finished_case false state = Ok (Some state.outcome)

unfoldable pub finished_answer : State → Result (Option ℕ) Refusal
finished_answer state = ask (fits state state.image_length) (refused BadState 0) (finished_case (running state) state)

-- an operation in numbers: 1 erase, 2 program or 3 look, and its span
unfoldable pub operation_numbers : Operation → List ℕ
operation_numbers (Erase place length) = 1 ∷ place ∷ length ∷ []
operation_numbers (Program place length) = 2 ∷ place ∷ length ∷ []
operation_numbers (Look place length) = 3 ∷ place ∷ length ∷ []

-- an order in numbers: the operation, then the 256 bytes; 0, 0, 0 where it is refused
unfoldable pub order_result_numbers : Result Operation Refusal → List ℕ → Numbered
order_result_numbers (Ok operation) bytes = result (operation_numbers operation ++ bytes)
order_result_numbers (Err r) bytes = record { number = number_of r.reason; place = r.place; values = 0 ∷ 0 ∷ 0 ∷ bytes }

abbrev pub order_numbers : OrderAnswer → Numbered
order_numbers answer = order_result_numbers answer.result answer.bytes

-- `State::order`: 7 for a state that does not fit, 8 for a run that has ended, then the current order
abbrev pub ordered : Order → OrderAnswer
ordered order = record { result = Ok (operation_of order); bytes = order_bytes order }

abbrev pub order_refused : Reason → OrderAnswer
order_refused reason = record { result = refused reason 0; bytes = erased page }

unfoldable pub order_answer : Kind → State → List ℕ → OrderAnswer
order_answer kind state image =
    ask (fits state (length image)) (order_refused BadState)
    (ask (running state) (order_refused RunEnded) (ordered (current_order kind state image)))

-- in numbers: 1 for a stop, else 0, and the state handed back; a stop and a refusal have a number and a place
unfoldable pub reply_numbers : Result Reply RefusedReply → Numbered
reply_numbers (Ok (Next state)) = result (0 ∷ state_numbers state)
reply_numbers (Ok (Stopped number place state)) = record { number = number; place = place; values = 1 ∷ state_numbers state }
reply_numbers (Err r) = record { number = number_of r.refusal.reason; place = r.refusal.place; values = 0 ∷ state_numbers r.state }

-- a refusal, with the state that was given
abbrev pub refused_reply : Reason → ℕ → State → Result Reply RefusedReply
refused_reply reason place state = Err (record { refusal = record { reason = reason; place = place }; state = state })

-- The number of a stop: 10 in phase 1, 11 in phase 4, 12 in phase 6. No other phase looks.
unfoldable pub stop_of : ℕ → ℕ
stop_of phase = by_phase phase 0 (number_of SwitchNotErased) 0 0 (number_of UpdateDiffers) 0 (number_of SwitchNotOn) 0

-- Question 9: do the looked-at bytes agree? The stop is at the first differing address.
unfoldable pub compared : Option ℕ → State → Result Reply RefusedReply
compared None state = Ok (Next (after state))
compared (Some address) state = Ok (Stopped (stop_of state.phase) address (ended state (stop_of state.phase)))

-- questions 8 and 9 by the order
unfoldable pub replied_to : Order → State → ℕ → List ℕ → Result Reply RefusedReply
replied_to (erase place count) state reply_kind bytes = ask (asks_for done 0 reply_kind (length bytes)) (refused_reply BadReply 0 state) (Ok (Next (after state)))
replied_to (program place contents) state reply_kind bytes = ask (asks_for done 0 reply_kind (length bytes)) (refused_reply BadReply 0 state) (Ok (Next (after state)))
replied_to (look place expected) state reply_kind bytes =
    ask (asks_for read (length expected) reply_kind (length bytes)) (refused_reply BadReply 0 state) (compared (differs place bytes expected) state)

-- `State::reply`: 7, 8, 9, then 10 to 12. A refusal hands back the state it was given.
unfoldable pub reply_answer : Kind → State → List ℕ → ℕ → List ℕ → Result Reply RefusedReply
reply_answer kind state image reply_kind bytes =
    ask (fits state (length image)) (refused_reply BadState 0 state)
    (ask (running state) (refused_reply RunEnded 0 state) (replied_to (current_order kind state image) state reply_kind bytes))
