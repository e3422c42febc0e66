-- The start of a run, its number of orders, and the number of one of them, each call as one definition. Document 01, "Questions at the door".
use Rattle.std.specs.Prelude.{ℕ, ◌+◌, List, [], ◌∷◌, Result, Ok, length}
use Rattle.bootreader.specs.Image.{ask_image}
use Rattle.base.specs.Refusal.{refused}
use Rattle.base.specs.Answer.{Numbered, in_numbers}
use Rattle.base.specs.Question.{ask}
use Rattle.kind.specs.Layout.{image_length_allowed, ask_layout}
use Rattle.kind.specs.Kind.{Kind}
use Rattle.starts.specs.Types.{Reason, BadImageLength, BadState, RunEnded, Refusal, Layout, State, RunProgress}
use Rattle.orders.specs.Table.{total}
use Rattle.updater.specs.State.{state_numbers, position, first, running, fits}

-- Questions 1 to 3, 4 for the area A, and 5, and what is asked next. The image is read as the chip's kind reads it.
unfoldable pub ask_run {ℓ} : {A : Type ℓ} → Kind → (Reason → ℕ → A) → Layout → List ℕ → A → A
ask_run kind refused layout image rest =
    ask_layout refused layout
    (ask_image kind layout.update_length refused (λ sync end writes. rest) image)

-- in numbers: the first state
abbrev pub start_numbers : Result State Refusal → Numbered
start_numbers = in_numbers state_numbers

-- `start`: questions 1 to 5 (refusals 1 to 6), then the first state
unfoldable pub start_answer : Kind → Layout → List ℕ → Result State Refusal
start_answer kind layout image = ask_run kind refused layout image (Ok (first layout (length image)))

-- in numbers: how many orders
abbrev pub total_numbers : Result ℕ Refusal → Numbered
total_numbers = in_numbers (λ orders. orders ∷ [])

-- `total`: questions 1 to 4, then the number of orders
unfoldable pub total_answer : Layout → ℕ → Result ℕ Refusal
total_answer layout n = ask_layout refused layout (ask (image_length_allowed layout.update_length n) (refused BadImageLength 0) (Ok (total layout n)))

-- the number of an order, counted from 1, among as many in all
abbrev pub counted : ℕ → ℕ → RunProgress
counted order orders = record { order = order; orders = orders }

-- the number of a state's order, and how many orders its run has
abbrev pub progress_of : State → RunProgress
progress_of state = counted (position state + 1) (total state.layout state.image_length)

-- in numbers: the order's number, counted from 1, and how many orders
abbrev pub progress_numbers : Result RunProgress Refusal → Numbered
progress_numbers = in_numbers (λ progress. progress.order ∷ progress.orders ∷ [])

-- `progress`: 7 for a state that does not fit (no image is lent), 8 for a run that has ended, then the number of the current order and how many there are
unfoldable pub progress_answer : State → Result RunProgress Refusal
progress_answer state =
    ask (fits state state.image_length) (refused BadState 0)
    (ask (running state) (refused RunEnded 0) (Ok (progress_of state)))
