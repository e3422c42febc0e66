-- A C host gets an answer's numbers, each in a field: number and place, then the values in the order of the fields. What does not apply is 0. Here for a run.
use Rattle.std.specs.Prelude.{ℕ, List, get_or, drop, Option, Result}
use Rattle.base.specs.Answer.{value}
use Rattle.kind.specs.Layout.{layout_of}
use Rattle.updater.specs.Run.{finished_numbers, order_numbers, reply_numbers}
use Rattle.starts.specs.Starts.{start_numbers}
use Rattle.runresults.specs.Types.{Refusal, State, OrderAnswer, Reply, RefusedReply, TealsettleState, TealsettleStart, TealsettleOrder, TealsettleReply, TealsettleFinished}

-- The state that a host's numbers are, and a state's numbers, each in its field.
abbrev pub state_of : ℕ → ℕ → ℕ → ℕ → ℕ → ℕ → ℕ → State
state_of length update_place update_length n phase index outcome = record { layout = layout_of length update_place update_length; image_length = n; phase = phase; index = index; outcome = outcome }

abbrev pub state_fields : List ℕ → TealsettleState
state_fields numbers = record {
  length = get_or numbers 0 0;
  update = get_or numbers 1 0;
  area = get_or numbers 2 0;
  image_length = get_or numbers 3 0;
  phase = get_or numbers 4 0;
  index = get_or numbers 5 0;
  outcome = get_or numbers 6 0;
}

-- `tealsettle_start`: the first state, or a refusal
unfoldable pub start_result : Result State Refusal → TealsettleStart
start_result answer = record {
  number = (start_numbers answer).number;
  place = (start_numbers answer).place;
  state = state_fields (start_numbers answer).values;
}

-- `tealsettle_order`: 1 erase, 2 program or 3 look, its span and its bytes; or a refusal
unfoldable pub order_result : OrderAnswer → TealsettleOrder
order_result answer = record {
  number = (order_numbers answer).number;
  place = (order_numbers answer).place;
  operation = value (order_numbers answer) 0;
  address = value (order_numbers answer) 1;
  length = value (order_numbers answer) 2;
  bytes = drop 3 (order_numbers answer).values;
}

-- `tealsettle_reply`: the state handed back; after a stop or a refusal with its number and place
unfoldable pub reply_result : Result Reply RefusedReply → TealsettleReply
reply_result answer = record {
  number = (reply_numbers answer).number;
  place = (reply_numbers answer).place;
  stopped = value (reply_numbers answer) 0;
  state = state_fields (drop 1 (reply_numbers answer).values);
}

-- `tealsettle_finished`: whether the run has ended, with its outcome; or a refusal
unfoldable pub finished_result : Result (Option ℕ) Refusal → TealsettleFinished
finished_result answer = record {
  number = (finished_numbers answer).number;
  place = (finished_numbers answer).place;
  ended = value (finished_numbers answer) 0;
  outcome = value (finished_numbers answer) 1;
}
