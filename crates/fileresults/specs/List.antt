-- A C host gets an answer's numbers, each in a field: number and place, then the values in the order of the fields. What does not apply is 0. Here for a cursor over the writes.
use Rattle.std.specs.Prelude.{ℕ, List, get_or, drop, Option, Result, Ok, Err}
use Rattle.base.specs.Answer.{Numbered, value, refusal}
use Rattle.base.specs.Refusal.{number_of}
use Rattle.writes.specs.Cursor.{listing_numbers, step_numbers}
use Rattle.fileresults.specs.Types.{Refusal, Cursor, Step, TealsettleCursor, TealsettleListing, TealsettleStep}

-- The cursor that a host's numbers are, and a cursor's numbers, each in its field.
abbrev pub given_cursor : ℕ → ℕ → ℕ → ℕ → Cursor
given_cursor at register left remaining = record { at = at; register = register; left = left; remaining = remaining }

abbrev pub cursor_fields : List ℕ → TealsettleCursor
cursor_fields numbers = record {
  at = get_or numbers 0 0;
  register_number = get_or numbers 1 0;
  left = get_or numbers 2 0;
  remaining = get_or numbers 3 0;
}

-- `tealsettle_writes` and `tealsettle_image_writes`: a cursor before the first write, or a refusal
unfoldable pub listing_result : Result Cursor Refusal → TealsettleListing
listing_result answer = record {
  number = (listing_numbers answer).number;
  place = (listing_numbers answer).place;
  cursor = cursor_fields (listing_numbers answer).values;
}

-- in numbers: a step's. A step has no refusal of its own: the kind of chip is asked before it.
unfoldable pub next_numbers : Result (Option Step) Refusal → Numbered
next_numbers (Ok step) = step_numbers step
next_numbers (Err r) = refusal (number_of r.reason) r.place

-- `tealsettle_next_write`: a write and the cursor after it, or that there is none; or a refusal
unfoldable pub step_result : Result (Option Step) Refusal → TealsettleStep
step_result answer = record {
  number = (next_numbers answer).number;
  place = (next_numbers answer).place;
  found = value (next_numbers answer) 0;
  register_number = value (next_numbers answer) 1;
  word = value (next_numbers answer) 2;
  word_place = value (next_numbers answer) 3;
  cursor = cursor_fields (drop 4 (next_numbers answer).values);
}
