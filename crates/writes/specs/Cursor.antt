-- A cursor over the writes: what it still has to give, and its next step.
use Rattle.std.specs.Prelude.{ℕ, zero, suc, ◌+◌, List, [], ◌∷◌, drop, take, Option, Some, None, Result}
use Rattle.base.specs.Answer.{Numbered, result, in_numbers}
use Rattle.framing.specs.Words.{words}
use Rattle.packets.specs.Header.{effect_of}
use Rattle.packets.specs.Trace.{other, Trace, wrote, desync, iprog, faulty, short, trace, mode_of, list_of}
use Rattle.writes.specs.Types.{GoesOn, Desync, EffectIprog, Write, Cursor, Step, Refusal}

-- a cursor before the first of `writes` writes of the packets from a place
abbrev pub cursor_at : ℕ → ℕ → Cursor
cursor_at from writes = record { at = from; register = 0; left = 0; remaining = writes }

-- the words from where a cursor is
abbrev pub trace_at : List ℕ → Cursor → Trace
trace_at bytes c = trace (words (drop c.at bytes)) c.at (mode_of c.left c.register other)

-- the writes that a cursor still has to give
abbrev pub remaining_writes : List ℕ → Cursor → List Write
remaining_writes bytes c = take c.remaining (list_of (trace_at bytes c))

-- the cursor after a write, with `left` data words of its packet to come; nothing is to come after DESYNC or IPROG
unfoldable pub after_write : Write → ℕ → ℕ → Cursor
after_write write left remaining = record {
  at = write.place + 4;
  register = write.register;
  left = left;
  remaining = elim (effect_of write.register write.word) [ GoesOn ↦ remaining | Desync ↦ 0 | EffectIprog ↦ 0 ];
}

-- the first write of a trace, with the cursor after it
unfoldable pub first_of : Trace → ℕ → Option Step
first_of (wrote write left more) remaining = Some (record { write = write; cursor = after_write write left remaining })
first_of (desync end) remaining = None
first_of (iprog place) remaining = None
first_of (faulty place) remaining = None
first_of short remaining = None

-- in numbers: 1, the write's register, word and place, and the cursor after it; 0 where there is none
unfoldable pub step_numbers : Option Step → Numbered
step_numbers (Some step) =
    let write = step.write in
    let c = step.cursor in
    result (1 ∷ write.register ∷ write.word ∷ write.place ∷ c.at ∷ c.register ∷ c.left ∷ c.remaining ∷ [])
step_numbers None = result (0 ∷ [])

-- a listing in numbers: its cursor's
abbrev pub listing_numbers : Result Cursor Refusal → Numbered
listing_numbers = in_numbers (λ c. c.at ∷ c.register ∷ c.left ∷ c.remaining ∷ [])

-- `Cursor::step`: the first write of the words from where the cursor is, unless none remains
unfoldable pub step_of : List ℕ → Cursor → Option Step
step_of bytes c = elim c.remaining [ zero ↦ None | suc remaining ↦ first_of (trace_at bytes c) remaining ]

-- what a step tells of the writes still to come: its own, and then those of the cursor that it hands back
unfoldable pub writes_after_step : List ℕ → Option Step → List Write
writes_after_step bytes (Some step) = step.write ∷ remaining_writes bytes step.cursor
writes_after_step bytes None = []

-- the k-th step, counted from 0
unfoldable pub nth_step : List ℕ → ℕ → Option Step → Option Step
nth_step bytes zero step = step
nth_step bytes (suc k) (Some step) = nth_step bytes k (step_of bytes step.cursor)
nth_step bytes (suc k) None = None
