-- Words to packets to writes. Document 01, "How the configuration reader reads".
use Rattle.std.specs.Prelude.{ℕ, zero, suc, ◌+◌, ◌%◌, ◌^◌, true, false, List, [], ◌∷◌, map, drop, eqb, Option, Some, None, option_map, Result}
use Rattle.std.proofs.Math.Option as maybe
use Rattle.std.proofs.Math.Option.{some, none}
use Rattle.base.specs.Answer.{Numbered, in_numbers}
use Rattle.framing.specs.Words.{words}
use Rattle.packets.specs.Header.{head_of, effect_of, WBSTAR}
use Rattle.packets.specs.Types.{Header, Nop, Type1, Type2, BadHeader, GoesOn, Desync, EffectIprog, Finish, FinishEnded, FinishIprog, FinishFault, FinishShort, Write, Refusal}

-- What the word just before a header allows: a type 1 write header of count 0 opens its register to a type 2 header, every other word opens none.
pub data Before : Type 0 where
  opened : ℕ → Before
  other : Before

-- What the next word is: a header, with what the word just before it allows, or a data word for the register, with how many more come after it.
pub data Mode : Type 0 where
  header : Before → Mode
  payload : ℕ → ℕ → Mode

-- the mode in which `left` data words for the register come next, or else a header
unfoldable pub mode_of : ℕ → ℕ → Before → Mode
mode_of zero register before = header before
mode_of (suc more) register before = payload register more

-- A type 2 header uses the register of the word just before it, which must be a type 1 write header of count 0.
unfoldable pub after_header : Header → Before → maybe.Option Mode
after_header Nop before = some (header other)
after_header (Type1 register count) before = some (mode_of count register (opened register))
after_header (Type2 count) (opened register) = some (mode_of count register other)
after_header (Type2 count) other = none
after_header BadHeader before = none

-- What reading words does: writes, each with the data words left in its packet, and then an end.
pub data Trace : Type 0 where
  wrote : Write → ℕ → Trace → Trace
  desync : ℕ → Trace
  iprog : ℕ → Trace
  faulty : ℕ → Trace
  short : Trace

-- A data word is one write: register, word, place. DESYNC and IPROG are themselves writes, and what follows them is unread.
unfoldable pub trace : List ℕ → ℕ → Mode → Trace
trace [] place mode = short
trace (word ∷ more) place (header before) =
    elim (after_header (head_of word) before) [ none ↦ faulty place | some mode ↦ trace more (place + 4) mode ]
trace (word ∷ more) place (payload register left) =
    wrote (record { register = register; word = word; place = place }) left
    (elim (effect_of register word) [
      | GoesOn ↦ trace more (place + 4) (mode_of left register other)
      | Desync ↦ desync (place + 4)
      | EffectIprog ↦ iprog place
    ])

-- the last WBSTAR word
abbrev pub last_wbstar : Write → ℕ → ℕ
last_wbstar write before = elim (eqb write.register WBSTAR) [ true ↦ write.word | false ↦ before ]

-- IPROG jumps to the byte in bits 28 to 0 of the last WBSTAR word
abbrev pub target : ℕ → ℕ
target wbstar = wbstar % 2 ^ 29

-- how a trace ends, with the writes and the last WBSTAR word before it
unfoldable pub finish : Trace → ℕ → ℕ → Finish
finish (wrote write left more) writes wbstar = finish more (writes + 1) (last_wbstar write wbstar)
finish (desync end) writes wbstar = FinishEnded end writes
finish (iprog place) writes wbstar = FinishIprog place (target wbstar)
finish (faulty place) writes wbstar = FinishFault place
finish short writes wbstar = FinishShort

-- the writes of a trace, in order
unfoldable pub list_of : Trace → List Write
list_of (wrote write left more) = write ∷ list_of more
list_of (desync end) = []
list_of (iprog place) = []
list_of (faulty place) = []
list_of short = []

-- the trace of the words from a place just after a sync; no WBSTAR was written, and no header comes before
abbrev pub trace_from : List ℕ → ℕ → Trace
trace_from bytes from = trace (words (drop from bytes)) from (header other)

abbrev pub finish_from : List ℕ → ℕ → Finish
finish_from bytes from = finish (trace_from bytes from) 0 0

abbrev pub writes_from : List ℕ → ℕ → List Write
writes_from bytes from = list_of (trace_from bytes from)

-- the writes, places apart
abbrev pub contents : List Write → List (ℕ × ℕ)
contents writes = map (λ w. (w.register, w.word)) writes

-- the values of an answer: 1, register, word, place; 0 where there is none
abbrev pub write_values : Option Write → List ℕ
write_values (Some write) = 1 ∷ write.register ∷ write.word ∷ write.place ∷ []
write_values None = 0 ∷ []

abbrev pub write_numbers : Result (Option Write) Refusal → Numbered
write_numbers = in_numbers write_values

-- the i-th, counted from 0, or that there is none
unfoldable pub nth_write : List Write → ℕ → Option Write
nth_write [] i = None
nth_write (write ∷ more) zero = Some write
nth_write (write ∷ more) (suc i) = nth_write more i

-- a write that was fetched, its place apart
abbrev pub content_of : Option Write → Option (ℕ × ℕ)
content_of write = option_map (λ w. (w.register, w.word)) write
