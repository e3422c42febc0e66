-- What a chip loads: the public calls on a chip's bytes, each as one definition. Document 01, "How the configuration reader reads" and "Questions at the door".
use Rattle.std.specs.Prelude.{ℕ, ◌+◌, cond, List, [], ◌∷◌, length, Option, Result, Ok, Err}
use Rattle.base.specs.Answer.{Numbered, result, refusal}
use Rattle.base.specs.Question.{ask}
use Rattle.base.specs.Refusal.{number_of, refused}
use Rattle.kind.specs.Layout.{chip_length_allowed}
use Rattle.kind.specs.Kind.{Kind}
use Rattle.packets.specs.Trace.{nth_write}
use Rattle.writes.specs.Cursor.{cursor_at}
use Rattle.bootreader.specs.Types.{BadChipLength, Refusal, Outcome, Loaded, OutcomeIprog, Stuck, Boot, BootLoaded, BootStuck, Write, Cursor}

-- What document 01 says of a chip for each case of a reading: a second IPROG is a fault like any other.
unfoldable pub boot_case : Outcome → Boot
boot_case (Loaded sync end writes jumped) = BootLoaded sync end writes jumped
boot_case (OutcomeIprog place) = BootStuck place
boot_case (Stuck place) = BootStuck place

-- a cursor before the first write that a reading lists
unfoldable pub cursor_of : Outcome → Cursor
cursor_of (Loaded sync end writes jumped) = cursor_at (sync + 4) writes
cursor_of (OutcomeIprog place) = cursor_at 0 0
cursor_of (Stuck place) = cursor_at 0 0

-- in numbers: 0, jumped or not, sync, end, writes; 1 where the chip is stuck, with its place and no number
unfoldable pub boot_numbers : Result Boot Refusal → Numbered
boot_numbers (Ok (BootLoaded sync end writes jumped)) = result (0 ∷ cond jumped 1 0 ∷ sync ∷ end ∷ writes ∷ [])
boot_numbers (Ok (BootStuck place)) = record { number = 0; place = place; values = 1 ∷ [] }
boot_numbers (Err r) = refusal (number_of r.reason) r.place

-- `boot::answer`
unfoldable pub boot_answer : Kind → List ℕ → Result Boot Refusal
boot_answer kind chip = ask (chip_length_allowed (length chip)) (refused BadChipLength 0) (Ok (boot_case (kind.reads chip)))

-- `boot::write`
unfoldable pub chip_write : Kind → List ℕ → ℕ → Result (Option Write) Refusal
chip_write kind chip i = ask (chip_length_allowed (length chip)) (refused BadChipLength 0) (Ok (nth_write (kind.lists chip (kind.reads chip)) i))

-- `boot::writes`
unfoldable pub chip_listing : Kind → List ℕ → Result Cursor Refusal
chip_listing kind chip = ask (chip_length_allowed (length chip)) (refused BadChipLength 0) (Ok (cursor_of (kind.reads chip)))
