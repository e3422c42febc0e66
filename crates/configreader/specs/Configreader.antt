-- From sync to sync. Document 01, "How the configuration reader reads".
use Rattle.std.specs.Prelude.{ℕ, zero, suc, ◌+◌, Bool, true, false, List, [], length, drop, ltb, Some, None}
use Rattle.framing.specs.Search.{find}
use Rattle.packets.specs.Trace.{finish_from, writes_from}
use Rattle.configreader.specs.Types.{FinishEnded, FinishIprog, FinishFault, FinishShort, Write, Outcome, Loaded, OutcomeIprog, Stuck}

-- What a reading from a sync comes to, given what an IPROG at a place with a target does. A word not complete before the end is a fault at the length read.
unfoldable pub read_at : (ℕ → ℕ → Outcome) → Bool → List ℕ → ℕ → Outcome
read_at on_jump jumped bytes sync =
    elim (finish_from bytes (sync + 4)) [
      | FinishEnded end writes ↦ Loaded sync end writes jumped
      | FinishIprog place target ↦ on_jump place target
      | FinishFault place ↦ Stuck place
      | FinishShort ↦ Stuck (length bytes)
    ]

-- The search hands over to reading; no sync is a fault at the length read.
unfoldable pub search_from : (ℕ → ℕ → Outcome) → Bool → List ℕ → ℕ → Outcome
search_from on_jump jumped bytes from =
    elim (find (drop from bytes) from) [ Some sync ↦ read_at on_jump jumped bytes sync | None ↦ Stuck (length bytes) ]

-- A jump hands back to the search. With no jump left an IPROG is a fault, and so is a jump to the length or beyond; both at the IPROG.
unfoldable pub jump : ℕ → List ℕ → ℕ → ℕ → Outcome
jump zero bytes place to = OutcomeIprog place
jump (suc left) bytes place to =
    elim (ltb to (length bytes)) [ true ↦ search_from (jump left bytes) true bytes to | false ↦ Stuck place ]

-- a reading from a place, unsynchronised, with `left` jumps left
abbrev pub read_from : ℕ → Bool → List ℕ → ℕ → Outcome
read_from left jumped bytes from = search_from (jump left bytes) jumped bytes from

-- a chip is read from byte 0, with one jump at most
abbrev pub read_chip : List ℕ → Outcome
read_chip chip = read_from 1 false chip 0

-- an image read alone has no jump
abbrev pub read_alone : List ℕ → Outcome
read_alone image = read_from 0 false image 0

-- The writes listed are those since the last jump, so from the last sync; a reading that is not Loaded lists none.
unfoldable pub listed : List ℕ → Outcome → List Write
listed bytes (Loaded sync end writes jumped) = writes_from bytes (sync + 4)
listed bytes (OutcomeIprog place) = []
listed bytes (Stuck place) = []
