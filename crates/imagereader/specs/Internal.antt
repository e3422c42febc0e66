-- What only the contracts of functions that are no public calls cite. No promise rests on it.
use Rattle.std.specs.Prelude.{ℕ, ◌+◌, ◌*◌, List, length, Option, None, Result, Ok}
use Rattle.base.specs.Refusal.{refused}
use Rattle.imagereader.specs.Imagereader.{past_end, packet}
use Rattle.imagereader.specs.Types.{ImageFault, ImageJumps, Refusal, Effect, GoesOn, Desync, EffectIprog, Scanner, Status, Going, AtWrite, AtEnd, AtIprog, AtFault, AtShort, Packet}

-- the packet that ends with the data word after `run` more, by what that word does
unfoldable pub end_answer : List ℕ → ℕ → ℕ → ℕ → Effect → Result (Option Packet) Refusal
end_answer image register first run GoesOn = Ok None
end_answer image register first run Desync = packet register first (run + 1) (past_end image)
end_answer image register first run EffectIprog = refused ImageJumps (first + 4 * run)

-- what a scanner comes to that is at no write, by its status
unfoldable pub stop_by : Status → List ℕ → Scanner → Result (Option Packet) Refusal
stop_by Going image w = Ok None
stop_by AtWrite image w = Ok None
stop_by AtEnd image w = Ok None
stop_by AtIprog image w = refused ImageJumps w.at
stop_by AtFault image w = refused ImageFault w.at
stop_by AtShort image w = refused ImageFault (length image)

abbrev pub stop_answer : List ℕ → Scanner → Result (Option Packet) Refusal
stop_answer image w = stop_by w.status image w
