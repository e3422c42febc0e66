-- The reading of packets as the code scans them, step by step. Nothing here is part of what the public calls promise: only contracts of functions that are no public calls cite it.
use Rattle.std.specs.Prelude.{ℕ, zero, suc, ◌+◌, ◌-◌, ◌*◌, ◌≤◌, ◌≡◌, Bool, true, false, List, length, get_or, drop, eqb}
use Rattle.framing.specs.Words.{words, word_at}
use Rattle.packets.specs.Header.{WBSTAR}
use Rattle.packets.specs.Trace.{Before, opened, other, Trace, wrote, desync, iprog, faulty, short, trace, mode_of, last_wbstar, target}
use Rattle.scanner.specs.Types.{Write, Finish, Effect, GoesOn, Desync, EffectIprog, FinishEnded, FinishIprog, FinishFault, FinishShort, Scanner, Status, Going, AtWrite, AtEnd, AtIprog, AtFault, AtShort}

-- What scanning comes to: the write that it was sent for, with the data words left in its packet, or the end.
pub data ScanResult : Type 0 where
  ScanReached : Write → ℕ → ScanResult
  ScanFinished : Finish → ScanResult

-- what a trace comes to for one who passes `skip` writes and wants the next
unfoldable pub scanned : Trace → ℕ → ℕ → ℕ → ScanResult
scanned (wrote write left more) zero writes wbstar = ScanReached write left
scanned (wrote write left more) (suc skip) writes wbstar = scanned more skip (writes + 1) (last_wbstar write wbstar)
scanned (desync end) skip writes wbstar = ScanFinished (FinishEnded end writes)
scanned (iprog place) skip writes wbstar = ScanFinished (FinishIprog place (target wbstar))
scanned (faulty place) skip writes wbstar = ScanFinished (FinishFault place)
scanned short skip writes wbstar = ScanFinished FinishShort

-- what the word just before allows
unfoldable pub before_of : Bool → ℕ → Before
before_of true register = opened register
before_of false register = other

-- what a scanner that goes on comes to, from where it is
unfoldable pub scanned_from : List ℕ → Scanner → ScanResult
scanned_from s w =
    scanned (trace (words (drop w.at s)) w.at (mode_of w.left w.register (before_of w.opened w.register))) w.skip w.writes w.wbstar

-- what a scanner comes to, by its status
unfoldable pub scanned_by : Status → List ℕ → Scanner → ScanResult
scanned_by Going s w = scanned_from s w
scanned_by AtWrite s w = ScanReached (record { register = w.register; word = word_at s w.at; place = w.at }) w.left
scanned_by AtEnd s w = ScanFinished (FinishEnded w.at w.writes)
scanned_by AtIprog s w = ScanFinished (FinishIprog w.at (target w.wbstar))
scanned_by AtFault s w = ScanFinished (FinishFault w.at)
scanned_by AtShort s w = ScanFinished FinishShort

abbrev pub scan_of : List ℕ → Scanner → ScanResult
scan_of s w = scanned_by w.status s w

-- the writes passed are at most the bytes passed, and a write that was reached lies whole within the bytes
unfoldable pub InBoundsBy : Status → ℕ → Scanner → Type 0
InBoundsBy Going size w = w.writes ≤ w.at
InBoundsBy AtWrite size w = w.at + 4 ≤ size
InBoundsBy AtEnd size w = Unit {0}
InBoundsBy AtIprog size w = Unit {0}
InBoundsBy AtFault size w = Unit {0}
InBoundsBy AtShort size w = Unit {0}

abbrev pub InBounds : ℕ → Scanner → Type 0
InBounds size w = InBoundsBy w.status size w

-- how many bytes a scanner may still have to read: what falls with every step
unfoldable pub bytes_left : Status → ℕ → ℕ → ℕ
bytes_left Going size at = suc (size - at)
bytes_left AtWrite size at = 0
bytes_left AtEnd size at = 0
bytes_left AtIprog size at = 0
bytes_left AtFault size at = 0
bytes_left AtShort size at = 0

-- What a step keeps: what the scanner comes to, and that fewer bytes are left.
pub record StepKeeps (s : List ℕ) (w r : Scanner) : Type 0 where
  pub same : scan_of s r ≡ scan_of s w
  pub held : InBounds (length s) r
  pub nearer : bytes_left r.status (length s) r.at ≤ length s - w.at

-- a scanner that goes on and is before a header
abbrev pub AtHeader : Scanner → Type 0
AtHeader w = (w.status ≡ Going) × (w.left ≡ 0) × (w.writes ≤ w.at)

abbrev pub scanner_from : ℕ → ℕ → Scanner
scanner_from from skip = record { at = from; register = 0; left = 0; opened = false; skip = skip; writes = 0; wbstar = 0; status = Going }

abbrev pub scanner_after_header : Scanner → ℕ → ℕ → Bool → Scanner
scanner_after_header w register left opens = record {
  at = w.at + 4;
  register = register;
  left = left;
  opened = opens;
  skip = w.skip;
  writes = w.writes;
  wbstar = w.wbstar;
  status = Going;
}

abbrev pub scanner_stopped : Scanner → ℕ → ℕ → Status → Scanner
scanner_stopped w at writes status = record {
  at = at;
  register = w.register;
  left = w.left;
  opened = false;
  skip = w.skip;
  writes = writes;
  wbstar = w.wbstar;
  status = status;
}

abbrev pub scanner_at_write : Scanner → ℕ → Scanner
scanner_at_write w run = record {
  at = w.at + 4 * run;
  register = w.register;
  left = w.left - 1 - run;
  opened = false;
  skip = 0;
  writes = 0;
  wbstar = 0;
  status = AtWrite;
}

abbrev pub scanner_after_packet : List ℕ → Scanner → Scanner
scanner_after_packet s w = record {
  at = w.at + 4 * w.left;
  register = 0;
  left = 0;
  opened = false;
  skip = w.skip - w.left;
  writes = w.writes + w.left;
  wbstar = elim (eqb w.register WBSTAR) [ true ↦ get_or (words (drop w.at s)) (w.left - 1) 0 | false ↦ w.wbstar ];
  status = Going;
}

-- the scanner where the data word after `run` more ends the reading
unfoldable pub scanner_at_end : Scanner → ℕ → Effect → Scanner
scanner_at_end w run GoesOn = scanner_stopped w (w.at + 4 * run) 0 AtShort
scanner_at_end w run Desync = scanner_stopped w (w.at + 4 * run + 4) (w.writes + run + 1) AtEnd
scanner_at_end w run EffectIprog = scanner_stopped w (w.at + 4 * run) 0 AtIprog
