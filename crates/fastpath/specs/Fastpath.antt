-- Whole packets passed at once. The contracts of functions that are no public calls cite it.
use Rattle.std.specs.Prelude.{ℕ, ◌+◌, ◌≤◌, ◌≡◌, false, List, eqb, length, drop}
use Rattle.std.proofs.Math.Option.{some}
use Rattle.framing.specs.Words.{words, word_at}
use Rattle.packets.specs.Header.{CMD, WBSTAR, head_of}
use Rattle.packets.specs.Trace.{other, mode_of, after_header}
use Rattle.scanner.specs.Scan.{before_of, scan_of, AtHeader}
use Rattle.fastpath.specs.Types.{Scanner}

-- the header of a no-operation: there is but one
abbrev pub NOP : ℕ
NOP = 0x20000000

-- the header at a scanner's place begins a packet of `count` data words for `register`; only asked where there is one at least
abbrev pub PacketBegins : List ℕ → Scanner → ℕ → ℕ → Type 0
PacketBegins s w register count = after_header (head_of (word_at s w.at)) (before_of w.opened w.register) ≡ some (mode_of count register other)

-- the same of a packet whose words are only counted: its register takes no commands, and no place to jump to
pub record CountedBegins (s : List ℕ) (w : Scanner) (count : ℕ) : Type 0 where
  pub register : ℕ
  pub begins : PacketBegins s w register count
  pub no_command : eqb register CMD ≡ false
  pub no_place : eqb register WBSTAR ≡ false

-- What is asked of a packet of `count` data words before some are passed: the scanner is before its header, which is whole, and of so many words as `room` says none is wanted, nor are there fewer.
pub record HasRoom (s : List ℕ) (w : Scanner) (count room : ℕ) : Type 0 where
  pub ready : AtHeader w
  pub header : w.at + 4 ≤ length s
  pub unwanted : room ≤ w.skip
  pub there : count ≤ room → count ≤ length (words (drop (w.at + 4) s))

-- What skipping whole packets keeps: what the scanner comes to, that it is before a header, and that it does not go back or out of the bytes.
pub record SkipKeeps (s : List ℕ) (w r : Scanner) : Type 0 where
  pub same : scan_of s r ≡ scan_of s w
  pub ready : AtHeader r
  pub on : w.at ≤ r.at
  pub within : w.at ≤ length s → r.at ≤ length s
