-- `reading::scan` meets its contract. The invariant: the scanner here comes to what the scanner at the start comes to.
use mathlib.Core.Path.{◌≡◌}
use lib.ListN.{length}
use Rattle.scanner.specs.Scan.{scan_of, scanner_from, InBounds, bytes_left}
use Rattle.writes.proofs.reading.scan.Given as goal

abbrev pub invariant-loop-w : goal.invariant-loop-w
invariant-loop-w l = InBounds (length l.s) l.w × (scan_of l.s l.w ≡ scan_of l.s (scanner_from l.from l.skip))

abbrev pub decreases-loop-w : goal.decreases-loop-w
decreases-loop-w l = bytes_left l.w.status (length l.s) l.w.at
