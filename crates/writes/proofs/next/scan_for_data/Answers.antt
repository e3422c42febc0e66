-- `next::scan_for_data` meets its contract: the scanner passes no write, so it comes to the first.
use Prim.Native.Nat.{ℕ}
use mathlib.Core.Path.{◌≡◌, sym, ap, ◌∙◌}
use Rattle.std.proofs.Common.{rules, arith}
use Rattle.packets.specs.Trace.{trace_from}
use Rattle.scanner.specs.Scan.{scan_of, InBoundsBy}
use Rattle.scanner.proofs.Laws.{at_write, at_end}
use Rattle.writes.specs.Cursor.{first_of}
use Rattle.writes.specs.Next.{step_at}
use Rattle.writes.specs.Types.{AtWrite}
use Rattle.framing.proofs.Laws.{room}
use Rattle.writes.proofs.NextLaws.{step_scanned, first_scan, data_word}
use Rattle.writes.proofs.next.scan_for_data.Goals as goal
use Rattle.writes.proofs.next.scan_for_data.Goals.{After-scan-w}

came : (c : After-scan-w) (n : ℕ) → step_scanned (scan_of c.args.s.now c.scan-w.result) n ≡ first_of (trace_from c.args.s.now c.args.from) n
came c n =
    let args = c.args in
    ap (λ r. step_scanned r n) c.scan-w.ensures.comes ∙ first_scan args.s.now args.from n

pub returns-then-ne : goal.returns-then-ne
unfolding step_scanned step_at
returns-then-ne c = λ n.
    let passed : c.scan-w.result.status ≡ AtWrite → ⊥ = search rules in
    let end = at_end c.args.s.now c.scan-w.result c.scan-w.ensures.stopped passed in
    rw end.1 at (came (goal.at.returns-then-ne c).After-scan-w n)

pub returns : goal.returns
unfolding step_scanned step_at InBoundsBy
returns c = λ n.
    let s = c.args.s.now in
    let w = c.scan-w.result in
    let reached : w.status ≡ AtWrite = search rules in
    let whole = rw reached at c.scan-w.ensures.bounds in
    sym (data_word s w.at w.register w.left (omega (arith, room s w.at, whole)) n) ∙ rw (at_write s w reached) at (came (goal.at.returns c).After-scan-w n)
