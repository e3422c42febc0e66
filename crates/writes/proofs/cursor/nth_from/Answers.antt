-- `cursor::nth_from` meets its contract.
use Rattle.std.proofs.Common.{rules, Some, ◌≡◌, ap, ◌∙◌}
use Rattle.packets.specs.Trace.{nth_write, writes_from}
use Rattle.scanner.specs.Scan.{scan_of, InBoundsBy}
use Rattle.scanner.proofs.Laws.{at_write, at_end, scanned_write, nth_scan}
use Rattle.writes.specs.Types.{AtWrite}
use Rattle.writes.proofs.cursor.nth_from.Goals as goal
use Rattle.writes.proofs.cursor.nth_from.Goals.{After-scan-w}

came : (c : After-scan-w) → scanned_write (scan_of c.args.s.now c.scan-w.result) ≡ nth_write (writes_from c.args.s.now c.args.from) c.args.i
came c =
    let args = c.args in
    ap scanned_write c.scan-w.ensures.comes ∙ nth_scan args.s.now args.from args.i

pub returns-then-ne : goal.returns-then-ne
unfolding scanned_write
returns-then-ne c =
    let passed : c.scan-w.result.status ≡ AtWrite → ⊥ = search rules in
    let end = at_end c.args.s.now c.scan-w.result c.scan-w.ensures.stopped passed in
    rw end.1 at (came (goal.at.returns-then-ne c).After-scan-w)

pub write_at-requires : goal.write_at-requires
unfolding InBoundsBy
write_at-requires c =
    let reached : c.scan-w.result.status ≡ AtWrite = search rules in
    rw reached at c.scan-w.ensures.bounds

pub returns : goal.returns
unfolding scanned_write
returns c =
    let stands : c.scan-w.result.status ≡ AtWrite = search rules in
    let reached = at_write c.args.s.now c.scan-w.result stands in
    ap Some c.write_at.ensures ∙ rw reached at (came (goal.at.returns c).After-scan-w)
