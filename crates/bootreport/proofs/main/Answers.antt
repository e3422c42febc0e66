-- `main` is safe: what it prints stands whole in the buffer.
use Rattle.std.proofs.Common.{◌≤◌, sym, arith, length}
use Rattle.std.proofs.lemmas.List.{length-take-le}
use Rattle.filereport.specs.Filereport.{file_report}
use Rattle.filereport.proofs.Laws.{file_report_fits}
use Rattle.report.proofs.Laws.{written_within}
use Rattle.bootreport.proofs.main.Goals as goal
use Rattle.bootreport.proofs.main.Goals.{After-whole_report-written}

-- The report stands whole in the buffer.
within : (c : After-whole_report-written) → c.whole_report-written.result ≤ length c.whole_report-written.new.out
within c =
    let out = c.buffer-out.result in
    let fits = written_within (file_report _) out _ (file_report_fits.written _ (length out) (omega arith)) in
    rw (c.whole_report-written.ensures.value, c.whole_report-written.ensures.out_after) fits

pub slice_bounds-out-end : goal.slice_bounds-out-end
slice_bounds-out-end c = within (goal.at.slice_bounds-out-end c).After-whole_report-written

pub slice_bounds-print-end : goal.slice_bounds-print-end
slice_bounds-print-end c = sym (length-take-le _ _ (within (goal.at.slice_bounds-print-end c).After-whole_report-written))
