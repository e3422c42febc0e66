-- `whole_report` meets its contract: no report is longer than the buffer, so none is refused.
use Rattle.std.proofs.Common.{◌≡◌, Ok, sym, ◌∙◌, arith, rules, length}
use Rattle.filereport.specs.Filereport.{file_report}
use Rattle.filereport.proofs.Laws.{file_report_fits}
use Rattle.bootreport.proofs.whole_report.Goals as goal
use Rattle.bootreport.proofs.whole_report.Goals.{After-report}

-- The answer is the report's length.
whole : (c : After-report) → c.report.result ≡ Ok (length (file_report c.args.text.now))
whole c = c.report.ensures.answer.same ∙ file_report_fits.written c.args.text.now (length c.args.out.now) (omega arith)

pub unwrap-requires : goal.unwrap-requires
unwrap-requires c = rw (whole (goal.at.unwrap-requires c).After-report) (search rules)

pub returns-clause-value : goal.returns-clause-value
returns-clause-value c = let e = whole (goal.at.returns-clause-value c).After-report in let same = sym c.unwrap.ensures ∙ e in cc
