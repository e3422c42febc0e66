-- `boot::report` meets its contract.
use Rattle.std.proofs.Common.{◌≡◌, Result, Ok, Err, sym, ap, ◌∙◌, rules}
use Rattle.base.proofs.Laws.{gives}
use Rattle.report.specs.Refusal.{report_numbers}
use Rattle.report.specs.Types.{Refusal, Boot}
use Rattle.report.proofs.AnswerLaws.{stuck_answer, refused_answer}
use Rattle.report.proofs.boot.report.Goals as goal

pub returns-in_err-sync : goal.returns-in_err-sync
returns-in_err-sync c =
    let same : c.from_residual.result ≡ Err c.in_err-sync.field-0.0 = search rules in
    let answer = refused_answer c.args.chip.now c.args.out.now c.in_err-sync.field-0.0 (sym c.in_err-sync.was ∙ c.answer.ensures.same) in
    record {
      answer = gives report_numbers _ _ (same ∙ sym answer.0);
      output = sym answer.1;
    }

pub returns-in-Stuck : goal.returns-in-Stuck
returns-in-Stuck c =
    let stuck = ap (λ (b : Boot). let answer : Result Boot Refusal = Ok b in answer) (sym c.in-Stuck.is) ∙ sym c.in_ok-sync.was ∙ c.answer.ensures.same in
    let answer = stuck_answer c.args.chip.now c.args.out.now c.in-Stuck.place stuck in
    record {
      answer = gives report_numbers _ _ (c.report_stuck.ensures.value ∙ sym answer.0);
      output = c.report_stuck.ensures.out_after ∙ sym answer.1;
    }
