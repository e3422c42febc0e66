-- `filereport::report` meets its contract.
use Prim.Native.Nat.{ℕ}
use mathlib.Core.Path.{◌≡◌, sym, ap, ◌∙◌}
use mathlib.Core.List.{List}
use native.Mathlib.Omega.{arith}
use lib.ListN.{length}
use Rattle.base.proofs.Laws.{gives}
use Rattle.base.specs.Output.{front_filled}
use Rattle.report.specs.Refusal.{report_numbers, written}
use Rattle.filereport.proofs.FileLaws.{shows_chip}
use Rattle.filereport.proofs.report.Goals as goal

pub returns-in-Ok-clause-answer : goal.returns-in-Ok-clause-answer
returns-in-Ok-clause-answer c =
    let out = c.args.out.now in
    let long : length c.built.new.chip ≡ 32768 = omega arith in
    let shown = shows_chip c.built.new.chip long (length out) out in
    gives report_numbers _ _ (c.report.ensures.answer.same ∙ shown.0 ∙ ap (λ (l : List ℕ). written l (length out)) (sym c.in-Ok.ensures))

pub returns-in-Ok-clause-output : goal.returns-in-Ok-clause-output
returns-in-Ok-clause-output c =
    let out = c.args.out.now in
    let long : length c.built.new.chip ≡ 32768 = omega arith in
    let shown = shows_chip c.built.new.chip long (length out) out in
    c.report.ensures.output ∙ shown.1 ∙ ap (λ (l : List ℕ). front_filled l out) (sym c.in-Ok.ensures)
