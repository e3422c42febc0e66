-- `boot::report_loaded` meets its contract.
use Rattle.std.proofs.Common.{◌≡◌, true, Err, sym, ap, ◌∙◌, rules, arith}
use Rattle.base.proofs.Laws.{asked_ok, asked_err}
use Rattle.report.specs.Types.{NoRoom}
use Rattle.report.proofs.AnswerLaws.{loaded_small, loaded_sync, loaded_room, loaded_put}
use Rattle.report.proofs.boot.report_loaded.Goals as goal
use Rattle.report.proofs.boot.report_loaded.Goals.{In_ok-ask}

-- Where the answer to the question is yes there is room.
room : (c : In_ok-ask) → c.has_room.result ≡ true
room c = asked_ok c.has_room.result NoRoom (sym c.ask.ensures ∙ c.in_ok-ask.was)

pub returns-in_err-ask : goal.returns-in_err-ask
returns-in_err-ask c =
    let args = c.args in
    let same : c.from_residual.result ≡ Err c.in_err-ask.field-0.0 = search rules in
    let no = asked_err c.has_room.result NoRoom c.in_err-ask.field-0.0 (sym c.ask.ensures ∙ c.in_err-ask.was) in
    let answer = loaded_small args.chip.now args.sync args.end args.writes args.jumped c.requires args.out.now (sym c.has_room.ensures ∙ no.0) in
    record {
      value = same ∙ ap (λ r. Err r) (sym no.1) ∙ sym answer.0;
      out_after = sym answer.1;
    }

pub overflow_add-sync : goal.overflow_add-sync
overflow_add-sync c =
    let args = c.args in
    omega (arith, loaded_sync args.chip.now args.sync args.end args.writes args.jumped c.requires, c.well_formed)

pub put_report-requires : goal.put_report-requires
put_report-requires c =
    let args = c.args in
    let yes = room (goal.at.put_report-requires c).In_ok-ask in
    let enough = loaded_room args.chip.now args.sync args.end args.writes args.jumped c.requires c.new-cursor.result c.new-cursor.ensures args.out.now (sym c.has_room.ensures ∙ yes) in
    rw (c.new-page.ensures.front, c.new-page.ensures.buffer) (omega (arith, enough))

pub returns-clause-value : goal.returns-clause-value
returns-clause-value c =
    let args = c.args in
    let answer = loaded_put args.chip.now args.sync args.end args.writes args.jumped c.requires c.new-cursor.result c.new-cursor.ensures c.new-page.result c.put_report.new.page c.put_report.ensures c.new-page.ensures.front in
    sym (rw c.new-page.ensures.buffer at answer.0)

pub returns-clause-out_after : goal.returns-clause-out_after
returns-clause-out_after c =
    let args = c.args in
    let answer = loaded_put args.chip.now args.sync args.end args.writes args.jumped c.requires c.new-cursor.result c.new-cursor.ensures c.new-page.result c.put_report.new.page c.put_report.ensures c.new-page.ensures.front in
    let same = rw c.new-page.ensures.buffer at answer.1 in
    search (rules, same)
