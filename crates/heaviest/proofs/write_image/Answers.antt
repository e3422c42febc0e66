-- `write_image` meets its contract.
use Rattle.std.proofs.Common.{◌≡◌, sym, ap, ◌∙◌, length, Err, rules}
use borrow.Author.Tests.{leb-true, leb-false}
use Rattle.base.proofs.Laws.{asked_ok, asked_err, gives}
use Rattle.heaviest.specs.Heaviest.{most_numbers}
use Rattle.heaviest.proofs.ImageLaws.{most_refused, most_is, most_small, most_written}
use Rattle.heaviest.proofs.write_image.Goals as goal

pub returns-in_err-writes : goal.returns-in_err-writes
returns-in_err-writes c =
    let a = sym c.most_writes.ensures.same ∙ c.in_err-writes.was in
    let e = most_refused c.args.image_length _ a (length c.args.out.now) c.args.out.now in
    let same : c.from_residual.result ≡ Err c.in_err-writes.field-0.0 = search rules in
    record {
      answer = gives most_numbers _ _ (same ∙ sym e.0);
      output = sym e.1;
    }

pub returns-in_err-ask : goal.returns-in_err-ask
returns-in_err-ask c =
    let a = sym c.most_writes.ensures.same ∙ c.in_ok-writes.was in
    let no = asked_err _ _ _ (sym c.ask.ensures ∙ c.in_err-ask.was) in
    let e = most_small c.args.image_length _ a c.args.out.now (leb-false _ _ no.0) in
    let same : c.from_residual-in_err-ask.result ≡ Err c.in_err-ask.field-0.0 = search rules in
    record {
      answer = gives most_numbers _ _ (same ∙ ap (λ r. Err r) (sym no.1) ∙ sym e.0);
      output = sym e.1;
    }

pub put_image-requires : goal.put_image-requires
put_image-requires c =
    let m = most_is c.args.image_length _ (sym c.most_writes.ensures.same ∙ c.in_ok-writes.was) in
    (m.0, m.1, m.2, leb-true _ _ (asked_ok _ _ (sym c.ask.ensures ∙ c.in_ok-ask.was)))

pub returns : goal.returns
returns c =
    let a = sym c.most_writes.ensures.same ∙ c.in_ok-writes.was in
    let e = most_written c.args.image_length _ a c.args.out.now (leb-true _ _ (asked_ok _ _ (sym c.ask.ensures ∙ c.in_ok-ask.was))) in
    record {
      answer = gives most_numbers _ _ (sym e.0);
      output = c.put_image.ensures ∙ sym e.1;
    }
