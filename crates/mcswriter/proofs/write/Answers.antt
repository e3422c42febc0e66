-- `write` meets its contract.
use Rattle.std.proofs.Common.{◌≡◌, true, ℕ, Result, Ok, Err, length, sym, ap, ◌∙◌, rules, arith}
use borrow.Author.Tests.{leb-true}
use lib.Dec.{leb}
use Rattle.base.proofs.Laws.{gives, asked_ok, asked_err}
use Rattle.canonical.specs.Canonical.{canonical_text}
use Rattle.canonical.specs.Rule.{writable}
use Rattle.mcswriter.specs.Mcswriter.{text_numbers}
use Rattle.mcswriter.specs.Types.{NoRoom, Refusal}
use Rattle.mcswriter.proofs.WriterLaws.{refused_back, length_refused, length_is, no_room_law, with_room, written_back, writable_short}
use Rattle.mcswriter.proofs.write.Goals as goal
use Rattle.mcswriter.proofs.write.Goals.{In_ok-length}

-- Where the length was answered, the image can be written, and that is its text's length.
sized : (c : In_ok-length) → (writable (length c.args.image.now) ≡ true) × (c.in_ok-length.length ≡ length (canonical_text c.args.image.now))
sized c = length_is c.args.image.now c.args.out.now c.in_ok-length.length (sym c.text_length.ensures.same ∙ c.in_ok-length.was)

pub returns-in_err-length : goal.returns-in_err-length
returns-in_err-length c =
    let image = c.args.image.now in
    let out = c.args.out.now in
    let r = c.in_err-length.field-0.0 in
    let same : c.from_residual.result ≡ Err r = search rules in
    let answer = length_refused image out r (sym c.text_length.ensures.same ∙ c.in_err-length.was) in
    record {
      answer = gives text_numbers _ _ (same ∙ sym answer.0);
      output = sym answer.1;
      back = refused_back image out _ r same;
    }

pub returns-in_err-ask : goal.returns-in_err-ask
returns-in_err-ask c =
    let image = c.args.image.now in
    let out = c.args.out.now in
    let r = c.in_err-ask.field-0.0 in
    let same : c.from_residual-in_err-ask.result ≡ Err r = search rules in
    let l = sized (goal.at.returns-in_err-ask c).In_ok-length in
    let no = asked_err (leb c.in_ok-length.length (length out)) NoRoom r (sym c.ask.ensures ∙ c.in_err-ask.was) in
    let answer = no_room_law image out l.0 (rw l.1 at no.0) in
    record {
      answer = gives text_numbers _ _ (same ∙ ap (λ (q : Refusal). let e : Result ℕ Refusal = Err q in e) (sym no.1) ∙ sym answer.0);
      output = sym answer.1;
      back = refused_back image out _ r same;
    }

pub put_text-requires : goal.put_text-requires
put_text-requires c =
    let l = sized (goal.at.put_text-requires c).In_ok-length in
    let yes = leb-true _ _ (asked_ok (leb c.in_ok-length.length (length c.args.out.now)) NoRoom (sym c.ask.ensures ∙ c.in_ok-ask.was)) in
    (writable_short _ l.0, omega (arith, yes, l.1))

pub returns : goal.returns
returns c =
    let image = c.args.image.now in
    let out = c.args.out.now in
    let l = sized (goal.at.returns c).In_ok-length in
    let yes = rw l.1 at (asked_ok (leb c.in_ok-length.length (length out)) NoRoom (sym c.ask.ensures ∙ c.in_ok-ask.was)) in
    let answer = with_room image out l.0 yes in
    let put = c.put_text.ensures in
    let back = written_back image out c.put_text.new.out (λ i. omega (arith, c.type_inv.image i)) l.0 (leb-true _ _ yes) put in
    record {
      answer = gives text_numbers _ _ (ap (λ (n : ℕ). let e : Result ℕ Refusal = Ok n in e) l.1 ∙ sym answer.0);
      output = put ∙ sym answer.1;
      back = rw l.1 back;
    }
