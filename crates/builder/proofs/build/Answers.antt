-- `builder::build` meets its contract.
use Rattle.std.proofs.Common.{◌≡◌, length, Err, sym, ap, ◌∙◌, rules, arith}
use Rattle.base.specs.Question.{ask}
use Rattle.base.proofs.Laws.{asked_ok, asked_err, gives}
use Rattle.kind.specs.Spi.{spi}
use Rattle.kind.specs.Layout.{layout_answer}
use Rattle.kind.proofs.Laws.{update_place_range, allowed_asks}
use Rattle.builder.specs.Builder.{build_numbers, build_answer, output_of}
use Rattle.builder.proofs.BuiltLaws.{Answer, built, questions, golden_room, layout_refused, golden_refused, golden_accepted, refused_stays, build_loads}
use Rattle.builder.proofs.build.Goals as goal
use Rattle.builder.proofs.build.Goals.{In_ok-check, In_ok-ask}

pub returns-in_err-check : goal.returns-in_err-check
returns-in_err-check c =
    let e = layout_refused c.args.layout c.args.golden.now (length c.args.out.now) _ (sym c.check.ensures.same ∙ c.in_err-check.was) in
    let k = refused_stays c.args.layout c.args.golden.now c.args.out.now _ e in
    let same : c.from_residual.result ≡ Err c.in_err-check.field-0.0 = search rules in
    record {
      answer = gives build_numbers _ _ (same ∙ e);
      output = k.0;
      loads = rw same k.1;
    }

-- after questions 1 to 3
allowed : (c : In_ok-check) → layout_answer c.args.layout ≡ built
allowed c = sym c.check.ensures.same ∙ c.in_ok-check.was

pub overflow_sub-layout : goal.overflow_sub-layout
overflow_sub-layout c =
    let u = update_place_range _ _ (allowed_asks c.args.layout (allowed (goal.at.overflow_sub-layout c).In_ok-check)).1 in
    omega arith

pub returns-in_err-check_within : goal.returns-in_err-check_within
returns-in_err-check_within c =
    let e = golden_refused c.args.layout c.args.golden.now (length c.args.out.now) (allowed (goal.at.returns-in_err-check_within c).In_ok-check) _ (sym c.check_within.ensures.same ∙ c.in_err-check_within.was) in
    let k = refused_stays c.args.layout c.args.golden.now c.args.out.now _ e in
    let same : c.from_residual-in_err-check_within.result ≡ Err c.in_err-check_within.field-0.0 = search rules in
    record {
      answer = gives build_numbers _ _ (same ∙ e);
      output = k.0;
      loads = rw same k.1;
    }

pub returns-in_err-ask : goal.returns-in_err-ask
unfolding ask
returns-in_err-ask c =
    let room = asked_err _ _ _ (sym c.ask.ensures ∙ c.in_err-ask.was) in
    let e = rw (room.0, room.1) at (golden_accepted c.args.layout c.args.golden.now (length c.args.out.now) (allowed (goal.at.returns-in_err-ask c).In_ok-check) _ (sym c.check_within.ensures.same ∙ c.in_ok-check_within.was)) in
    let k = refused_stays c.args.layout c.args.golden.now c.args.out.now _ e in
    let same : c.from_residual-in_err-ask.result ≡ Err c.in_err-ask.field-0.0 = search rules in
    record {
      answer = gives build_numbers _ _ (same ∙ e);
      output = k.0;
      loads = rw same k.1;
    }

-- after all of them
is_built : (c : In_ok-ask) → built ≡ build_answer spi c.args.layout c.args.golden.now (length c.args.out.now)
unfolding ask
is_built c = rw (asked_ok _ _ (sym c.ask.ensures ∙ c.in_ok-ask.was)) at (golden_accepted c.args.layout c.args.golden.now (length c.args.out.now) (sym c.check.ensures.same ∙ c.in_ok-check.was) _ (sym c.check_within.ensures.same ∙ c.in_ok-check_within.was))

pub write_chip-requires : goal.write_chip-requires
write_chip-requires c =
    let e = sym (is_built (goal.at.write_chip-requires c).In_ok-ask) in
    (golden_room c.args.layout c.args.golden.now (length c.args.out.now) e, (questions c.args.layout c.args.golden.now (length c.args.out.now) e).fits)

pub returns : goal.returns
unfolding output_of
returns c =
    let e = is_built (goal.at.returns c).In_ok-ask in
    let o = c.write_chip.ensures ∙ ap (λ (a : Answer). output_of spi a c.args.layout c.args.golden.now c.args.out.now) e in
    record {
      answer = gives build_numbers _ _ e;
      output = o;
      loads = rw (e, o) (build_loads c.args.layout c.args.golden.now c.args.out.now);
    }
