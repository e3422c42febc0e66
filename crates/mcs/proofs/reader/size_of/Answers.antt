-- `reader::size_of` meets its contract. The loop's invariant: the lines so far hold an image of `next` bytes, and the text reads as from here on.
use borrow.Author.Rules.{rules}
use native.Mathlib.Omega.{arith}
use mathlib.Core.Path.{◌≡◌, sym, ◌∙◌}
use Rattle.mcsline.proofs.Laws.{Told, told_long, told_upper}
use Rattle.std.specs.Prelude.{Ok}
use Rattle.mcs.proofs.ReadingLaws.{pass_none, pass_refused, pass_upper, pass_end, pass_more, pass_apart, pass_data}
use Rattle.mcs.proofs.reader.size_of.Goals as goal
use Rattle.mcs.proofs.reader.size_of.Goals.{In_ok-line}

-- The line at the loop's place is parsed.

told : (c : In_ok-line) → Told c.args.text.now c.loop-at.at c.in_ok-line.line
told c =
    let e : c.parse.result ≡ Ok c.in_ok-line.line = search rules in
    record { inside = omega arith; is = sym e ∙ c.parse.ensures }

pub returns-in_err-line : goal.returns-in_err-line
returns-in_err-line c = pass_refused c.loop-at.invariant.reached (omega arith) c.parse.ensures (search rules)

pub follows_on-requires : goal.follows_on-requires
follows_on-requires c = let l = told_long (told (goal.at.follows_on-requires c).In_ok-line) c.in-Data.is in omega arith

pub returns-then-not-follows_on : goal.returns-then-not-follows_on
returns-then-not-follows_on c =
    sym (pass_apart c.loop-at.invariant.reached (told (goal.at.returns-then-not-follows_on c).In_ok-line) c.in-Data.is (sym c.follows_on.ensures ∙ c.if-not-follows_on.true))

pub overflow_add-next : goal.overflow_add-next
overflow_add-next c = let l = told_long (told (goal.at.overflow_add-next c).In_ok-line) c.in-Data.is in record { fits = omega arith }

pub loop-at-smaller-in-Data : goal.loop-at-smaller-in-Data
loop-at-smaller-in-Data c = let l = told_long (told (goal.at.loop-at-smaller-in-Data c).In_ok-line) c.in-Data.is in omega arith

pub loop-at-preserved-in-Data : goal.loop-at-preserved-in-Data
loop-at-preserved-in-Data c =
    let t = told (goal.at.loop-at-preserved-in-Data c).In_ok-line in
    let l = told_long t c.in-Data.is in
    record {
      within = omega arith;
      shorter = omega arith;
      reached = pass_data c.loop-at.invariant.reached t c.in-Data.is (sym c.follows_on.ensures ∙ c.if-not-follows_on.false);
    }

pub loop-at-smaller : goal.loop-at-smaller
loop-at-smaller c = let l = told_upper (told (goal.at.loop-at-smaller c).In_ok-line) c.in-ExtendedLinearAddress.is in omega arith

pub loop-at-preserved : goal.loop-at-preserved
loop-at-preserved c =
    let t = told (goal.at.loop-at-preserved c).In_ok-line in
    let l = told_upper t c.in-ExtendedLinearAddress.is in
    record { within = omega arith; shorter = omega arith; reached = pass_upper c.loop-at.invariant.reached t c.in-ExtendedLinearAddress.is }

pub returns-then-end-text : goal.returns-then-end-text
returns-then-end-text c = sym (pass_more c.loop-at.invariant.reached (told (goal.at.returns-then-end-text c).In_ok-line) c.in-End.is c.if-end-text.true)

pub returns-in-End : goal.returns-in-End
returns-in-End c = sym (pass_end c.loop-at.invariant.reached (told (goal.at.returns-in-End c).In_ok-line) c.in-End.is c.if-end-text.false)

pub returns : goal.returns
returns c = sym (pass_none c.loop-at.invariant.reached c.loop-at-test.false)
