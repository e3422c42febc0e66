-- `passes` meets its contract. The loop's invariant: the pass from here on is that over the whole text, and no more data bytes came than characters.
use borrow.Author.Rules.{rules}
use native.Mathlib.Omega.{arith}
use mathlib.Core.Path.{◌≡◌, sym, ◌∙◌}
use mathlib.Core.Bool.{false}
use Rattle.mcsline.proofs.Laws.{Told, told_long, told_upper, told_end}
use Rattle.canonical.specs.Pass.{text_passes}
use Rattle.canonicaltest.proofs.PassLaws.{pass_start, pass_none, pass_refused, pass_data, pass_other, pass_upper, pass_lower, pass_more, pass_end}
use Rattle.canonicaltest.proofs.passes.Goals as goal
use Rattle.canonicaltest.proofs.passes.Goals.{In-Ok}

-- The line at the loop's place is parsed.
told : (c : In-Ok) → Told c.args.text.now c.loop-at.at c.in-Ok.line
told c = record { inside = omega arith; is = sym c.in-Ok.is ∙ c.parse.ensures }

pub loop-at-init : goal.loop-at-init
loop-at-init c = record { within = omega arith; fewer = omega arith; reached = pass_start c.args.text.now }

pub returns-in_default : goal.returns-in_default
returns-in_default c = pass_refused c.loop-at.invariant.reached (omega arith) (sym c.in_default.is ∙ c.parse.ensures)

pub overflow_sub-end : goal.overflow_sub-end
overflow_sub-end c = let l = told_long (told (goal.at.overflow_sub-end c).In-Ok) c.in-Data.is in omega arith

pub returns-then-not-data_fits : goal.returns-then-not-data_fits
returns-then-not-data_fits c = pass_other c.loop-at.invariant.reached (told (goal.at.returns-then-not-data_fits c).In-Ok) c.in-Data.is (sym c.if-not-data_fits.true ∙ c.data_fits.ensures)

pub overflow_add-next : goal.overflow_add-next
overflow_add-next c = let l = told_long (told (goal.at.overflow_add-next c).In-Ok) c.in-Data.is in record { fits = omega arith }

pub loop-at-smaller-in-Data : goal.loop-at-smaller-in-Data
loop-at-smaller-in-Data c = let l = told_long (told (goal.at.loop-at-smaller-in-Data c).In-Ok) c.in-Data.is in omega arith

pub loop-at-preserved-in-Data : goal.loop-at-preserved-in-Data
loop-at-preserved-in-Data c =
    let t = told (goal.at.loop-at-preserved-in-Data c).In-Ok in
    let l = told_long t c.in-Data.is in
    record {
      within = omega arith;
      fewer = omega arith;
      reached = pass_data c.loop-at.invariant.reached t c.in-Data.is (sym c.if-not-data_fits.false ∙ c.data_fits.ensures);
    }

pub overflow_sub-end-in-ExtendedLinearAddress : goal.overflow_sub-end-in-ExtendedLinearAddress
overflow_sub-end-in-ExtendedLinearAddress c = let l = told_upper (told (goal.at.overflow_sub-end-in-ExtendedLinearAddress c).In-Ok) c.in-ExtendedLinearAddress.is in omega arith

pub returns-then-not-upper_fits : goal.returns-then-not-upper_fits
returns-then-not-upper_fits c =
    pass_lower c.loop-at.invariant.reached (told (goal.at.returns-then-not-upper_fits c).In-Ok) c.in-ExtendedLinearAddress.is (sym c.if-not-upper_fits.true ∙ c.upper_fits.ensures)

pub loop-at-smaller : goal.loop-at-smaller
loop-at-smaller c = let l = told_upper (told (goal.at.loop-at-smaller c).In-Ok) c.in-ExtendedLinearAddress.is in omega arith

pub loop-at-preserved : goal.loop-at-preserved
loop-at-preserved c =
    let t = told (goal.at.loop-at-preserved c).In-Ok in
    let l = told_upper t c.in-ExtendedLinearAddress.is in
    record {
      within = omega arith;
      fewer = omega arith;
      reached = pass_upper c.loop-at.invariant.reached t c.in-ExtendedLinearAddress.is (sym c.if-not-upper_fits.false ∙ c.upper_fits.ensures);
    }

pub returns-then-end-text : goal.returns-then-end-text
returns-then-end-text c = c.end_fits.ensures ∙ pass_end c.loop-at.invariant.reached (told (goal.at.returns-then-end-text c).In-Ok) c.in-End.is (omega arith)

pub returns-else-end-text : goal.returns-else-end-text
returns-else-end-text c =
    let t = told (goal.at.returns-else-end-text c).In-Ok in
    let l = told_end t c.in-End.is in
    let no : false ≡ text_passes c.args.text.now = pass_more c.loop-at.invariant.reached t c.in-End.is (omega arith) in
    search rules

pub returns : goal.returns
returns c = pass_none c.loop-at.invariant.reached c.loop-at-test.false
