-- `switch::read` meets its contract.
use Rattle.std.proofs.Common.{◌≤◌, ◌≡◌, length, refl, sym, ◌∙◌, true, arith}
use Rattle.base.specs.Question.{ask}
use Rattle.base.proofs.Laws.{asked_ok, gives}
use Rattle.kind.specs.Layout.{chip_length_allowed}
use Rattle.kind.proofs.Laws.{chip_length_range}
use Rattle.chip.specs.Switch.{switch_numbers, switch_case, switch_answer}
use Rattle.chip.proofs.SwitchLaws.{is_on_by}
use Rattle.chip.proofs.switch.read.Goals as goal
use Rattle.chip.proofs.switch.read.Goals.{In_ok-ask}

allowed : (c : In_ok-ask) → chip_length_allowed (length c.args.chip.now) ≡ true
allowed c = sym c.chip_length_allowed.ensures ∙ asked_ok _ _ (sym c.ask.ensures ∙ c.in_ok-ask.was)

long : (c : In_ok-ask) → 16384 ≤ length c.args.chip.now
long c = (chip_length_range _ (allowed c)).0

pub slice_bounds-starts_with-count : goal.slice_bounds-starts_with-count
slice_bounds-starts_with-count c = let l = long (goal.at.slice_bounds-starts_with-count c).In_ok-ask in omega arith

pub slice_bounds-starts_with-start : goal.slice_bounds-starts_with-start
slice_bounds-starts_with-start c = let l = long (goal.at.slice_bounds-starts_with-start c).In_ok-ask in omega arith

pub returns-then-starts_with : goal.returns-then-starts_with
unfolding switch_answer switch_case ask
returns-then-starts_with c =
    let l = long (goal.at.returns-then-starts_with c).In_ok-ask in
    gives switch_numbers _ _ (rw (allowed (goal.at.returns-then-starts_with c).In_ok-ask, is_on_by c.args.chip.now (omega arith) c.starts_with.ensures.value ∙ c.if-starts_with.true) refl)

pub returns : goal.returns
unfolding switch_answer switch_case ask
returns c =
    let l = long (goal.at.returns c).In_ok-ask in
    gives switch_numbers _ _ (rw (allowed (goal.at.returns c).In_ok-ask, is_on_by c.args.chip.now (omega arith) c.starts_with.ensures.value ∙ c.if-starts_with.false) refl)
