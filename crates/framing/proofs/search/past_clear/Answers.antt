use Rattle.std.proofs.Common.{◌+◌, ◌-◌, ◌≡◌, ◌≤◌, length, sym, ◌∙◌, arith}
use Rattle.framing.proofs.SearchLaws.{find_past_clear}
use Rattle.framing.proofs.search.past_clear.Goals as goal

pub loop-at-preserved : goal.loop-at-preserved
loop-at-preserved c =
    let s = c.args.s.now in
    let at = c.loop-at.at in
    let on : at + 32 ≤ length s = omega arith in
    let block : at + 32 - at ≡ 32 = omega arith in
    let clear = rw block at (sym c.contains.ensures.value ∙ c.if-not-contains.true) in
    (omega arith, on, sym (find_past_clear s 32 at on clear) ∙ c.loop-at.invariant.2)
