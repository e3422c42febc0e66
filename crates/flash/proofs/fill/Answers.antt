-- `flash::fill` meets its contract.
use Rattle.std.proofs.Common.{ℕ, ◌+◌, ◌-◌, ◌≤◌, length, replicate, sym, ap, ◌∙◌, arith}
use Rattle.std.proofs.lemmas.List.{length-replicate}
use Rattle.flash.proofs.FlashLaws.{room, stays, part_over, span_length}
use Rattle.flash.proofs.fill.Goals as goal
use Rattle.flash.proofs.fill.Goals.{In_ok-ask_room}

pub returns-in_err-ask_room-clause-output : goal.returns-in_err-ask_room-clause-output
returns-in_err-ask_room-clause-output c = stays _ _ _ _ _ (sym c.ask_room.ensures ∙ c.in_err-ask_room.was)

-- The span lies within the chip.
fits : (c : In_ok-ask_room) → c.args.place + c.args.count ≤ length c.args.chip.now
fits c = room _ _ _ (sym c.ask_room.ensures ∙ c.in_ok-ask_room.was)

pub overflow_add-place : goal.overflow_add-place
overflow_add-place c = let f = fits (goal.at.overflow_add-place c).In_ok-ask_room in omega arith

pub slice_bounds-fill-end : goal.slice_bounds-fill-end
slice_bounds-fill-end c = let f = fits (goal.at.slice_bounds-fill-end c).In_ok-ask_room in omega arith

pub returns-clause-output : goal.returns-clause-output
returns-clause-output c =
    let f = fits (goal.at.returns-clause-output c).In_ok-ask_room in
    part_over c.args.chip.now c.args.place c.args.count (replicate c.args.count c.args.byte) _ f (length-replicate {A = ℕ} c.args.count c.args.byte)
    (c.fill.ensures.after (λ y h. h) ∙ ap (λ (n : ℕ). replicate n c.args.byte) (let l = span_length c.args.chip.now c.args.place (c.args.place + c.args.count - c.args.place) (omega arith) in omega arith))
