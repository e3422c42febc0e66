-- `flash::overwrite` meets its contract.
use Prim.Native.Nat.{◌+◌, ◌-◌, ◌≤◌}
use mathlib.Core.Path.{◌≡◌, sym, ◌∙◌}
use native.Mathlib.Omega.{arith}
use lib.ListN.{length}
use lib.Seq.{take-length}
use Rattle.flash.specs.Flash.{span}
use Rattle.flash.proofs.FlashLaws.{room, stays, span_length, front_over, in_range}
use Rattle.flash.proofs.overwrite.Goals as goal
use Rattle.flash.proofs.overwrite.Goals.{In_ok-ask_room}

pub returns-in_err-ask_room-clause-output : goal.returns-in_err-ask_room-clause-output
returns-in_err-ask_room-clause-output c = stays _ _ _ _ _ (sym c.ask_room.ensures ∙ c.in_err-ask_room.was)

-- The span lies within the chip.
fits : (c : In_ok-ask_room) → c.args.place + length c.args.bytes.now ≤ length c.args.chip.now
fits c = room _ _ _ (sym c.ask_room.ensures ∙ c.in_ok-ask_room.was)

pub slice_bounds-copy-count : goal.slice_bounds-copy-count
slice_bounds-copy-count c = let f = fits (goal.at.slice_bounds-copy-count c).In_ok-ask_room in omega arith

pub slice_bounds-copy-start : goal.slice_bounds-copy-start
slice_bounds-copy-start c = let f = fits (goal.at.slice_bounds-copy-start c).In_ok-ask_room in omega arith

pub copy-requires : goal.copy-requires
copy-requires c =
    let chip = c.args.chip.now in
    let place = c.args.place in
    let f = fits (goal.at.copy-requires c).In_ok-ask_room in
    let l : length (span chip place (length chip - place)) ≡ length chip - place = span_length chip place (length chip - place) (omega arith) in
    omega arith

pub returns-clause-output : goal.returns-clause-output
returns-clause-output c =
    let chip = c.args.chip.now in
    let place = c.args.place in
    let bytes = c.args.bytes.now in
    let f = fits (goal.at.returns-clause-output c).In_ok-ask_room in
    front_over chip place bytes _ (rw (take-length bytes) c.copy.ensures) ∙ sym (in_range chip place (length bytes) bytes f)
