-- `flash::program` meets its contract. The loop's invariant: the chip with the first i bytes of the span programmed.
use Prim.Native.Nat.{ℕ, ◌+◌, ◌<◌, ◌≤◌}
use mathlib.Core.Path.{◌≡◌, sym, ap, ◌∙◌}
use mathlib.Core.List.{List}
use native.Mathlib.Omega.{arith}
use native.Mathlib.Nat.{add-zero}
use native.Mathlib.Numerals.{add-one}
use lib.Bits.{bit_and}
use lib.ListN.{length, get_or, set}
use lib.Seq.{paste, paste-suc, length-paste, drop-paste, get_or-drop}
use Rattle.flash.specs.Flash.{span, after_program}
use Rattle.flash.proofs.FlashLaws.{room, stays, span_at, span_length, paste_over, in_range, cleared_length, cleared_at}
use Rattle.flash.proofs.program.Goals as goal
use Rattle.flash.proofs.program.Goals.{At-loop-i, In_ok-ask_room}

pub returns-in_err-ask_room-clause-output : goal.returns-in_err-ask_room-clause-output
returns-in_err-ask_room-clause-output c = stays _ _ _ _ _ (sym c.ask_room.ensures ∙ c.in_err-ask_room.was)

-- The span lies within the chip,
fits : (c : In_ok-ask_room) → c.args.place + length c.args.bytes.now ≤ length c.args.chip.now
fits c = room _ _ _ (sym c.ask_room.ensures ∙ c.in_ok-ask_room.was)

-- so as many bytes are programmed as there are;
programmed-length : (chip : List ℕ) (place : ℕ) (bytes : List ℕ) → place + length bytes ≤ length chip → length (after_program chip place bytes) ≡ length bytes
programmed-length chip place bytes f = cleared_length (span chip place (length bytes)) bytes (span_length chip place (length bytes) f)

-- the chip's length stays,
kept : (c : At-loop-i) → c.args.place + length c.args.bytes.now ≤ length c.args.chip.now → length c.loop-i.chip ≡ length c.args.chip.now
kept c f =
    let n = programmed-length c.args.chip.now c.args.place c.args.bytes.now f in
    ap (λ (l : List ℕ). length l) c.loop-i.invariant ∙ length-paste c.args.chip.now c.args.place (after_program c.args.chip.now c.args.place c.args.bytes.now) c.loop-i.i (omega arith) (omega arith)

-- and the byte that is programmed next is the chip's own.
next : (chip : List ℕ) (place : ℕ) (bytes : List ℕ) (i : ℕ) → place + length bytes ≤ length chip → i < length bytes →
    bit_and (get_or (paste chip place (after_program chip place bytes) i) (place + i) 0) (get_or bytes i 0) ≡ get_or (after_program chip place bytes) i 0
next chip place bytes i f h =
    let new = after_program chip place bytes in
    let n = programmed-length chip place bytes f in
    let old : get_or (paste chip place new i) (place + i) 0 ≡ get_or chip (place + i) 0 =
    rw (add-zero (place + i)) at (sym (get_or-drop (place + i) (paste chip place new i) 0 0) ∙ ap (λ (l : List ℕ). get_or l 0 0) (drop-paste chip place new i (omega arith) (omega arith)) ∙ get_or-drop (place + i) chip 0 0) in
    ap (λ (x : ℕ). bit_and x (get_or bytes i 0)) (old ∙ sym (span_at chip place (length bytes) i h))
    ∙ sym (cleared_at (span chip place (length bytes)) bytes i (span_length chip place (length bytes) f) h)

pub overflow_add-chip : goal.overflow_add-chip
overflow_add-chip c = let f = fits (goal.at.overflow_add-chip c).In_ok-ask_room in omega arith

pub bounds-chip-place : goal.bounds-chip-place
bounds-chip-place c = let f = fits (goal.at.bounds-chip-place c).In_ok-ask_room in let l = kept (goal.at.bounds-chip-place c).At-loop-i f in omega arith

pub bounds-chip-place-in-loop-i : goal.bounds-chip-place-in-loop-i
bounds-chip-place-in-loop-i c = let f = fits (goal.at.bounds-chip-place-in-loop-i c).In_ok-ask_room in let l = kept (goal.at.bounds-chip-place-in-loop-i c).At-loop-i f in omega arith

pub loop-i-preserved : goal.loop-i-preserved
loop-i-preserved c =
    let i = c.loop-i.i in
    let f = fits (goal.at.loop-i-preserved c).In_ok-ask_room in
    let n = programmed-length c.args.chip.now c.args.place c.args.bytes.now f in
    rw (c.loop-i.invariant, add-one)
    (ap (λ (byte : ℕ). set (paste c.args.chip.now c.args.place (after_program c.args.chip.now c.args.place c.args.bytes.now) i) (c.args.place + i) byte) (next c.args.chip.now c.args.place c.args.bytes.now i f (omega arith))
    ∙ paste-suc c.args.chip.now c.args.place (after_program c.args.chip.now c.args.place c.args.bytes.now) i 0 (omega arith) (omega arith))

pub returns-clause-output : goal.returns-clause-output
returns-clause-output c =
    let f = fits (goal.at.returns-clause-output c).In_ok-ask_room in
    let n = programmed-length c.args.chip.now c.args.place c.args.bytes.now f in
    let e : c.loop-i.i ≡ length (after_program c.args.chip.now c.args.place c.args.bytes.now) = omega arith in
    rw e at c.loop-i.invariant ∙ paste_over c.args.chip.now c.args.place (after_program c.args.chip.now c.args.place c.args.bytes.now) ∙ sym (in_range c.args.chip.now c.args.place (length c.args.bytes.now) (after_program c.args.chip.now c.args.place c.args.bytes.now) f)
