-- `reader::fill` meets its contract. The loop's invariant: the lines so far are written, and the text reads as from here on.
use Rattle.mcsline.proofs.Laws.{Told, told_long, told_upper}
use Rattle.mcs.proofs.FillLaws.{fill_length, fill_none, fill_sound, fill_upper, fill_end, fill_pairs, fill_data, fill_fits}
use native.Mathlib.Omega.{arith}
use Rattle.mcs.proofs.reader.fill.Goals as goal
use Rattle.mcs.proofs.reader.fill.Goals.{After-parse_sound}

-- The line at the loop's place is parsed.

told : (c : After-parse_sound) → Told c.args.text.now c.loop-at.at c.parse_sound.result
told c = record { inside = omega arith; is = c.parse_sound.ensures }

pub parse_sound-requires : goal.parse_sound-requires
parse_sound-requires c = (omega arith, fill_sound c.loop-at.invariant.filled c.requires (omega arith))

pub decode-requires : goal.decode-requires
decode-requires c =
    let t = told (goal.at.decode-requires c).After-parse_sound in
    let l = told_long t c.in-Data.is in
    let r = fill_fits c.loop-at.invariant.filled c.requires t c.in-Data.is in
    let k = fill_length c.loop-at.invariant.filled c.requires in
    (omega arith, omega arith, fill_pairs c.loop-at.invariant.filled c.requires t c.in-Data.is)

pub overflow_add-next : goal.overflow_add-next
overflow_add-next c =
    let r = fill_fits c.loop-at.invariant.filled c.requires (told (goal.at.overflow_add-next c).After-parse_sound) c.in-Data.is in
    record { fits = omega arith }

pub loop-at-smaller-in-Data : goal.loop-at-smaller-in-Data
loop-at-smaller-in-Data c = let l = told_long (told (goal.at.loop-at-smaller-in-Data c).After-parse_sound) c.in-Data.is in omega arith

pub loop-at-preserved-in-Data : goal.loop-at-preserved-in-Data
loop-at-preserved-in-Data c =
    let t = told (goal.at.loop-at-preserved-in-Data c).After-parse_sound in
    let l = told_long t c.in-Data.is in
    record { within = omega arith; filled = rw c.decode.ensures (fill_data c.loop-at.invariant.filled c.requires t c.in-Data.is) }

pub loop-at-smaller : goal.loop-at-smaller
loop-at-smaller c = let l = told_upper (told (goal.at.loop-at-smaller c).After-parse_sound) c.in-ExtendedLinearAddress.is in omega arith

pub loop-at-preserved : goal.loop-at-preserved
loop-at-preserved c =
    let t = told (goal.at.loop-at-preserved c).After-parse_sound in
    let l = told_upper t c.in-ExtendedLinearAddress.is in
    record { within = omega arith; filled = fill_upper c.loop-at.invariant.filled c.requires t c.in-ExtendedLinearAddress.is }

pub returns-in-End : goal.returns-in-End
returns-in-End c = fill_end c.loop-at.invariant.filled c.requires (told (goal.at.returns-in-End c).After-parse_sound) c.in-End.is

pub returns : goal.returns
returns c = absurd (fill_none c.loop-at.invariant.filled c.requires c.loop-at-test.false)
