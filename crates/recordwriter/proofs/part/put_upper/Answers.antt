-- `part::put_upper` meets its contract: at a multiple of 65,536 the upper half's line is its text, elsewhere there is none.
use Rattle.std.proofs.Common.{[], ◌/◌, arith}
use lib.Seq.{paste-zero}
use Rattle.recordwriter.proofs.LineLaws.{two_bytes}
use Rattle.recordwriter.proofs.PartLaws.{upper_line_law, upper_long, no_upper}
use Rattle.recordwriter.proofs.part.put_upper.Goals as goal

pub returns-then-place-ne0 : goal.returns-then-place-ne0
returns-then-place-ne0 c = record {
  place = rw (no_upper c.args.place c.if-place-ne0.true) (omega arith);
  output = rw (no_upper c.args.place c.if-place-ne0.true) (paste-zero c.args.out.now c.args.at []);
}

pub put_record-requires : goal.put_record-requires
put_record-requires c =
    let two = two_bytes (c.args.place / 65536) c.to_be_bytes.result (omega arith) c.to_be_bytes.ensures in
    rw two (omega arith, omega (arith, upper_long c.args.place c.if-place-ne0.false))

pub returns : goal.returns
returns c =
    let place = c.args.place in
    let whole = c.if-place-ne0.false in
    let two = two_bytes (place / 65536) c.to_be_bytes.result (omega arith) c.to_be_bytes.ensures in
    record {
      place = rw (upper_long place whole) (rw two at c.put_record.ensures.place);
      output = rw (upper_long place whole, upper_line_law place whole) (rw two at c.put_record.ensures.output);
    }
