-- `put_text` meets its contract: the part's lines at the front, and the end record's after them.
use Prim.Native.Nat.{◌+◌}
use mathlib.Core.Path.{refl, sym}
use mathlib.Core.List.{◌++◌}
use native.Mathlib.Omega.{arith}
use borrow.Author.Rules.{rules}
use lib.ListN.{length}
use Rattle.fields.proofs.Laws.{Put, put_after, put_front}
use Rattle.mcsline.specs.Record.{record_text}
use Rattle.canonical.specs.Canonical.{part_text, end_line}
use Rattle.canonical.proofs.Laws.{in_parts, end_long}
use Rattle.mcswriter.proofs.WriterLaws.{parts_long}
use Rattle.mcswriter.proofs.put_text.Goals as goal

pub put_part-end-requires : goal.put_part-end-requires
put_part-end-requires c = let l = parts_long c.args.image.now in (omega arith, omega arith)

pub put_end-requires : goal.put_end-requires
put_end-requires c = let l = parts_long c.args.image.now in search rules

pub returns : goal.returns
returns c =
    let image = c.args.image.now in
    let out = c.args.out.now in
    let l = parts_long image in
    let part = c.put_part-end in
    let end = c.put_end in
    let first : Put out 0 (part_text 0 image) (length (part_text 0 image)) part.new.out = record { long = refl; room = omega arith; is = part.ensures.output } in
    let both : Put out 0 (part_text 0 image ++ record_text end_line) (length (part_text 0 image) + 12) end.new.out =
    put_after first part.result (record_text end_line) 12 end.new.out part.ensures.place end_long (omega arith) end.ensures.output in
    rw (in_parts.whole image) (sym (put_front both))
