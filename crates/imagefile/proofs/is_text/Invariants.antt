-- `is_text` meets its contract. The loop's invariant: the bytes that are left are text where all of them are, and whole blocks leave the same of them.
use Rattle.std.proofs.Common.{◌≡◌}
use Rattle.imagefile.specs.Imagefile.{is_text}
use Rattle.imagefile.proofs.TextLaws.{tail_of}
use Rattle.imagefile.proofs.is_text.Given as goal

abbrev pub invariant-loop-block : goal.invariant-loop-block
invariant-loop-block l = (is_text l.block-iterator.rest.now ≡ is_text l.file) × (l.block-iterator.size ≡ 4096) × (tail_of l.block-iterator.rest.now ≡ l.rest)
