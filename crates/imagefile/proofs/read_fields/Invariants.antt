-- `read_fields` meets its contract. The loop's invariant: the fields from here, from this letter on, give what those from the first give.
use Rattle.std.proofs.Common.{◌≡◌, ◌≤◌, length, drop}
use Rattle.imagefile.specs.Imagefile.{letters, fields}
use Rattle.imagefile.proofs.read_fields.Given as goal

abbrev pub invariant-loop-letter : goal.invariant-loop-letter
invariant-loop-letter l = (l.at ≤ length l.file) × (l.letter-index ≤ 4) × (fields (drop l.letter-index letters) (drop l.at l.file) l.at ≡ fields letters (drop 13 l.file) 13)
