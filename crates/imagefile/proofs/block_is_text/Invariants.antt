-- `block_is_text` meets its contract. The loop's invariant: all bytes are text where those before this place are, as `text` says, and those from here on.
use Rattle.std.proofs.Common.{◌≡◌, ◌&&◌, drop}
use Rattle.imagefile.specs.Imagefile.{is_text}
use Rattle.imagefile.proofs.block_is_text.Given as goal

abbrev pub invariant-loop-byte : goal.invariant-loop-byte
invariant-loop-byte l = (l.text && is_text (drop l.byte-index l.block)) ≡ is_text l.block
