-- The data words of every packet that a reader answers lie within the image.
use Rattle.std.proofs.Common.{◌≡◌, ◌≤◌, ◌+◌, ◌*◌, length, Ok, Some}
use Rattle.imagereader.specs.declared.Packet.{Packet}
use Rattle.chipcases.proofs.all_packets.Given as goal

abbrev pub invariant-loop : goal.invariant-loop
invariant-loop g l = (found : Packet) → l.answer ≡ Ok (Some found) → found.first + 4 * found.count ≤ length l.image
