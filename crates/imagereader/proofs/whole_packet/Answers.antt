-- `whole_packet` meets its contract where a data word ends the packet or jumps.
use Prim.Native.Nat.{◌+◌}
use mathlib.Core.Path.{sym, ◌∙◌}
use native.Mathlib.Omega.{arith}
use Rattle.framing.proofs.Laws.{room}
use Rattle.scanner.proofs.Laws.{least}
use Rattle.imagereader.proofs.PacketLaws.{packet_ended}
use Rattle.imagereader.proofs.whole_packet.Goals as goal

pub returns-then-run-here : goal.returns-then-run-here
returns-then-run-here c =
    let args = c.args in
    let run = c.count_plain_words-run in
    let here = room args.image.now args.first in
    let more = room args.image.now (args.first + 4) in
    let least_is = least args.left c.words_from.result c.min-here.result c.min-here.ensures in
    c.ended_packet.ensures
    ∙ sym (packet_ended args.image.now args.register args.first args.left (omega arith) run.result (omega arith) (omega arith) run.ensures.quiet (run.ensures.stops c.if-run-here.true))
