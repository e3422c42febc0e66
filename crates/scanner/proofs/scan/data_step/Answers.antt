-- `scan::data_step` meets its contract: the first data word that ends or jumps, the wanted one, too few words, or the whole packet.
use Prim.Native.Nat.{◌-◌, ◌*◌, ◌≤◌, min}
use mathlib.Core.Path.{◌≡◌, sym}
use native.Mathlib.Omega.{arith}
use lib.ListN.{length, drop}
use Rattle.framing.specs.Words.{words}
use Rattle.framing.proofs.Laws.{room}
use Rattle.scanner.proofs.ScanLaws.{least, data_short, data_past, data_reached, data_end}
use Rattle.scanner.proofs.scan.data_step.Goals as goal
use Rattle.scanner.proofs.scan.data_step.Goals.{After-count_plain_words-run}

-- the numbers that the step goes by: the whole words from its place on, those of them in the packet, those of these before the wanted one, and how many of those let the reading go on
facts : (c : After-count_plain_words-run) →
    (length (words (drop c.args.w.at c.args.s.now)) ≡ c.words_from.result)
    × (4 * c.words_from.result ≤ length c.args.s.now - c.args.w.at)
    × (c.min-here.result ≡ min c.args.w.left c.words_from.result)
    × (c.min-most.result ≡ min c.min-here.result c.args.w.skip)
    × (c.count_plain_words-run.result ≤ c.min-most.result)
facts c =
    let e = c.words_from.ensures in
    (sym e, omega (arith, e, room c.args.s.now c.args.w.at), least _ _ _ c.min-here.ensures, least _ _ _ c.min-most.ensures, c.count_plain_words-run.ensures.within)

pub scan_end-requires : goal.scan_end-requires
scan_end-requires c = let f = facts (goal.at.scan_end-requires c).After-count_plain_words-run in (omega arith, c.requires.2)

pub returns-then-run-most : goal.returns-then-run-most
returns-then-run-most c = let f = facts (goal.at.returns-then-run-most c).After-count_plain_words-run in
    rw c.scan_end.ensures
    (data_end c.args.s.now c.args.w c.requires.0 c.requires.1 c.requires.2 c.count_plain_words-run.result (omega arith) (omega arith) (omega arith) c.count_plain_words-run.ensures.quiet (c.count_plain_words-run.ensures.stops c.if-run-most.true))

pub reached-requires : goal.reached-requires
reached-requires c = let f = facts (goal.at.reached-requires c).After-count_plain_words-run in (omega arith, omega (arith, c.well_formed))

pub returns-then-most-here : goal.returns-then-most-here
returns-then-most-here c = let f = facts (goal.at.returns-then-most-here c).After-count_plain_words-run in
    rw c.reached.ensures
    (data_reached c.args.s.now c.args.w c.requires.0 c.requires.1 c.requires.2 c.min-most.result (omega arith) (omega arith) (omega arith) (λ i h. c.count_plain_words-run.ensures.quiet i (omega arith)))

pub returns-then-here-w : goal.returns-then-here-w
returns-then-here-w c = let f = facts (goal.at.returns-then-here-w c).After-count_plain_words-run in
    rw c.stopped.ensures (data_short c.args.s.now c.args.w c.requires.0 c.requires.1 c.requires.2 (omega arith) (omega arith) (λ i h. c.count_plain_words-run.ensures.quiet i (omega arith)))

pub after_packet-requires : goal.after_packet-requires
after_packet-requires c = let f = facts (goal.at.after_packet-requires c).After-count_plain_words-run in (c.requires.1, omega arith, omega arith, c.requires.2)

pub returns : goal.returns
returns c = let f = facts (goal.at.returns c).After-count_plain_words-run in
    rw c.after_packet.ensures (data_past c.args.s.now c.args.w c.requires.0 c.requires.1 c.requires.2 (omega arith) (omega arith) (λ i h. c.count_plain_words-run.ensures.quiet i (omega arith)))
