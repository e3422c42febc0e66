-- `scan::header_step` meets its contract: each arm is one case of `after_header`.
use Prim.Native.Nat.{◌+◌, ◌<◌, ◌≤◌}
use mathlib.Core.Path.{◌≡◌, refl, sym, ap, ◌∙◌}
use native.Mathlib.Omega.{arith}
use borrow.Author.Tests.{not-true, not-false}
use lib.ListN.{length, drop}
use Rattle.framing.specs.Words.{words, word_at}
use Rattle.packets.specs.Header.{head_of}
use Rattle.packets.specs.Trace.{after_header, mode_of}
use Rattle.scanner.specs.Scan.{before_of}
use Rattle.framing.proofs.Laws.{room}
use Rattle.scanner.proofs.ScanLaws.{header_short, header_on, header_fault}
use Rattle.scanner.proofs.scan.header_step.Goals as goal
use Rattle.scanner.proofs.scan.header_step.Goals.{After-header_of, After-word_at}

-- at the word: there is one, it fits, and it is the first word of the definition
fits : (c : After-word_at) → c.args.w.at + 4 ≤ length c.args.s.now
fits c = omega (arith, room c.args.s.now c.args.w.at, c.words_from.ensures)

word-there : (c : After-word_at) → 0 < length (words (drop c.args.w.at c.args.s.now))
word-there c = omega (arith, c.words_from.ensures)

head-is : (c : After-header_of) → head_of (word_at c.args.s.now c.args.w.at) ≡ c.header_of.result
head-is c = sym (c.header_of.ensures ∙ ap head_of c.word_at.ensures)

pub returns-then-words_from-eq0 : goal.returns-then-words_from-eq0
returns-then-words_from-eq0 c = rw c.stopped.ensures (header_short c.args.s.now c.args.w c.requires.0 c.requires.1 c.requires.2 (sym c.words_from.ensures ∙ c.if-words_from-eq0.true))

pub word_at-requires : goal.word_at-requires
word_at-requires c = omega (arith, room c.args.s.now c.args.w.at, c.words_from.ensures)

pub after_header-requires : goal.after_header-requires
after_header-requires c = let l = fits (goal.at.after_header-requires c).After-word_at in omega (arith, c.well_formed)

pub after_header-requires-in-Type1 : goal.after_header-requires-in-Type1
after_header-requires-in-Type1 c = let l = fits (goal.at.after_header-requires-in-Type1 c).After-word_at in omega (arith, c.well_formed)

pub returns-then-not-w : goal.returns-then-not-w
unfolding after_header mode_of before_of
returns-then-not-w c = rw c.stopped-then-not-w.ensures (header_fault c.args.s.now c.args.w c.requires.0 c.requires.1 c.requires.2 (word-there (goal.at.returns-then-not-w c).After-word_at) (rw (head-is (goal.at.returns-then-not-w c).After-header_of ∙ c.in-Type2.is, not-true c.args.w.opened c.if-not-w.true) refl))

pub after_header-requires-in-Type2 : goal.after_header-requires-in-Type2
after_header-requires-in-Type2 c = let l = fits (goal.at.after_header-requires-in-Type2 c).After-word_at in omega (arith, c.well_formed)

pub returns-in-Nop : goal.returns-in-Nop
unfolding after_header mode_of before_of
returns-in-Nop c = rw c.after_header.ensures (header_on c.args.s.now c.args.w c.requires.0 c.requires.1 c.requires.2 (word-there (goal.at.returns-in-Nop c).After-word_at) _ _ _ (rw (head-is (goal.at.returns-in-Nop c).After-header_of ∙ c.in-Nop.is) refl))

pub returns-in-Type1 : goal.returns-in-Type1
unfolding after_header mode_of before_of
returns-in-Type1 c = rw c.after_header-in-Type1.ensures (header_on c.args.s.now c.args.w c.requires.0 c.requires.1 c.requires.2 (word-there (goal.at.returns-in-Type1 c).After-word_at) _ _ _ (rw (head-is (goal.at.returns-in-Type1 c).After-header_of ∙ c.in-Type1.is) refl))

pub returns-else-not-w : goal.returns-else-not-w
unfolding after_header mode_of before_of
returns-else-not-w c = rw c.after_header-in-Type2.ensures (header_on c.args.s.now c.args.w c.requires.0 c.requires.1 c.requires.2 (word-there (goal.at.returns-else-not-w c).After-word_at) _ _ _ (rw (head-is (goal.at.returns-else-not-w c).After-header_of ∙ c.in-Type2.is, not-false c.args.w.opened c.if-not-w.false) refl))

pub returns-in-Fault : goal.returns-in-Fault
unfolding after_header mode_of before_of
returns-in-Fault c = rw c.stopped-in-Fault.ensures (header_fault c.args.s.now c.args.w c.requires.0 c.requires.1 c.requires.2 (word-there (goal.at.returns-in-Fault c).After-word_at) (rw (head-is (goal.at.returns-in-Fault c).After-header_of ∙ c.in-Fault.is) refl))
