-- `update_place::read` meets its contract.
use Rattle.std.proofs.Common.{ℕ, ◌≤◌, ◌≡◌, length, sym, ap, ◌∙◌, Ok, Some, true, arith}
use Rattle.base.proofs.Laws.{asked_ok, gives}
use Rattle.kind.specs.Layout.{chip_length_allowed}
use Rattle.kind.specs.Spi.{spi_warm_boot}
use Rattle.kind.proofs.Laws.{chip_length_range}
use Rattle.chip.specs.UpdatePlace.{named_place, place_numbers}
use Rattle.chip.proofs.UpdatePlaceLaws.{place_found, place_nothing}
use Rattle.chip.proofs.update_place.read.Goals as goal
use Rattle.chip.proofs.update_place.read.Goals.{In_ok-ask, After-warm_boot_words-words}

allowed : (c : In_ok-ask) → chip_length_allowed (length c.args.chip.now) ≡ true
allowed c = sym c.chip_length_allowed.ensures ∙ asked_ok _ _ (sym c.ask.ensures ∙ c.in_ok-ask.was)

long : (c : In_ok-ask) → 16384 ≤ length c.args.chip.now
long c = (chip_length_range _ (allowed c)).0

-- The words made are those for the U that segment 1 names.
made : (c : After-warm_boot_words-words) → c.warm_boot_words-words.result ≡ spi_warm_boot (named_place c.args.chip.now)
made c = c.warm_boot_words-words.ensures ∙ ap spi_warm_boot c.word_at-update_place.ensures

pub word_at-update_place-requires : goal.word_at-update_place-requires
word_at-update_place-requires c = let l = long (goal.at.word_at-update_place-requires c).In_ok-ask in omega arith

pub bounds-chip-i : goal.bounds-chip-i
bounds-chip-i c = let l = long (goal.at.bounds-chip-i c).In_ok-ask in omega arith

pub returns-then-chip-i : goal.returns-then-chip-i
returns-then-chip-i c =
    gives place_numbers _ _
    (sym (place_nothing c.args.chip.now c.loop-i.i (allowed (goal.at.returns-then-chip-i c).In_ok-ask) (omega arith) (rw (made (goal.at.returns-then-chip-i c).After-warm_boot_words-words) at c.if-chip-i.true)))

pub returns : goal.returns
returns c =
    gives place_numbers _ _
    (ap (λ (u : ℕ). Ok (Some u)) c.word_at-update_place.ensures
    ∙ sym (place_found c.args.chip.now (allowed (goal.at.returns c).In_ok-ask) (λ j h. c.loop-i.invariant j (omega arith))))
