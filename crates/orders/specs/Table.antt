-- How many orders the phases of a run have. Document 01, "Orders of one run".
use Rattle.std.specs.Prelude.{ℕ, zero, suc, ◌+◌, ◌/◌}
use Rattle.kind.specs.Layout.{page, segment}
use Rattle.orders.specs.Types.{Layout}

-- One of eight by the phase: what the table of orders says of phases 0 to 6, and of a run that has ended.
unfoldable pub by_phase {ℓ} : {A : Type ℓ} → ℕ → A → A → A → A → A → A → A → A → A
by_phase zero a b c d e f g h = a
by_phase (suc zero) a b c d e f g h = b
by_phase (suc (suc zero)) a b c d e f g h = c
by_phase (suc (suc (suc zero))) a b c d e f g h = d
by_phase (suc (suc (suc (suc zero)))) a b c d e f g h = e
by_phase (suc (suc (suc (suc (suc zero))))) a b c d e f g h = f
by_phase (suc (suc (suc (suc (suc (suc zero)))))) a b c d e f g h = g
by_phase (suc (suc (suc (suc (suc (suc (suc phase))))))) a b c d e f g h = h

-- n/256 rounded up
abbrev pub pages : ℕ → ℕ
pages n = (n + 255) / page

-- How many orders a phase has, for an image of n bytes: 1 erase; 16 looks; A/4,096 erases; n/256 rounded up, programs; A/256 looks; 1 program; 1 look; none.
unfoldable pub count : Layout → ℕ → ℕ → ℕ
count layout n phase = by_phase phase 1 (segment / page) (layout.update_length / segment) (pages n) (layout.update_length / page) 1 1 0

-- How many orders come before a phase.
unfoldable pub count_before : Layout → ℕ → ℕ → ℕ
count_before layout n zero = 0
count_before layout n (suc phase) = count_before layout n phase + count layout n phase

-- How many there are in all.
abbrev pub total : Layout → ℕ → ℕ
total layout n = count_before layout n 7
