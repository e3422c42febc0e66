-- `bench::span_allowed` meets its contract.
use Prim.Native.Nat.{ℕ}
use mathlib.Core.Path.{sym, ap₂, ◌∙◌}
use native.Mathlib.Omega.{arith}
use lib.ListN.{take}
use Rattle.flash.specs.Flash.{erased}
use Rattle.flash.proofs.Laws.{erased_length}
use Rattle.bench.specs.Bench.{mixture}
use Rattle.bench.proofs.MixtureLaws.{allows_short, allows_far, allows_near}
use Rattle.bench.proofs.span_allowed.Goals as goal

pub returns-then-damage-count : goal.returns-then-damage-count
returns-then-damage-count c =
    let a = c.args in
    let n = erased_length a.count in
    sym (allows_short a.place a.others.now (erased a.count) a.damage.now (omega arith))

pub returns-then-place-ge-SEGMENT : goal.returns-then-place-ge-SEGMENT
returns-then-place-ge-SEGMENT c =
    let a = c.args in
    let n = erased_length a.count in
    sym (allows_far a.place a.others.now (erased a.count) a.damage.now (omega arith) (omega arith))

pub returns : goal.returns
returns c =
    let a = c.args in
    let n = erased_length a.count in
    let o = c.requires (omega arith) in
    c.mixes_with_erased.ensures
    ∙ ap₂ (λ (x y : ℕ). mixture a.others.now (erased x) (take y a.damage.now)) o (sym n)
    ∙ sym (allows_near a.place a.others.now (erased a.count) a.damage.now (omega arith) (omega arith))
