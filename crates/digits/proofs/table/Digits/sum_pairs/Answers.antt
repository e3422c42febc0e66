-- `Digits::sum_pairs` meets its contract. The loop's invariant: so far all are pairs, and the sum is theirs.
use Rattle.digits.proofs.PairLaws.{total_pairs, are_more}
use Rattle.digits.specs.Pairs.{IsPair, pair_at, pairs_at, Summed}
use Rattle.digits.specs.Digit.{byte_sum}
use native.Mathlib.Omega.{arith}
use mathlib.Core.Path.{◌≡◌, refl}
use Prim.Native.Nat.{◌+◌, ◌*◌}
use Rattle.digits.proofs.table.Digits.sum_pairs.Goals as goal

pub loop-i-init : goal.loop-i-init
unfolding byte_sum pairs_at
loop-i-init c = (λ j h. absurd (omega arith), refl, omega arith)

pub returns-then-high-gt15 : goal.returns-then-high-gt15
unfolding Summed
returns-then-high-gt15 c = λ h. let k : IsPair c.args.text.now (c.args.at + 2 * c.loop-i.i) = h c.loop-i.i (omega arith) in omega arith

pub loop-i-preserved : goal.loop-i-preserved
loop-i-preserved c =
    let text = c.args.text.now in
    let at = c.args.at in
    let i = c.loop-i.i in
    let more : byte_sum (pairs_at text at (i + 1)) ≡ byte_sum (pairs_at text at i) + pair_at text (at + 2 * i) = total_pairs text i at in
    (are_more text at i c.loop-i.invariant.0 (omega arith, omega arith), omega arith, omega arith)

pub returns : goal.returns
unfolding Summed
returns c =
    let e : c.loop-i.i ≡ c.args.count = omega arith in
    (rw e at c.loop-i.invariant.0, rw e at c.loop-i.invariant.1)
