-- Laws of what a C host gets.
use mathlib.Core.Path.{◌≡◌}
use native.Mathlib.Omega.{arith}
use Rattle.base.specs.Refusal.{number_of}
use Rattle.results.specs.Types.{Reason}

-- No reason has the number 0, by which a host is told of no refusal.
pub numbered : (reason : Reason) → number_of reason ≡ 0 → ⊥
numbered reason e = grind arith
