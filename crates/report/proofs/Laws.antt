-- What programs may count on of a report, beside the contracts: how long it is, and that it stands whole in the buffer.
use Prim.Native.Nat.{ℕ, ◌≤◌}
use mathlib.Core.Path.{◌≡◌}
use mathlib.Core.Bool.{Bool, true, false}
use mathlib.Core.List.{List, ◌++◌}
use native.Mathlib.Omega.{arith}
use lib.Dec.{leb}
use lib.ListN.{length, drop, length-append}
use Rattle.std.specs.Prelude.{Ok}
use Rattle.base.specs.Question.{ask}
use Rattle.base.specs.Refusal.{refused}
use Rattle.report.specs.Types.{NoRoom}
use Rattle.report.specs.Refusal.{written}
use Rattle.base.specs.Output.{front_filled}
pub use Rattle.report.proofs.AnswerLaws.{loaded_length}

pub written_within : (text buffer : List ℕ) (n : ℕ) → written text (length buffer) ≡ Ok n → n ≤ length (front_filled text buffer)
unfolding written front_filled ask
written_within text buffer n e = go (leb (length text) (length buffer)) e
  where
    go : (b : Bool) → ask b (refused NoRoom 0) (Ok (length text)) ≡ Ok n → n ≤ length (ask b buffer (text ++ drop (length text) buffer))
    go true q = let long : length text ≡ n = cc in let m = length-append text (drop (length text) buffer) in omega arith
    go false q = cc
