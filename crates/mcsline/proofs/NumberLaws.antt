-- A line is refused with 14, 15 or 16.
use Prim.Native.Nat.{ℕ, ◌+◌, ◌%◌, ◌≤◌}
use mathlib.Core.Path.{◌≡◌, subst}
use mathlib.Core.Bool.{Bool, true, false}
use mathlib.Core.List.{List}
use native.Mathlib.Omega.{arith}
use lib.Dec.{eqb}
use lib.ListN.{length}
use Rattle.base.specs.Question.{ask}
use Rattle.base.proofs.Laws.{either_way}
use Rattle.base.specs.Refusal.{number_of}
use Rattle.digits.specs.Digit.{byte_sum}
use Rattle.mcsline.specs.Line.{count_of, type_of, by_spelled, line_spells, Parsed, by_type, typed, parsed}
use Rattle.std.specs.Prelude.{Option, Some, None, Ok, Err}
use Rattle.mcsline.specs.Types.{Reason, BadLine, BadSum, BadRecord}

unfoldable RefusedWithin : Parsed → Type 0
RefusedWithin (Ok record') = Unit {0}
RefusedWithin (Err reason) = (number_of BadLine ≤ number_of reason) × (number_of reason ≤ number_of BadRecord)

typed_numbered : (pairs : List ℕ) → RefusedWithin (typed pairs)
unfolding RefusedWithin typed by_type
typed_numbered pairs =
    by (eqb (type_of pairs) 0x00) (eqb (type_of pairs) 0x01) (eqb (type_of pairs) 0x04) _ _ _ _
    (either_way RefusedWithin _ (Err BadRecord) _ bad tt)
    (either_way RefusedWithin _ (Err BadRecord) _ bad (either_way RefusedWithin _ (Err BadRecord) _ bad tt))
    (either_way RefusedWithin _ (Err BadRecord) _ bad (either_way RefusedWithin _ (Err BadRecord) _ bad tt))
    bad
  where
    bad : RefusedWithin (Err BadRecord)
    bad = (omega arith, omega arith)

    by : (d e u : Bool) (data' end upper other : Parsed) → RefusedWithin data' → RefusedWithin end → RefusedWithin upper → RefusedWithin other →
        RefusedWithin (elim d [ true ↦ data' | false ↦ elim e [ true ↦ end | false ↦ elim u [ true ↦ upper | false ↦ other ] ] ])
    by true e u data' end upper other a b c o = a
    by false true u data' end upper other a b c o = b
    by false false true data' end upper other a b c o = c
    by false false false data' end upper other a b c o = o

numbered : (line : List ℕ) → RefusedWithin (parsed line)
unfolding RefusedWithin parsed by_spelled
numbered line = go (line_spells line)
  where
    go : (s : Option (List ℕ)) → RefusedWithin (by_spelled s (Err BadLine) (λ pairs. ask (eqb (length pairs) (count_of pairs + 5)) (Err BadLine) (ask (eqb (byte_sum pairs % 256) 0) (Err BadSum) (typed pairs))))
    go (Some pairs) = either_way RefusedWithin _ (Err BadLine) _ (omega arith, omega arith) (either_way RefusedWithin _ (Err BadSum) _ (omega arith, omega arith) (typed_numbered pairs))
    go None = (omega arith, omega arith)

pub refused_number : (line : List ℕ) (reason : Reason) → parsed line ≡ Err reason → (number_of BadLine ≤ number_of reason) × (number_of reason ≤ number_of BadRecord)
unfolding RefusedWithin
refused_number line reason e = subst RefusedWithin e (numbered line)
