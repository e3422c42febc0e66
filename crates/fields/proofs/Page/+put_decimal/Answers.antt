-- `Page::put_decimal` meets its contract: the last digit is put after the others.
use Rattle.std.proofs.Common.{◌≡◌, ◌%◌, arith}
use Rattle.fields.proofs.FieldLaws.{length_small, length_step, decimal_small, decimal_step}
use Rattle.fields.proofs.PageLaws.{wrote_then}
use Rattle.fields.proofs.Page.+put_decimal.Goals as goal
use Rattle.fields.proofs.Page.+put_decimal.Goals.{then-value-ge10, else-value-ge10}

pub put_decimal-requires : goal.put_decimal-requires
put_decimal-requires t c = (omega arith, omega (arith, length_step c.args.value c.if-value-ge10.true))

pub put-requires : goal.put-requires
put-requires t c =
    elim c.if-value-ge10.branch [
      | then-value-ge10 w ↦ rw w.self-is (omega (arith, length_step c.args.value w.if-value-ge10.true))
      | else-value-ge10 w ↦ rw w.self-is (omega (arith, length_small c.args.value w.if-value-ge10.false))
    ]

pub returns : goal.returns
returns t c =
    elim c.if-value-ge10.branch [
      | then-value-ge10 w ↦ rw (decimal_step c.args.value w.if-value-ge10.true) (wrote_then w.put_decimal.ensures (rw w.self-is at c.put.ensures))
      | else-value-ge10 w ↦
          let low : c.args.value % 10 ≡ c.args.value = let h = w.if-value-ge10.false in omega arith in
          rw (decimal_small c.args.value w.if-value-ge10.false) (rw (w.self-is, low) at c.put.ensures)
    ]
