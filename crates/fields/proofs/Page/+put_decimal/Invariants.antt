-- `Page::put_decimal` calls itself with a smaller number.
use Rattle.fields.proofs.Page.+put_decimal.Given as goal

abbrev pub decreases-put_decimal : goal.decreases-put_decimal
decreases-put_decimal l = l.value
