-- `decimal_length` calls itself with a smaller number.
use Rattle.fields.proofs.+decimal_length.Given as goal

abbrev pub decreases-decimal_length : goal.decreases-decimal_length
decreases-decimal_length l = l.value
