use Rattle.std.proofs.Common.{length}
use Rattle.caselines.proofs.parse.read_numbers.Given as goal

abbrev pub decreases-loop-rest : goal.decreases-loop-rest
decreases-loop-rest l = length l.rest
