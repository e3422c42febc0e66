use Rattle.std.proofs.Common.{length}
use Rattle.caselines.proofs.parse.put_fields.Given as goal

abbrev pub decreases-loop-first : goal.decreases-loop-first
decreases-loop-first l = length l.rest
