-- The search calls the reading with as many jumps left, the reading calls the search with one less.
use Rattle.std.proofs.Common.{◌+◌, ◌*◌}
use Rattle.configreader.proofs.+read_search.Given as goal

abbrev pub decreases-read : goal.decreases-read
decreases-read l = 2 * l.jumps

abbrev pub decreases-search : goal.decreases-search
decreases-search l = 2 * l.jumps + 1
