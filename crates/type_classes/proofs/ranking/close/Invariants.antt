use Rattle.std.proofs.Common.{vec_len}
use Rattle.type_classes.proofs.ranking.close.Given as goal

abbrev pub decreases-loop-y : goal.decreases-loop-y
decreases-loop-y l = vec_len l.search.open
