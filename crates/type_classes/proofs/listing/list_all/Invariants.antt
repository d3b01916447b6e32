use Rattle.type_classes.specs.RankedTypes.{AreDone}
use Rattle.type_classes.proofs.listing.list_all.Given as goal

abbrev pub invariant-loop-i : goal.invariant-loop-i
invariant-loop-i l = AreDone l.types.definitions.now l.types.class.now l.types.rank.now l.rows l.done l.i
