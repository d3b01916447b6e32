use Rattle.std.proofs.Common.{◌≡◌, map, take}
use Rattle.std.specs.Prelude.{sum_by}
use Rattle.hail_load.specs.declared.parts.Part.TheVariants.{Value}
use Rattle.hail_load.specs.Parts.{size_of}
use Rattle.hail_load.proofs.indexes.leaves_before.Given as goal

abbrev pub invariant-loop-t : goal.invariant-loop-t
invariant-loop-t l = l.sum ≡ sum_by (size_of l.classes.definitions) (map Value (take l.t-index l.fields))
