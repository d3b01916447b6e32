use Rattle.std.proofs.Common.{Result, Ok, sym, ap, ◌∙◌}
use Rattle.demands.specs.declared.fault.Fault.{Fault}
use Rattle.hail_load.specs.declared.fault.LoadKind.{LoadKind}
use Rattle.hail_load.specs.declared.parts.Spot.{Spot}
use Rattle.hail_load.proofs.Indexing.{struct_there}
use Rattle.hail_load.proofs.indexes.struct_part.Goals as goal

pub returns-then-index-fields-clause-told : goal.returns-then-index-fields-clause-told
returns-then-index-fields-clause-told c =
    struct_there c.args.classes.now.definitions c.args.spot c.args.fields.now c.args.index.now c.if-index-fields.true ∙ ap (λ (s : Spot). let r : Result Spot (Fault LoadKind) = Ok s in r) (sym c.field.ensures.is)
