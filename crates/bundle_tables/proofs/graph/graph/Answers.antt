use Rattle.std.proofs.Common.{◌≡◌, ◌+◌, ◌++◌, List, map, ◌∙◌, ap}
use Rattle.type_definitions.specs.declared.definition.TypeDef.{TypeDef}
use Rattle.checked_code.specs.Graph.{types_of, signatures_of, graph_of}
use Rattle.bundle_tables.proofs.Counted.{is_graph, none_below}
use Rattle.bundle_tables.proofs.graph.graph.Goals as goal

pub returns-clause-closed : goal.returns-clause-closed
returns-clause-closed c =
    let globals = c.args.globals.now in
    let types : c.add_types.new.graph.definitions ≡ types_of globals c.args.items.now = c.in_ok-add_types.ensures.definitions ∙ ap (λ (ds : List TypeDef). ds ++ types_of globals c.args.items.now) c.new-graph.ensures.definitions in
    let all : c.add_signatures.new.graph.definitions ≡ graph_of globals c.args.items.now = c.in_ok-add_signatures.ensures.definitions ∙ ap (λ (ds : List TypeDef). ds ++ signatures_of globals c.args.items.now) types in
    is_graph globals c.args.items.now c.add_signatures.new.graph.definitions c.requires all
    (c.in_ok-add_signatures.ensures.below (c.in_ok-add_types.ensures.below (none_below (globals.counts.written + globals.counts.signatures) c.new-graph.result.definitions c.new-graph.ensures.definitions)))
