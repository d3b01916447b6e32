use Rattle.checked_code.specs.Graph.{table_of}
use Rattle.bundle_tables.proofs.Faults.{accepted, refused, table_is, is_held}
use Rattle.std.proofs.Common.{◌∙◌}
use Rattle.bundle_tables.proofs.types.type_table.Goals as goal

pub new-requires : goal.new-requires
new-requires c =
    is_held c.args.globals.now c.args.items.now c.in_ok-graph.graph.definitions c.in-Ok.classes c.in_ok-written.written c.requires c.in_ok-graph.ensures.definitions c.in_ok-graph.ensures.closed
    c.in-Ok.ensures.definitions c.in-Ok.ensures.written c.in_ok-written.ensures

pub returns-in-Ok : goal.returns-in-Ok
returns-in-Ok c = (
  accepted c.args.globals.now c.args.items.now c.in_ok-graph.graph c.in_ok-graph.ensures.definitions c.in_ok-graph.ensures.places c.in-Ok.ensures.met,
  c.new.ensures ∙ table_is c.args.globals.now c.args.items.now c.in_ok-graph.graph.definitions c.in-Ok.classes c.in_ok-graph.ensures.definitions c.in-Ok.ensures.definitions c.in-Ok.ensures.written,
)

pub returns-in-Err : goal.returns-in-Err
returns-in-Err c =
    rw c.fault_of.ensures
    (refused c.args.globals.now c.args.items.now c.in_ok-graph.graph (table_of c.args.globals.now c.args.items.now) c.in-Err.fault c.in_ok-graph.ensures.definitions c.in_ok-graph.ensures.places c.in-Err.ensures.met)
