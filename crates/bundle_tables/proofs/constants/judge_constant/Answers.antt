use Rattle.std.proofs.Common.{Some, None}
use Rattle.demands.specs.declared.fault.Fault.TheVariants.{At}
use Rattle.checked_code.specs.Graph.{type_id}
use Rattle.checked_code.specs.Rules.{literal_of}
use Rattle.bundle_tables.proofs.Literals.{literal_fault}
use Rattle.bundle_tables.proofs.constants.judge_constant.Goals as goal

pub returns-in-Ok : goal.returns-in-Ok
returns-in-Ok c =
    let globals = c.args.tables.now.globals in
    literal_fault c.classes.result.now c.args.tables.now.types c.args.types.now c.in_ok-t.t (type_id globals c.args.item.now.of_type)
    c.in_ok-literal.literal (literal_of globals c.args.item.now.literal) None
    c.classes.ensures.same c.in_ok-literal.ensures.same c.in_ok-t.ensures.same c.in-Ok.ensures

pub returns : goal.returns
returns c =
    let globals = c.args.tables.now.globals in
    rw c.fault_at.ensures
    (literal_fault c.classes.result.now c.args.tables.now.types c.args.types.now c.in_ok-t.t (type_id globals c.args.item.now.of_type)
    c.in_ok-literal.literal (literal_of globals c.args.item.now.literal) (Some (At c.in-Err.fault.kind c.in-Err.fault.place))
    c.classes.ensures.same c.in_ok-literal.ensures.same c.in_ok-t.ensures.same c.in-Err.ensures)
