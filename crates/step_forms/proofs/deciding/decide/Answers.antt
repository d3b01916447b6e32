use Rattle.std.proofs.Common.{subst}
use Rattle.checked_code.specs.declared.code.Form.TheVariants as forms
use Rattle.checked_code.specs.Checking.{bundle_tables}
use Rattle.step_forms.specs.Asked.{lists_of}
use Rattle.step_forms.specs.Classes.{FormIsThere}
use Rattle.step_forms.proofs.Classes.{act_is_there, decided_is_there}
use Rattle.step_forms.proofs.deciding.decide.Goals as goal

pub returns-in-Computation-clause-classes : goal.returns-in-Computation-clause-classes
returns-in-Computation-clause-classes c =
    let graph = (bundle_tables c.args.code.now).types.definitions in
    let there = subst (FormIsThere graph) c.in-Computation.is c.requires.classes in
    decided_is_there graph c.args.code.now c.args.types.now c.args.vars.now (forms.Computation c.in-Computation.form) c.compute.result _ there c.compute.ensures

pub returns-in-Control-clause-classes : goal.returns-in-Control-clause-classes
returns-in-Control-clause-classes c =
    let graph = (bundle_tables c.args.code.now).types.definitions in
    let there = subst (FormIsThere graph) c.in-Control.is c.requires.classes in
    decided_is_there graph c.args.code.now c.args.types.now c.args.vars.now (forms.Control c.in-Control.form) c.go_on.result _ there c.go_on.ensures

pub returns-in-Allocation-clause-classes : goal.returns-in-Allocation-clause-classes
returns-in-Allocation-clause-classes c =
    let graph = (bundle_tables c.args.code.now).types.definitions in
    let there = subst (FormIsThere graph) c.in-Allocation.is c.requires.classes in
    act_is_there graph c.args.code.now c.args.types.now c.args.vars.now (forms.Allocation c.in-Allocation.form) c.make.result _ there (c.make.ensures (lists_of c.args.room.now))

pub returns-in-Addressing-clause-classes : goal.returns-in-Addressing-clause-classes
returns-in-Addressing-clause-classes c =
    let graph = (bundle_tables c.args.code.now).types.definitions in
    let there = subst (FormIsThere graph) c.in-Addressing.is c.requires.classes in
    act_is_there graph c.args.code.now c.args.types.now c.args.vars.now (forms.Addressing c.in-Addressing.form) c.find.result _ there (c.find.ensures (lists_of c.args.room.now))

pub returns-in-Access-clause-classes : goal.returns-in-Access-clause-classes
returns-in-Access-clause-classes c =
    let graph = (bundle_tables c.args.code.now).types.definitions in
    let there = subst (FormIsThere graph) c.in-Access.is c.requires.classes in
    act_is_there graph c.args.code.now c.args.types.now c.args.vars.now (forms.Access c.in-Access.form) c.access.result _ there (c.access.ensures (lists_of c.args.room.now))

pub returns-in-Trapping-clause-classes : goal.returns-in-Trapping-clause-classes
returns-in-Trapping-clause-classes c =
    let graph = (bundle_tables c.args.code.now).types.definitions in
    let there = subst (FormIsThere graph) c.in-Trapping.is c.requires.classes in
    decided_is_there graph c.args.code.now c.args.types.now c.args.vars.now (forms.Trapping c.in-Trapping.form) c.ask.result _ there c.ask.ensures

pub returns-in-Switch-clause-classes : goal.returns-in-Switch-clause-classes
returns-in-Switch-clause-classes c =
    let graph = (bundle_tables c.args.code.now).types.definitions in
    let there = subst (FormIsThere graph) c.in-Switch.is c.requires.classes in
    decided_is_there graph c.args.code.now c.args.types.now c.args.vars.now (forms.Switch c.in-Switch.form) c.enter.result _ there c.enter.ensures

pub returns-in-Common-clause-classes : goal.returns-in-Common-clause-classes
returns-in-Common-clause-classes c =
    let graph = (bundle_tables c.args.code.now).types.definitions in
    let there = subst (FormIsThere graph) c.in-Common.is c.requires.classes in
    act_is_there graph c.args.code.now c.args.types.now c.args.vars.now (forms.Common c.in-Common.form) c.common.result _ there (c.common.ensures (lists_of c.args.room.now))
