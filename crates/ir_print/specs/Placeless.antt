-- A bundle without its places: the same tree, in which each place is 0. Two bundles are the same save for places where these are
-- equal.
use Rattle.std.specs.Prelude.{List, map, option_map}
use Rattle.ir_lex.specs.declared.name.Name.{Name}
use Rattle.ir_lex.specs.declared.name.Numeral.{Numeral}
use Rattle.ir_tree.specs.declared.operands.Operand.{Operand}
use Rattle.ir_tree.specs.declared.operands.Operand.TheVariants as operands
use Rattle.ir_tree.specs.declared.operands.Arguments.{Arguments}
use Rattle.ir_tree.specs.declared.operands.Destination.{Destination}
use Rattle.ir_tree.specs.declared.operands.ExceptionClause.{ExceptionClause}
use Rattle.ir_tree.specs.declared.operands.NewStackClause.{NewStackClause}
use Rattle.ir_tree.specs.declared.operands.NewStackClause.TheVariants as stacks
use Rattle.ir_tree.specs.declared.order.WrittenOrder.{WrittenOrder}
use Rattle.ir_tree.specs.declared.definitions.TypeForm.{TypeForm}
use Rattle.ir_tree.specs.declared.definitions.TypeForm.TheVariants as types
use Rattle.ir_tree.specs.declared.definitions.Literal.{Literal}
use Rattle.ir_tree.specs.declared.definitions.Literal.TheVariants as literals
use Rattle.ir_tree.specs.declared.definitions.Typedef.{Typedef}
use Rattle.ir_tree.specs.declared.definitions.Funcsig.{Funcsig}
use Rattle.ir_tree.specs.declared.definitions.Const.{Const}
use Rattle.ir_tree.specs.declared.definitions.GlobalCell.{GlobalCell}
use Rattle.ir_tree.specs.declared.definitions.Funcdecl.{Funcdecl}
use Rattle.ir_tree.specs.declared.computing.Computation.{Computation}
use Rattle.ir_tree.specs.declared.computing.Computation.TheVariants as computations
use Rattle.ir_tree.specs.declared.flow.Case.{Case}
use Rattle.ir_tree.specs.declared.flow.ControlFlow.{ControlFlow}
use Rattle.ir_tree.specs.declared.flow.ControlFlow.TheVariants as flows
use Rattle.ir_tree.specs.declared.allocating.Allocation.{Allocation}
use Rattle.ir_tree.specs.declared.allocating.Allocation.TheVariants as allocations
use Rattle.ir_tree.specs.declared.addressing.Addressing.{Addressing}
use Rattle.ir_tree.specs.declared.addressing.Addressing.TheVariants as addressings
use Rattle.ir_tree.specs.declared.accessing.Access.{Access}
use Rattle.ir_tree.specs.declared.accessing.Access.TheVariants as accesses
use Rattle.ir_tree.specs.declared.trapping.Trapping.{Trapping}
use Rattle.ir_tree.specs.declared.trapping.Trapping.TheVariants as trappings
use Rattle.ir_tree.specs.declared.switching.StackSwitch.{StackSwitch}
use Rattle.ir_tree.specs.declared.switching.StackSwitch.TheVariants as switches
use Rattle.ir_tree.specs.declared.common.CommonInst.{CommonInst}
use Rattle.ir_tree.specs.declared.common.CommonInst.TheVariants as commons
use Rattle.ir_tree.specs.declared.code.Op.{Op}
use Rattle.ir_tree.specs.declared.code.Op.TheVariants as ops
use Rattle.ir_tree.specs.declared.code.Inst.{Inst}
use Rattle.ir_tree.specs.declared.code.Parameter.{Parameter}
use Rattle.ir_tree.specs.declared.code.BlockHead.{BlockHead}
use Rattle.ir_tree.specs.declared.code.Block.{Block}
use Rattle.ir_tree.specs.declared.items.Funcdef.{Funcdef}
use Rattle.ir_tree.specs.declared.items.Item.{Item}
use Rattle.ir_tree.specs.declared.items.Item.TheVariants as items

abbrev pub bare_name : Name → Name
bare_name n = record { place = 0; text = n.text }

abbrev pub bare_number : Numeral → Numeral
bare_number n = record { place = 0; number = n.number }

-- ---- operands and lists

abbrev pub bare_value : Operand → Operand
bare_value (operands.Local n) = operands.Local (bare_name n)
bare_value (operands.Global n) = operands.Global (bare_name n)

abbrev pub bare_values : Arguments → Arguments
bare_values a = record { place = 0; values = map bare_value a.values }

abbrev pub bare_dest : Destination → Destination
bare_dest d = record { block = bare_name d.block; arguments = bare_values d.arguments }

abbrev pub bare_exc : ExceptionClause → ExceptionClause
bare_exc e = record { normal = bare_dest e.normal; exceptional = bare_dest e.exceptional }

abbrev pub bare_new_stack_clause : NewStackClause → NewStackClause
bare_new_stack_clause (stacks.PassValues types values) = stacks.PassValues (map bare_name types) (bare_values values)
bare_new_stack_clause (stacks.ThrowExc exception) = stacks.ThrowExc (bare_value exception)

abbrev pub bare_order : WrittenOrder → WrittenOrder
bare_order o = record { place = 0; order = o.order }

-- ---- types and constants

abbrev pub bare_type_form : TypeForm → TypeForm
bare_type_form (types.Int width) = types.Int (bare_number width)
bare_type_form (types.Struct fields) = types.Struct (map bare_name fields)
bare_type_form (types.Array element length) = types.Array (bare_name element) (bare_number length)
bare_type_form (types.Hybrid fixed element) = types.Hybrid (map bare_name fixed) (bare_name element)
bare_type_form types.Void = types.Void
bare_type_form (types.Ref of_type) = types.Ref (bare_name of_type)
bare_type_form (types.Iref of_type) = types.Iref (bare_name of_type)
bare_type_form (types.Funcref signature) = types.Funcref (bare_name signature)
bare_type_form types.Stackref = types.Stackref
bare_type_form types.Threadref = types.Threadref

abbrev pub bare_literal : Literal → Literal
bare_literal (literals.Number n) = literals.Number (bare_number n)
bare_literal (literals.Null place) = literals.Null 0
bare_literal (literals.Members place constants) = literals.Members 0 (map bare_name constants)

-- ---- instructions

abbrev pub bare_computation : Computation → Computation
bare_computation (computations.Binary op of_type left right exception) = computations.Binary op (bare_name of_type) (bare_value left) (bare_value right) (option_map bare_exc exception)
bare_computation (computations.Compare op of_type left right) = computations.Compare op (bare_name of_type) (bare_value left) (bare_value right)
bare_computation (computations.Convert op from to operand) = computations.Convert op (bare_name from) (bare_name to) (bare_value operand)
bare_computation (computations.Refcast from to operand) = computations.Refcast (bare_name from) (bare_name to) (bare_value operand)
bare_computation (computations.Select condition_type of_type condition if_one if_zero) =
    computations.Select (bare_name condition_type) (bare_name of_type) (bare_value condition) (bare_value if_one) (bare_value if_zero)
bare_computation (computations.Extractvalue of_type field operand) = computations.Extractvalue (bare_name of_type) (bare_number field) (bare_value operand)
bare_computation (computations.Insertvalue of_type field operand value) = computations.Insertvalue (bare_name of_type) (bare_number field) (bare_value operand) (bare_value value)

abbrev pub bare_case : Case → Case
bare_case c = record { constant = bare_name c.constant; destination = bare_dest c.destination }

abbrev pub bare_control : ControlFlow → ControlFlow
bare_control (flows.Branch destination) = flows.Branch (bare_dest destination)
bare_control (flows.Branch2 condition if_one if_zero) = flows.Branch2 (bare_value condition) (bare_dest if_one) (bare_dest if_zero)
bare_control (flows.Switch of_type operand default cases) = flows.Switch (bare_name of_type) (bare_value operand) (bare_dest default) (map bare_case cases)
bare_control (flows.Call signature callee arguments exception keepalive) =
    flows.Call (bare_name signature) (bare_value callee) (bare_values arguments) (option_map bare_exc exception) (option_map (map bare_name) keepalive)
bare_control (flows.Tailcall signature callee arguments) = flows.Tailcall (bare_name signature) (bare_value callee) (bare_values arguments)
bare_control (flows.Ret values) = flows.Ret (bare_values values)
bare_control (flows.Throw exception) = flows.Throw (bare_value exception)

abbrev pub bare_allocation : Allocation → Allocation
bare_allocation (allocations.New of_type exception) = allocations.New (bare_name of_type) (option_map bare_exc exception)
bare_allocation (allocations.Newhybrid of_type length_type length exception) =
    allocations.Newhybrid (bare_name of_type) (bare_name length_type) (bare_value length) (option_map bare_exc exception)
bare_allocation (allocations.Alloca of_type exception) = allocations.Alloca (bare_name of_type) (option_map bare_exc exception)

abbrev pub bare_addressing : Addressing → Addressing
bare_addressing (addressings.Getiref of_type reference) = addressings.Getiref (bare_name of_type) (bare_value reference)
bare_addressing (addressings.Getfieldiref of_type field location) = addressings.Getfieldiref (bare_name of_type) (bare_number field) (bare_value location)
bare_addressing (addressings.Getelemiref of_type index_type location index) =
    addressings.Getelemiref (bare_name of_type) (bare_name index_type) (bare_value location) (bare_value index)
bare_addressing (addressings.Shiftiref of_type offset_type location offset) =
    addressings.Shiftiref (bare_name of_type) (bare_name offset_type) (bare_value location) (bare_value offset)
bare_addressing (addressings.Getvarpartiref of_type location) = addressings.Getvarpartiref (bare_name of_type) (bare_value location)

abbrev pub bare_access : Access → Access
bare_access (accesses.Load order of_type location exception) = accesses.Load (bare_order order) (bare_name of_type) (bare_value location) (option_map bare_exc exception)
bare_access (accesses.Store order of_type location value exception) =
    accesses.Store (bare_order order) (bare_name of_type) (bare_value location) (bare_value value) (option_map bare_exc exception)
bare_access (accesses.Cmpxchg weak success failure of_type location expected desired exception) =
    accesses.Cmpxchg weak (bare_order success) (bare_order failure) (bare_name of_type) (bare_value location) (bare_value expected) (bare_value desired) (option_map bare_exc exception)
bare_access (accesses.Atomicrmw order op of_type location operand exception) =
    accesses.Atomicrmw (bare_order order) op (bare_name of_type) (bare_value location) (bare_value operand) (option_map bare_exc exception)
bare_access (accesses.Fence order) = accesses.Fence (bare_order order)

abbrev pub bare_trapping : Trapping → Trapping
bare_trapping (trappings.Trap types exception keepalive) = trappings.Trap (map bare_name types) (option_map bare_exc exception) (option_map (map bare_name) keepalive)
bare_trapping (trappings.Watchpoint number types disabled enabled exceptional keepalive) =
    trappings.Watchpoint (bare_number number) (map bare_name types) (bare_dest disabled) (bare_dest enabled) (option_map bare_dest exceptional) (option_map (map bare_name) keepalive)
bare_trapping (trappings.Wpbranch number disabled enabled) = trappings.Wpbranch (bare_number number) (bare_dest disabled) (bare_dest enabled)

abbrev pub bare_stack_switch : StackSwitch → StackSwitch
bare_stack_switch (switches.SwapReturning stack types entered exception keepalive) =
    switches.SwapReturning (bare_value stack) (map bare_name types) (bare_new_stack_clause entered) (option_map bare_exc exception) (option_map (map bare_name) keepalive)
bare_stack_switch (switches.SwapKilling stack entered) = switches.SwapKilling (bare_value stack) (bare_new_stack_clause entered)
bare_stack_switch (switches.Newthread stack threadlocal entered exception) =
    switches.Newthread (bare_value stack) (option_map bare_value threadlocal) (bare_new_stack_clause entered) (option_map bare_exc exception)

abbrev pub bare_common_inst : CommonInst → CommonInst
bare_common_inst (commons.NewStack signature function) = commons.NewStack (bare_name signature) (bare_value function)
bare_common_inst (commons.KillStack stack) = commons.KillStack (bare_value stack)
bare_common_inst commons.ThreadExit = commons.ThreadExit
bare_common_inst commons.CurrentStack = commons.CurrentStack
bare_common_inst (commons.SetThreadlocal reference) = commons.SetThreadlocal (bare_value reference)
bare_common_inst commons.GetThreadlocal = commons.GetThreadlocal
bare_common_inst (commons.FutexWait of_type location value) = commons.FutexWait (bare_name of_type) (bare_value location) (bare_value value)
bare_common_inst (commons.FutexWake of_type location count) = commons.FutexWake (bare_name of_type) (bare_value location) (bare_value count)
bare_common_inst (commons.FutexWaitTimeout of_type location value limit) = commons.FutexWaitTimeout (bare_name of_type) (bare_value location) (bare_value value) (bare_value limit)

abbrev pub bare_op : Op → Op
bare_op (ops.Computation x) = ops.Computation (bare_computation x)
bare_op (ops.ControlFlow x) = ops.ControlFlow (bare_control x)
bare_op (ops.Allocation x) = ops.Allocation (bare_allocation x)
bare_op (ops.Addressing x) = ops.Addressing (bare_addressing x)
bare_op (ops.Access x) = ops.Access (bare_access x)
bare_op (ops.Trapping x) = ops.Trapping (bare_trapping x)
bare_op (ops.StackSwitch x) = ops.StackSwitch (bare_stack_switch x)
bare_op (ops.Common x) = ops.Common (bare_common_inst x)

abbrev pub bare_inst : Inst → Inst
bare_inst i = record { place = 0; results = map bare_name i.results; label = option_map bare_name i.label; op = bare_op i.op }

-- ---- blocks and items

abbrev pub bare_pair : Parameter → Parameter
bare_pair p = record { of_type = bare_name p.of_type; name = bare_name p.name }

abbrev pub bare_head : BlockHead → BlockHead
bare_head h = record { name = bare_name h.name; parameters = map bare_pair h.parameters; handler = option_map bare_name h.handler }

abbrev pub bare_block : Block → Block
bare_block b = record { head = bare_head b.head; insts = map bare_inst b.insts }

abbrev pub bare_typedef : Typedef → Typedef
bare_typedef x = record { place = 0; name = bare_name x.name; form = bare_type_form x.form }

abbrev pub bare_funcsig : Funcsig → Funcsig
bare_funcsig x = record { place = 0; name = bare_name x.name; takes = map bare_name x.takes; gives = map bare_name x.gives }

abbrev pub bare_constant : Const → Const
bare_constant x = record { place = 0; name = bare_name x.name; of_type = bare_name x.of_type; literal = bare_literal x.literal }

abbrev pub bare_global_cell : GlobalCell → GlobalCell
bare_global_cell x = record { place = 0; name = bare_name x.name; of_type = bare_name x.of_type }

abbrev pub bare_funcdecl : Funcdecl → Funcdecl
bare_funcdecl x = record { place = 0; name = bare_name x.name; signature = bare_name x.signature }

abbrev pub bare_funcdef : Funcdef → Funcdef
bare_funcdef x = record { place = 0; name = bare_name x.name; version = bare_name x.version; signature = bare_name x.signature; blocks = map bare_block x.blocks }

abbrev pub bare_item : Item → Item
bare_item (items.Typedef x) = items.Typedef (bare_typedef x)
bare_item (items.Funcsig x) = items.Funcsig (bare_funcsig x)
bare_item (items.Const x) = items.Const (bare_constant x)
bare_item (items.GlobalCell x) = items.GlobalCell (bare_global_cell x)
bare_item (items.Funcdecl x) = items.Funcdecl (bare_funcdecl x)
bare_item (items.Funcdef x) = items.Funcdef (bare_funcdef x)

abbrev pub bare_bundle : List Item → List Item
bare_bundle xs = map bare_item xs
