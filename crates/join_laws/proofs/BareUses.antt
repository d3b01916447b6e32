-- What is demanded of the uses of names does not depend on places.
use Rattle.std.proofs.Common.{◌≡◌, List, [], ◌∷◌, map, Option, Some, None, option_map, refl, ◌∙◌, ap, ap₂}
use Rattle.std.specs.Option.{option_map_or}
use Rattle.ir_lex.specs.declared.name.Name.{Name}
use Rattle.ir_tree.specs.declared.operands.Operand.{Operand}
use Rattle.ir_tree.specs.declared.operands.Operand.TheVariants as operands
use Rattle.ir_tree.specs.declared.operands.Destination.{Destination}
use Rattle.ir_tree.specs.declared.operands.ExceptionClause.{ExceptionClause}
use Rattle.ir_tree.specs.declared.operands.NewStackClause.{NewStackClause}
use Rattle.ir_tree.specs.declared.operands.NewStackClause.TheVariants as clauses
use Rattle.ir_tree.specs.declared.computing.Computation.{Computation}
use Rattle.ir_tree.specs.declared.computing.Computation.TheVariants as computations
use Rattle.ir_tree.specs.declared.flow.Case.{Case}
use Rattle.ir_tree.specs.declared.flow.ControlFlow.{ControlFlow}
use Rattle.ir_tree.specs.declared.flow.ControlFlow.TheVariants as flows
use Rattle.ir_tree.specs.declared.allocating.Allocation.{Allocation}
use Rattle.ir_tree.specs.declared.allocating.Allocation.TheVariants as allocations
use Rattle.ir_tree.specs.declared.addressing.Addressing.{Addressing}
use Rattle.ir_tree.specs.declared.addressing.Addressing.TheVariants as addressings
use Rattle.ir_tree.specs.declared.accessing.Access.{Access}
use Rattle.ir_tree.specs.declared.accessing.Access.TheVariants as accesses
use Rattle.ir_tree.specs.declared.trapping.Trapping.{Trapping}
use Rattle.ir_tree.specs.declared.trapping.Trapping.TheVariants as trappings
use Rattle.ir_tree.specs.declared.switching.StackSwitch.{StackSwitch}
use Rattle.ir_tree.specs.declared.switching.StackSwitch.TheVariants as switches
use Rattle.ir_tree.specs.declared.common.CommonInst.{CommonInst}
use Rattle.ir_tree.specs.declared.common.CommonInst.TheVariants as commons
use Rattle.ir_tree.specs.declared.code.Op.{Op}
use Rattle.ir_tree.specs.declared.code.Op.TheVariants as ops
use Rattle.ir_tree.specs.declared.code.Inst.{Inst}
use Rattle.ir_tree.specs.declared.code.Parameter.{Parameter}
use Rattle.ir_tree.specs.declared.code.Block.{Block}
use Rattle.ir_tree.specs.declared.definitions.TypeForm.{TypeForm}
use Rattle.ir_tree.specs.declared.definitions.TypeForm.TheVariants as forms
use Rattle.ir_tree.specs.declared.definitions.Literal.{Literal}
use Rattle.ir_tree.specs.declared.definitions.Literal.TheVariants as literals
use Rattle.ir_tree.specs.declared.items.Item.{Item}
use Rattle.ir_tree.specs.declared.items.Item.TheVariants as items
use Rattle.ir_print.specs.Placeless.{bare_name, bare_value, bare_dest, bare_exc, bare_new_stack_clause, bare_type_form, bare_literal, bare_computation, bare_case, bare_control, bare_allocation, bare_addressing, bare_access, bare_trapping, bare_stack_switch, bare_common_inst, bare_op, bare_inst, bare_pair, bare_block, bare_item, bare_bundle}
use Rattle.demands.specs.Demands.{Demands, none, ◌⨾◌}
use Rattle.name_scopes.specs.Names.{Names}
use Rattle.bundle_names.specs.declared.fault.NameKind.{NameKind}
use Rattle.bundle_names.specs.declared.function_names.FunctionNames.{FunctionNames}
use Rattle.bundle_names.specs.declared.globals.Sort.{Sort}
use Rattle.bundle_names.specs.declared.globals.Globals.{Globals}
use Rattle.bundle_names.specs.Globals.{globals_of}
use Rattle.bundle_names.specs.Definitions.{Plain, with_name, with_list, with_head}
use Rattle.bundle_names.specs.Uses.{each, type_uses, constant_use, local_use, operand_use, operand_uses, destination_use, exception_use, keepalive_use, entered_use}
use Rattle.bundle_names.specs.ComputationUses.{computation_use}
use Rattle.bundle_names.specs.ControlUses.{case_use, control_use}
use Rattle.bundle_names.specs.ObjectUses.{allocation_use, addressing_use}
use Rattle.bundle_names.specs.AccessUses.{access_use}
use Rattle.bundle_names.specs.StackUses.{trapping_use, switch_use}
use Rattle.bundle_names.specs.CommonUses.{common_use}
use Rattle.bundle_names.specs.BodyUses.{with_blocks, with_results, with_variables, names_of, op_use, inst_uses, parameter_uses, block_uses}
use Rattle.bundle_names.specs.ItemUses.{form_use, literal_use, item_use, item_uses, use_demands}
use Rattle.join_laws.proofs.Nowhere.{nowhere}
use Rattle.join_laws.proofs.BareNames.{list_same, head_same, globals_same}

-- ---- lists and operands

each_bare : {A : Type 0} (asks : A → Demands NameKind) (bare : A → A) → ((x : A) → asks (bare x) ≡ nowhere (asks x)) → (xs : List A) → each asks (map bare xs) ≡ nowhere (each asks xs)
each_bare asks bare one [] = refl
each_bare asks bare one (x ∷ xs) = ap₂ (λ (a b : Demands NameKind). a ⨾ b) (one x) (each_bare asks bare one xs)

types_bare : (g : Names Sort) (ns : List Name) → type_uses g (map bare_name ns) ≡ nowhere (type_uses g ns)
types_bare g [] = refl
types_bare g (n ∷ ns) = rw (types_bare g ns) refl

operand_bare : (g : Names Sort) (f : FunctionNames) (o : Operand) → operand_use g f (bare_value o) ≡ nowhere (operand_use g f o)
operand_bare g f (operands.Local n) = refl
operand_bare g f (operands.Global n) = refl

operands_bare : (g : Names Sort) (f : FunctionNames) (os : List Operand) → operand_uses g f (map bare_value os) ≡ nowhere (operand_uses g f os)
operands_bare g f os = each_bare (operand_use g f) bare_value (operand_bare g f) os

destination_bare : (g : Names Sort) (f : FunctionNames) (d : Destination) → destination_use g f (bare_dest d) ≡ nowhere (destination_use g f d)
destination_bare g f d = ap (λ (a : Demands NameKind). local_use f.blocks (bare_name d.block) ⨾ a) (operands_bare g f d.arguments.values)

exception_bare : (g : Names Sort) (f : FunctionNames) (e : Option ExceptionClause) → exception_use g f (option_map bare_exc e) ≡ nowhere (exception_use g f e)
exception_bare g f None = refl
exception_bare g f (Some e) = ap₂ (λ (a b : Demands NameKind). a ⨾ b) (destination_bare g f e.normal) (destination_bare g f e.exceptional)

keepalive_bare : (f : FunctionNames) (k : Option (List Name)) → keepalive_use f (option_map (map bare_name) k) ≡ nowhere (keepalive_use f k)
keepalive_bare f None = refl
keepalive_bare f (Some ns) = each_bare (local_use f.variables) bare_name (λ n. refl) ns

entered_bare : (g : Names Sort) (f : FunctionNames) (c : NewStackClause) → entered_use g f (bare_new_stack_clause c) ≡ nowhere (entered_use g f c)
entered_bare g f (clauses.PassValues ts a) = ap₂ (λ (x y : Demands NameKind). x ⨾ y) (types_bare g ts) (operands_bare g f a.values)
entered_bare g f (clauses.ThrowExc e) = operand_bare g f e

-- ---- instructions

computation_bare : (g : Names Sort) (f : FunctionNames) (c : Computation) → computation_use g f (bare_computation c) ≡ nowhere (computation_use g f c)
computation_bare g f (computations.Binary op t a b e) = rw (operand_bare g f a, operand_bare g f b, exception_bare g f e) refl
computation_bare g f (computations.Compare op t a b) = rw (operand_bare g f a, operand_bare g f b) refl
computation_bare g f (computations.Convert op s t a) = rw (operand_bare g f a) refl
computation_bare g f (computations.Refcast s t a) = rw (operand_bare g f a) refl
computation_bare g f (computations.Select s t c a b) = rw (operand_bare g f c, operand_bare g f a, operand_bare g f b) refl
computation_bare g f (computations.Extractvalue t n a) = rw (operand_bare g f a) refl
computation_bare g f (computations.Insertvalue t n a b) = rw (operand_bare g f a, operand_bare g f b) refl

case_bare : (g : Names Sort) (f : FunctionNames) (c : Case) → case_use g f (bare_case c) ≡ nowhere (case_use g f c)
case_bare g f c = rw (destination_bare g f c.destination) refl

control_bare : (g : Names Sort) (f : FunctionNames) (c : ControlFlow) → control_use g f (bare_control c) ≡ nowhere (control_use g f c)
control_bare g f (flows.Branch d) = destination_bare g f d
control_bare g f (flows.Branch2 c d e) = rw (operand_bare g f c, destination_bare g f d, destination_bare g f e) refl
control_bare g f (flows.Switch t a d cs) = rw (operand_bare g f a, destination_bare g f d, each_bare (case_use g f) bare_case (case_bare g f) cs) refl
control_bare g f (flows.Call s c a e k) = rw (operand_bare g f c, operands_bare g f a.values, exception_bare g f e, keepalive_bare f k) refl
control_bare g f (flows.Tailcall s c a) = rw (operand_bare g f c, operands_bare g f a.values) refl
control_bare g f (flows.Ret a) = operands_bare g f a.values
control_bare g f (flows.Throw e) = operand_bare g f e

allocation_bare : (g : Names Sort) (f : FunctionNames) (a : Allocation) → allocation_use g f (bare_allocation a) ≡ nowhere (allocation_use g f a)
allocation_bare g f (allocations.New t e) = rw (exception_bare g f e) refl
allocation_bare g f (allocations.Newhybrid h i n e) = rw (operand_bare g f n, exception_bare g f e) refl
allocation_bare g f (allocations.Alloca t e) = rw (exception_bare g f e) refl

addressing_bare : (g : Names Sort) (f : FunctionNames) (a : Addressing) → addressing_use g f (bare_addressing a) ≡ nowhere (addressing_use g f a)
addressing_bare g f (addressings.Getiref t r) = rw (operand_bare g f r) refl
addressing_bare g f (addressings.Getfieldiref t n l) = rw (operand_bare g f l) refl
addressing_bare g f (addressings.Getelemiref t i l x) = rw (operand_bare g f l, operand_bare g f x) refl
addressing_bare g f (addressings.Shiftiref t i l x) = rw (operand_bare g f l, operand_bare g f x) refl
addressing_bare g f (addressings.Getvarpartiref h l) = rw (operand_bare g f l) refl

access_bare : (g : Names Sort) (f : FunctionNames) (a : Access) → access_use g f (bare_access a) ≡ nowhere (access_use g f a)
access_bare g f (accesses.Load o t l e) = rw (operand_bare g f l, exception_bare g f e) refl
access_bare g f (accesses.Store o t l a e) = rw (operand_bare g f l, operand_bare g f a, exception_bare g f e) refl
access_bare g f (accesses.Cmpxchg w s o t l a b e) = rw (operand_bare g f l, operand_bare g f a, operand_bare g f b, exception_bare g f e) refl
access_bare g f (accesses.Atomicrmw o op t l a e) = rw (operand_bare g f l, operand_bare g f a, exception_bare g f e) refl
access_bare g f (accesses.Fence o) = refl

wp_bare : (g : Names Sort) (f : FunctionNames) (d : Option Destination) → option_map_or (destination_use g f) (option_map bare_dest d) none ≡ nowhere (option_map_or (destination_use g f) d none)
wp_bare g f None = refl
wp_bare g f (Some d) = destination_bare g f d

trapping_bare : (g : Names Sort) (f : FunctionNames) (t : Trapping) → trapping_use g f (bare_trapping t) ≡ nowhere (trapping_use g f t)
trapping_bare g f (trappings.Trap ts e k) = rw (types_bare g ts, exception_bare g f e, keepalive_bare f k) refl
trapping_bare g f (trappings.Watchpoint n ts d e x k) = rw (types_bare g ts, destination_bare g f d, destination_bare g f e, wp_bare g f x, keepalive_bare f k) refl
trapping_bare g f (trappings.Wpbranch n d e) = rw (destination_bare g f d, destination_bare g f e) refl

threadlocal_bare : (g : Names Sort) (f : FunctionNames) (o : Option Operand) → option_map_or (operand_use g f) (option_map bare_value o) none ≡ nowhere (option_map_or (operand_use g f) o none)
threadlocal_bare g f None = refl
threadlocal_bare g f (Some o) = operand_bare g f o

switch_bare : (g : Names Sort) (f : FunctionNames) (s : StackSwitch) → switch_use g f (bare_stack_switch s) ≡ nowhere (switch_use g f s)
switch_bare g f (switches.SwapReturning s ts n e k) = rw (operand_bare g f s, types_bare g ts, entered_bare g f n, exception_bare g f e, keepalive_bare f k) refl
switch_bare g f (switches.SwapKilling s n) = rw (operand_bare g f s, entered_bare g f n) refl
switch_bare g f (switches.Newthread s tl n e) = rw (operand_bare g f s, threadlocal_bare g f tl, entered_bare g f n, exception_bare g f e) refl

common_bare : (g : Names Sort) (f : FunctionNames) (c : CommonInst) → common_use g f (bare_common_inst c) ≡ nowhere (common_use g f c)
common_bare g f (commons.NewStack s a) = rw (operand_bare g f a) refl
common_bare g f (commons.KillStack s) = operand_bare g f s
common_bare g f commons.ThreadExit = refl
common_bare g f commons.CurrentStack = refl
common_bare g f (commons.SetThreadlocal r) = operand_bare g f r
common_bare g f commons.GetThreadlocal = refl
common_bare g f (commons.FutexWait t l v) = rw (operand_bare g f l, operand_bare g f v) refl
common_bare g f (commons.FutexWake t l n) = rw (operand_bare g f l, operand_bare g f n) refl
common_bare g f (commons.FutexWaitTimeout t l v n) = rw (operand_bare g f l, operand_bare g f v, operand_bare g f n) refl

op_bare : (g : Names Sort) (f : FunctionNames) (o : Op) → op_use g f (bare_op o) ≡ nowhere (op_use g f o)
op_bare g f (ops.Computation c) = computation_bare g f c
op_bare g f (ops.ControlFlow c) = control_bare g f c
op_bare g f (ops.Allocation a) = allocation_bare g f a
op_bare g f (ops.Addressing a) = addressing_bare g f a
op_bare g f (ops.Access a) = access_bare g f a
op_bare g f (ops.Trapping t) = trapping_bare g f t
op_bare g f (ops.StackSwitch s) = switch_bare g f s
op_bare g f (ops.Common c) = common_bare g f c

-- ---- blocks

insts_bare : (g : Names Sort) (f : FunctionNames) (is : List Inst) → inst_uses g f (map bare_inst is) ≡ nowhere (inst_uses g f is)
insts_bare g f [] = refl
insts_bare g f (i ∷ is) = ap₂ (λ (a b : Demands NameKind). a ⨾ b) (op_bare g f i.op) (insts_bare g f is)

parameters_bare : (g : Names Sort) (ps : List Parameter) → parameter_uses g (map bare_pair ps) ≡ nowhere (parameter_uses g ps)
parameters_bare g [] = refl
parameters_bare g (p ∷ ps) = rw (parameters_bare g ps) refl

blocks_bare : (g : Names Sort) (f : FunctionNames) (bs : List Block) → block_uses g f (map bare_block bs) ≡ nowhere (block_uses g f bs)
blocks_bare g f [] = refl
blocks_bare g f (b ∷ bs) =
    ap₂ (λ (a c : Demands NameKind). a ⨾ c) (ap₂ (λ (a c : Demands NameKind). a ⨾ c) (parameters_bare g b.head.parameters) (insts_bare g f b.insts)) (blocks_bare g f bs)

blocks_same : (es : Plain) (bs : List Block) → with_blocks es (map bare_block bs) ≡ with_blocks es bs
blocks_same es [] = refl
blocks_same es (b ∷ bs) = blocks_same (with_name es b.head.name) bs

results_same : (es : Plain) (is : List Inst) → with_results es (map bare_inst is) ≡ with_results es is
results_same es [] = refl
results_same es (i ∷ is) = ap (λ (fs : Plain). with_results fs (map bare_inst is)) (list_same es i.results) ∙ results_same (with_list es i.results) is

variables_same : (es : Plain) (bs : List Block) → with_variables es (map bare_block bs) ≡ with_variables es bs
variables_same es [] = refl
variables_same es (b ∷ bs) =
    ap (λ (fs : Plain). with_variables (with_results fs (map bare_inst b.insts)) (map bare_block bs)) (head_same es b.head)
    ∙ (ap (λ (fs : Plain). with_variables fs (map bare_block bs)) (results_same (with_head es b.head) b.insts)
    ∙ variables_same (with_results (with_head es b.head) b.insts) bs)

names_same : (bs : List Block) → names_of (map bare_block bs) ≡ names_of bs
names_same bs = ap₂ (λ (x y : Plain). record { blocks = x; variables = y }) (blocks_same [] bs) (variables_same [] bs)

-- ---- items

form_bare : (g : Names Sort) (f : TypeForm) → form_use g (bare_type_form f) ≡ nowhere (form_use g f)
form_bare g (forms.Int w) = refl
form_bare g (forms.Struct ts) = types_bare g ts
form_bare g (forms.Array t n) = refl
form_bare g (forms.Hybrid ts t) = rw (types_bare g ts) refl
form_bare g forms.Void = refl
form_bare g (forms.Ref t) = refl
form_bare g (forms.Iref t) = refl
form_bare g (forms.Funcref s) = refl
form_bare g forms.Stackref = refl
form_bare g forms.Threadref = refl

literal_bare : (g : Names Sort) (l : Literal) → literal_use g (bare_literal l) ≡ nowhere (literal_use g l)
literal_bare g (literals.Number n) = refl
literal_bare g (literals.Null place) = refl
literal_bare g (literals.Members place ns) = each_bare (constant_use g) bare_name (λ n. refl) ns

item_bare : (g : Names Sort) (i : Item) → item_use g (bare_item i) ≡ nowhere (item_use g i)
item_bare g (items.Typedef d) = form_bare g d.form
item_bare g (items.Funcsig d) = ap₂ (λ (a b : Demands NameKind). a ⨾ b) (types_bare g d.takes) (types_bare g d.gives)
item_bare g (items.Const d) = rw (literal_bare g d.literal) refl
item_bare g (items.GlobalCell d) = refl
item_bare g (items.Funcdecl d) = refl
item_bare g (items.Funcdef d) = rw (names_same d.blocks, blocks_bare g (names_of d.blocks) d.blocks) refl

items_bare : (g : Names Sort) (is : List Item) → item_uses g (map bare_item is) ≡ nowhere (item_uses g is)
items_bare g [] = refl
items_bare g (i ∷ is) = ap₂ (λ (a b : Demands NameKind). a ⨾ b) (item_bare g i) (items_bare g is)

pub uses_bare : (bundle : List Item) → use_demands (bare_bundle bundle) ≡ nowhere (use_demands bundle)
uses_bare bundle = ap (λ (g : Globals). item_uses g.names (map bare_item bundle)) (globals_same bundle) ∙ items_bare (globals_of bundle).names bundle
