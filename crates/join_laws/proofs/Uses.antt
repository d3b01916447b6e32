-- Uses of names that meet their demands in a bundle meet them in each bundle in which the names are of the same sorts.
use Rattle.std.proofs.Common.{◌≡◌, ℕ, true, List, [], ◌∷◌, Option, Some, None, is_some, refl}
use Rattle.std.specs.Option.{option_map_or}
use Rattle.std.proofs.lemmas.Bool.{false≢true}
use Rattle.ir_lex.specs.declared.name.Name.{Name}
use Rattle.ir_tree.specs.declared.operands.Operand.{Operand}
use Rattle.ir_tree.specs.declared.operands.Operand.TheVariants as operands
use Rattle.ir_tree.specs.declared.operands.Destination.{Destination}
use Rattle.ir_tree.specs.declared.operands.ExceptionClause.{ExceptionClause}
use Rattle.ir_tree.specs.declared.operands.NewStackClause.{NewStackClause}
use Rattle.ir_tree.specs.declared.operands.NewStackClause.TheVariants as clauses
use Rattle.ir_tree.specs.declared.flow.Case.{Case}
use Rattle.ir_tree.specs.declared.code.Parameter.{Parameter}
use Rattle.ir_tree.specs.declared.code.Inst.{Inst}
use Rattle.ir_tree.specs.declared.code.Block.{Block}
use Rattle.ir_tree.specs.declared.code.Op.{Op}
use Rattle.ir_tree.specs.declared.code.Op.TheVariants as ops
use Rattle.ir_tree.specs.declared.definitions.TypeForm.{TypeForm}
use Rattle.ir_tree.specs.declared.definitions.TypeForm.TheVariants as forms
use Rattle.ir_tree.specs.declared.definitions.Literal.{Literal}
use Rattle.ir_tree.specs.declared.definitions.Literal.TheVariants as literals
use Rattle.ir_tree.specs.declared.items.Item.{Item}
use Rattle.ir_tree.specs.declared.items.Item.TheVariants as items
use Rattle.bundle_names.specs.declared.globals.Sort.{Sort}
use Rattle.bundle_names.specs.declared.globals.Sort.TheVariants as sorts
use Rattle.bundle_names.specs.declared.function_names.FunctionNames.{FunctionNames}
use Rattle.demands.specs.Demands.{AllMet, none}
use Rattle.name_scopes.specs.Names.{Names, found}
use Rattle.bundle_names.specs.Uses.{each, is_type, is_signature, is_constant, is_operand, type_use, signature_use, constant_use, type_uses, operand_use, operand_uses, destination_use, exception_use, entered_use}
use Rattle.bundle_names.specs.BodyUses.{names_of, op_use, inst_uses, parameter_uses, block_uses}
use Rattle.bundle_names.specs.ItemUses.{form_use, literal_use, item_use}
use Rattle.bundle_names.specs.ControlUses.{case_use}
use Rattle.ir_tree.specs.declared.computing.Computation.{Computation}
use Rattle.ir_tree.specs.declared.computing.Computation.TheVariants as computations
use Rattle.bundle_names.specs.ComputationUses.{computation_use}
use Rattle.ir_tree.specs.declared.flow.ControlFlow.{ControlFlow}
use Rattle.ir_tree.specs.declared.flow.ControlFlow.TheVariants as flows
use Rattle.bundle_names.specs.ControlUses.{control_use}
use Rattle.ir_tree.specs.declared.allocating.Allocation.{Allocation}
use Rattle.ir_tree.specs.declared.allocating.Allocation.TheVariants as allocations
use Rattle.bundle_names.specs.ObjectUses.{addressing_use, allocation_use}
use Rattle.ir_tree.specs.declared.addressing.Addressing.{Addressing}
use Rattle.ir_tree.specs.declared.addressing.Addressing.TheVariants as addressings
use Rattle.ir_tree.specs.declared.accessing.Access.{Access}
use Rattle.ir_tree.specs.declared.accessing.Access.TheVariants as accesses
use Rattle.bundle_names.specs.AccessUses.{access_use}
use Rattle.ir_tree.specs.declared.trapping.Trapping.{Trapping}
use Rattle.ir_tree.specs.declared.trapping.Trapping.TheVariants as trappings
use Rattle.bundle_names.specs.StackUses.{switch_use, trapping_use}
use Rattle.ir_tree.specs.declared.switching.StackSwitch.{StackSwitch}
use Rattle.ir_tree.specs.declared.switching.StackSwitch.TheVariants as switches
use Rattle.ir_tree.specs.declared.common.CommonInst.{CommonInst}
use Rattle.ir_tree.specs.declared.common.CommonInst.TheVariants as commons
use Rattle.bundle_names.specs.CommonUses.{common_use}

-- the same sort
abbrev pub SortGoes : Option Sort → Option Sort → Type 0
SortGoes None o = Unit {0}
SortGoes (Some (sorts.Written n)) (Some (sorts.Written m)) = Unit {0}
SortGoes (Some (sorts.Signature n)) (Some (sorts.Signature m)) = Unit {0}
SortGoes (Some (sorts.Constant n)) (Some (sorts.Constant m)) = Unit {0}
SortGoes (Some (sorts.GlobalCell n)) (Some (sorts.GlobalCell m)) = Unit {0}
SortGoes (Some (sorts.Function n)) (Some (sorts.Function m)) = Unit {0}
SortGoes (Some v) o = ⊥

pub record SortsGo (g h : Names Sort) : Type 0 where
  pub each : (name : List ℕ) → SortGoes (found g name) (found h name)

there_goes : (o s : Option Sort) → SortGoes o s → is_some o ≡ true → is_some s ≡ true
there_goes None s g m = absurd (false≢true m)
there_goes (Some (sorts.Written n)) (Some (sorts.Written k)) g m = refl
there_goes (Some (sorts.Signature n)) (Some (sorts.Signature k)) g m = refl
there_goes (Some (sorts.Constant n)) (Some (sorts.Constant k)) g m = refl
there_goes (Some (sorts.GlobalCell n)) (Some (sorts.GlobalCell k)) g m = refl
there_goes (Some (sorts.Function n)) (Some (sorts.Function k)) g m = refl
there_goes (Some v) s g m = absurd g

type_sort : (o s : Option Sort) → SortGoes o s → is_type o ≡ true → is_type s ≡ true
type_sort (Some (sorts.Written n)) (Some (sorts.Written k)) g m = refl
type_sort (Some (sorts.Written n)) s g m = absurd g
type_sort o s g m = absurd (false≢true m)

signature_sort : (o s : Option Sort) → SortGoes o s → is_signature o ≡ true → is_signature s ≡ true
signature_sort (Some (sorts.Signature n)) (Some (sorts.Signature k)) g m = refl
signature_sort (Some (sorts.Signature n)) s g m = absurd g
signature_sort o s g m = absurd (false≢true m)

constant_sort : (o s : Option Sort) → SortGoes o s → is_constant o ≡ true → is_constant s ≡ true
constant_sort (Some (sorts.Constant n)) (Some (sorts.Constant k)) g m = refl
constant_sort (Some (sorts.Constant n)) s g m = absurd g
constant_sort o s g m = absurd (false≢true m)

operand_sort : (o s : Option Sort) → SortGoes o s → is_operand o ≡ true → is_operand s ≡ true
operand_sort (Some (sorts.Constant n)) (Some (sorts.Constant k)) g m = refl
operand_sort (Some (sorts.GlobalCell n)) (Some (sorts.GlobalCell k)) g m = refl
operand_sort (Some (sorts.Function n)) (Some (sorts.Function k)) g m = refl
operand_sort (Some (sorts.Constant n)) s g m = absurd g
operand_sort (Some (sorts.GlobalCell n)) s g m = absurd g
operand_sort (Some (sorts.Function n)) s g m = absurd g
operand_sort o s g m = absurd (false≢true m)

type_used : (g h : Names Sort) → SortsGo g h → (n : Name) → AllMet (type_use g n) → AllMet (type_use h n)
type_used g h go n m = (there_goes (found g n.text) (found h n.text) (go.each n.text) m.0, type_sort (found g n.text) (found h n.text) (go.each n.text) m.1)

signature_used : (g h : Names Sort) → SortsGo g h → (n : Name) → AllMet (signature_use g n) → AllMet (signature_use h n)
signature_used g h go n m = (there_goes (found g n.text) (found h n.text) (go.each n.text) m.0, signature_sort (found g n.text) (found h n.text) (go.each n.text) m.1)

constant_used : (g h : Names Sort) → SortsGo g h → (n : Name) → AllMet (constant_use g n) → AllMet (constant_use h n)
constant_used g h go n m = (there_goes (found g n.text) (found h n.text) (go.each n.text) m.0, constant_sort (found g n.text) (found h n.text) (go.each n.text) m.1)

types_used : (g h : Names Sort) → SortsGo g h → (ns : List Name) → AllMet (type_uses g ns) → AllMet (type_uses h ns)
types_used g h go [] m = tt
types_used g h go (n ∷ ns) m = (type_used g h go n m.0, types_used g h go ns m.1)

operand_used : (g h : Names Sort) (f : FunctionNames) → SortsGo g h → (o : Operand) → AllMet (operand_use g f o) → AllMet (operand_use h f o)
operand_used g h f go (operands.Local n) m = m
operand_used g h f go (operands.Global n) m = (there_goes (found g n.text) (found h n.text) (go.each n.text) m.0, operand_sort (found g n.text) (found h n.text) (go.each n.text) m.1)

operands_used : (g h : Names Sort) (f : FunctionNames) → SortsGo g h → (os : List Operand) → AllMet (operand_uses g f os) → AllMet (operand_uses h f os)
operands_used g h f go [] m = tt
operands_used g h f go (o ∷ os) m = (operand_used g h f go o m.0, operands_used g h f go os m.1)

destination_used : (g h : Names Sort) (f : FunctionNames) → SortsGo g h → (d : Destination) → AllMet (destination_use g f d) → AllMet (destination_use h f d)
destination_used g h f go d m = (m.0, operands_used g h f go d.arguments.values m.1)

optional_destination_used : (g h : Names Sort) (f : FunctionNames) → SortsGo g h → (d : Option Destination) → AllMet (option_map_or (destination_use g f) d none) → AllMet (option_map_or (destination_use h f) d none)
optional_destination_used g h f go None m = tt
optional_destination_used g h f go (Some d) m = destination_used g h f go d m

optional_operand_used : (g h : Names Sort) (f : FunctionNames) → SortsGo g h → (o : Option Operand) → AllMet (option_map_or (operand_use g f) o none) → AllMet (option_map_or (operand_use h f) o none)
optional_operand_used g h f go None m = tt
optional_operand_used g h f go (Some o) m = operand_used g h f go o m

exception_used : (g h : Names Sort) (f : FunctionNames) → SortsGo g h → (e : Option ExceptionClause) → AllMet (exception_use g f e) → AllMet (exception_use h f e)
exception_used g h f go None m = tt
exception_used g h f go (Some e) m = (destination_used g h f go e.normal m.0, destination_used g h f go e.exceptional m.1)

entered_used : (g h : Names Sort) (f : FunctionNames) → SortsGo g h → (n : NewStackClause) → AllMet (entered_use g f n) → AllMet (entered_use h f n)
entered_used g h f go (clauses.PassValues ts a) m = (types_used g h go ts m.0, operands_used g h f go a.values m.1)
entered_used g h f go (clauses.ThrowExc e) m = operand_used g h f go e m

cases_used : (g h : Names Sort) (f : FunctionNames) → SortsGo g h → (cs : List Case) → AllMet (each (case_use g f) cs) → AllMet (each (case_use h f) cs)
cases_used g h f go [] m = tt
cases_used g h f go (c ∷ cs) m = ((constant_used g h go c.constant m.0.0, destination_used g h f go c.destination m.0.1), cases_used g h f go cs m.1)

computation_used : (g h : Names Sort) (f : FunctionNames) → SortsGo g h → (c : Computation) → AllMet (computation_use g f c) → AllMet (computation_use h f c)
computation_used g h f go (computations.Binary op t a b e) m = (type_used g h go t m.0, (operand_used g h f go a m.1.0, (operand_used g h f go b m.1.1.0, exception_used g h f go e m.1.1.1)))
computation_used g h f go (computations.Compare op t a b) m = (type_used g h go t m.0, (operand_used g h f go a m.1.0, operand_used g h f go b m.1.1))
computation_used g h f go (computations.Convert op from to a) m = (type_used g h go from m.0, (type_used g h go to m.1.0, operand_used g h f go a m.1.1))
computation_used g h f go (computations.Refcast from to a) m = (type_used g h go from m.0, (type_used g h go to m.1.0, operand_used g h f go a m.1.1))
computation_used g h f go (computations.Select c t x a b) m = (type_used g h go c m.0, (type_used g h go t m.1.0, (operand_used g h f go x m.1.1.0, (operand_used g h f go a m.1.1.1.0, operand_used g h f go b m.1.1.1.1))))
computation_used g h f go (computations.Extractvalue t n a) m = (type_used g h go t m.0, operand_used g h f go a m.1)
computation_used g h f go (computations.Insertvalue t n a b) m = (type_used g h go t m.0, (operand_used g h f go a m.1.0, operand_used g h f go b m.1.1))

control_used : (g h : Names Sort) (f : FunctionNames) → SortsGo g h → (c : ControlFlow) → AllMet (control_use g f c) → AllMet (control_use h f c)
control_used g h f go (flows.Branch d) m = destination_used g h f go d m
control_used g h f go (flows.Branch2 c d e) m = (operand_used g h f go c m.0, (destination_used g h f go d m.1.0, destination_used g h f go e m.1.1))
control_used g h f go (flows.Switch t a d cs) m = (type_used g h go t m.0, (operand_used g h f go a m.1.0, (destination_used g h f go d m.1.1.0, cases_used g h f go cs m.1.1.1)))
control_used g h f go (flows.Call s callee a e k) m = (signature_used g h go s m.0, (operand_used g h f go callee m.1.0, (operands_used g h f go a.values m.1.1.0, (exception_used g h f go e m.1.1.1.0, m.1.1.1.1))))
control_used g h f go (flows.Tailcall s callee a) m = (signature_used g h go s m.0, (operand_used g h f go callee m.1.0, operands_used g h f go a.values m.1.1))
control_used g h f go (flows.Ret a) m = operands_used g h f go a.values m
control_used g h f go (flows.Throw e) m = operand_used g h f go e m

allocation_used : (g h : Names Sort) (f : FunctionNames) → SortsGo g h → (c : Allocation) → AllMet (allocation_use g f c) → AllMet (allocation_use h f c)
allocation_used g h f go (allocations.New t e) m = (type_used g h go t m.0, exception_used g h f go e m.1)
allocation_used g h f go (allocations.Newhybrid hy i n e) m = (type_used g h go hy m.0, (type_used g h go i m.1.0, (operand_used g h f go n m.1.1.0, exception_used g h f go e m.1.1.1)))
allocation_used g h f go (allocations.Alloca t e) m = (type_used g h go t m.0, exception_used g h f go e m.1)

addressing_used : (g h : Names Sort) (f : FunctionNames) → SortsGo g h → (c : Addressing) → AllMet (addressing_use g f c) → AllMet (addressing_use h f c)
addressing_used g h f go (addressings.Getiref t r) m = (type_used g h go t m.0, operand_used g h f go r m.1)
addressing_used g h f go (addressings.Getfieldiref t n p) m = (type_used g h go t m.0, operand_used g h f go p m.1)
addressing_used g h f go (addressings.Getelemiref t i p x) m = (type_used g h go t m.0, (type_used g h go i m.1.0, (operand_used g h f go p m.1.1.0, operand_used g h f go x m.1.1.1)))
addressing_used g h f go (addressings.Shiftiref t i p x) m = (type_used g h go t m.0, (type_used g h go i m.1.0, (operand_used g h f go p m.1.1.0, operand_used g h f go x m.1.1.1)))
addressing_used g h f go (addressings.Getvarpartiref hy p) m = (type_used g h go hy m.0, operand_used g h f go p m.1)

access_used : (g h : Names Sort) (f : FunctionNames) → SortsGo g h → (c : Access) → AllMet (access_use g f c) → AllMet (access_use h f c)
access_used g h f go (accesses.Load o t p e) m = (type_used g h go t m.0, (operand_used g h f go p m.1.0, exception_used g h f go e m.1.1))
access_used g h f go (accesses.Store o t p a e) m = (type_used g h go t m.0, (operand_used g h f go p m.1.0, (operand_used g h f go a m.1.1.0, exception_used g h f go e m.1.1.1)))
access_used g h f go (accesses.Cmpxchg w s o t p a b e) m = (type_used g h go t m.0, (operand_used g h f go p m.1.0, (operand_used g h f go a m.1.1.0, (operand_used g h f go b m.1.1.1.0, exception_used g h f go e m.1.1.1.1))))
access_used g h f go (accesses.Atomicrmw o op t p a e) m = (type_used g h go t m.0, (operand_used g h f go p m.1.0, (operand_used g h f go a m.1.1.0, exception_used g h f go e m.1.1.1)))
access_used g h f go (accesses.Fence o) m = tt

trapping_used : (g h : Names Sort) (f : FunctionNames) → SortsGo g h → (c : Trapping) → AllMet (trapping_use g f c) → AllMet (trapping_use h f c)
trapping_used g h f go (trappings.Trap ts e k) m = (types_used g h go ts m.0, (exception_used g h f go e m.1.0, m.1.1))
trapping_used g h f go (trappings.Watchpoint n ts d e x k) m = (types_used g h go ts m.0, (destination_used g h f go d m.1.0, (destination_used g h f go e m.1.1.0, (optional_destination_used g h f go x m.1.1.1.0, m.1.1.1.1))))
trapping_used g h f go (trappings.Wpbranch n d e) m = (destination_used g h f go d m.0, destination_used g h f go e m.1)

switch_used : (g h : Names Sort) (f : FunctionNames) → SortsGo g h → (c : StackSwitch) → AllMet (switch_use g f c) → AllMet (switch_use h f c)
switch_used g h f go (switches.SwapReturning s ts n e k) m = (operand_used g h f go s m.0, (types_used g h go ts m.1.0, (entered_used g h f go n m.1.1.0, (exception_used g h f go e m.1.1.1.0, m.1.1.1.1))))
switch_used g h f go (switches.SwapKilling s n) m = (operand_used g h f go s m.0, entered_used g h f go n m.1)
switch_used g h f go (switches.Newthread s tl n e) m = (operand_used g h f go s m.0, (optional_operand_used g h f go tl m.1.0, (entered_used g h f go n m.1.1.0, exception_used g h f go e m.1.1.1)))

common_used : (g h : Names Sort) (f : FunctionNames) → SortsGo g h → (c : CommonInst) → AllMet (common_use g f c) → AllMet (common_use h f c)
common_used g h f go (commons.NewStack s a) m = (signature_used g h go s m.0, operand_used g h f go a m.1)
common_used g h f go (commons.KillStack s) m = operand_used g h f go s m
common_used g h f go commons.ThreadExit m = tt
common_used g h f go commons.CurrentStack m = tt
common_used g h f go (commons.SetThreadlocal r) m = operand_used g h f go r m
common_used g h f go commons.GetThreadlocal m = tt
common_used g h f go (commons.FutexWait t p v) m = (type_used g h go t m.0, (operand_used g h f go p m.1.0, operand_used g h f go v m.1.1))
common_used g h f go (commons.FutexWake t p n) m = (type_used g h go t m.0, (operand_used g h f go p m.1.0, operand_used g h f go n m.1.1))
common_used g h f go (commons.FutexWaitTimeout t p v n) m = (type_used g h go t m.0, (operand_used g h f go p m.1.0, (operand_used g h f go v m.1.1.0, operand_used g h f go n m.1.1.1)))

op_used : (g h : Names Sort) (f : FunctionNames) → SortsGo g h → (o : Op) → AllMet (op_use g f o) → AllMet (op_use h f o)
op_used g h f go (ops.Computation c) m = computation_used g h f go c m
op_used g h f go (ops.ControlFlow c) m = control_used g h f go c m
op_used g h f go (ops.Allocation c) m = allocation_used g h f go c m
op_used g h f go (ops.Addressing c) m = addressing_used g h f go c m
op_used g h f go (ops.Access c) m = access_used g h f go c m
op_used g h f go (ops.Trapping c) m = trapping_used g h f go c m
op_used g h f go (ops.StackSwitch c) m = switch_used g h f go c m
op_used g h f go (ops.Common c) m = common_used g h f go c m

insts_used : (g h : Names Sort) (f : FunctionNames) → SortsGo g h → (is : List Inst) → AllMet (inst_uses g f is) → AllMet (inst_uses h f is)
insts_used g h f go [] m = tt
insts_used g h f go (i ∷ is) m = (op_used g h f go i.op m.0, insts_used g h f go is m.1)

parameters_used : (g h : Names Sort) → SortsGo g h → (ps : List Parameter) → AllMet (parameter_uses g ps) → AllMet (parameter_uses h ps)
parameters_used g h go [] m = tt
parameters_used g h go (p ∷ ps) m = (type_used g h go p.of_type m.0, parameters_used g h go ps m.1)

blocks_used : (g h : Names Sort) (f : FunctionNames) → SortsGo g h → (bs : List Block) → AllMet (block_uses g f bs) → AllMet (block_uses h f bs)
blocks_used g h f go [] m = tt
blocks_used g h f go (b ∷ bs) m = ((parameters_used g h go b.head.parameters m.0.0, insts_used g h f go b.insts m.0.1), blocks_used g h f go bs m.1)

form_used : (g h : Names Sort) → SortsGo g h → (f : TypeForm) → AllMet (form_use g f) → AllMet (form_use h f)
form_used g h go (forms.Struct ts) m = types_used g h go ts m
form_used g h go (forms.Array t n) m = type_used g h go t m
form_used g h go (forms.Hybrid ts t) m = (types_used g h go ts m.0, type_used g h go t m.1)
form_used g h go (forms.Ref t) m = type_used g h go t m
form_used g h go (forms.Iref t) m = type_used g h go t m
form_used g h go (forms.Funcref s) m = signature_used g h go s m
form_used g h go f m = tt

members_used : (g h : Names Sort) → SortsGo g h → (ns : List Name) → AllMet (each (constant_use g) ns) → AllMet (each (constant_use h) ns)
members_used g h go [] m = tt
members_used g h go (n ∷ ns) m = (constant_used g h go n m.0, members_used g h go ns m.1)

literal_used : (g h : Names Sort) → SortsGo g h → (l : Literal) → AllMet (literal_use g l) → AllMet (literal_use h l)
literal_used g h go (literals.Members p ns) m = members_used g h go ns m
literal_used g h go l m = tt

pub item_used : (g h : Names Sort) → SortsGo g h → (i : Item) → AllMet (item_use g i) → AllMet (item_use h i)
item_used g h go (items.Typedef d) m = form_used g h go d.form m
item_used g h go (items.Funcsig d) m = (types_used g h go d.takes m.0, types_used g h go d.gives m.1)
item_used g h go (items.Const d) m = (type_used g h go d.of_type m.0, literal_used g h go d.literal m.1)
item_used g h go (items.GlobalCell d) m = type_used g h go d.of_type m
item_used g h go (items.Funcdecl d) m = signature_used g h go d.signature m
item_used g h go (items.Funcdef d) m = (signature_used g h go d.signature m.0, blocks_used g h (names_of d.blocks) go d.blocks m.1)
