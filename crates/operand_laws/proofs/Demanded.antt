-- What is asked of an instruction's operands is what the checker demands of them.
use Rattle.std.proofs.Common.{◌≡◌, ℕ, List, [], ◌∷◌, ◌++◌, Option, Some, None, length, refl, arith}
use Rattle.std.specs.List.{AllByRecursion}
use Rattle.std.specs.Option.{option_map_or}
use Rattle.demands.specs.Demands.{AllMet, none}
use Rattle.ir_lex.specs.declared.name.Name.{Name}
use Rattle.ir_tree.specs.declared.operands.Operand.{Operand}
use Rattle.ir_tree.specs.declared.operands.Arguments.{Arguments}
use Rattle.ir_tree.specs.declared.operands.Destination.{Destination}
use Rattle.ir_tree.specs.declared.operands.NewStackClause.{NewStackClause}
use Rattle.ir_tree.specs.declared.operands.NewStackClause.TheVariants as clauses
use Rattle.ir_tree.specs.declared.computing.Computation.{Computation}
use Rattle.ir_tree.specs.declared.computing.Computation.TheVariants as computations
use Rattle.ir_tree.specs.declared.flow.Case.{Case}
use Rattle.ir_tree.specs.declared.flow.ControlFlow.{ControlFlow}
use Rattle.ir_tree.specs.declared.flow.ControlFlow.TheVariants as flows
use Rattle.ir_tree.specs.declared.allocating.Allocation.{Allocation}
use Rattle.ir_tree.specs.declared.allocating.Allocation.TheVariants as allocations
use Rattle.ir_tree.specs.declared.addressing.Addressing.{Addressing}
use Rattle.ir_tree.specs.declared.addressing.Addressing.TheVariants as addressings
use Rattle.ir_tree.specs.declared.accessing.Access.{Access}
use Rattle.ir_tree.specs.declared.accessing.Access.TheVariants as accesses
use Rattle.ir_tree.specs.declared.trapping.Trapping.{Trapping}
use Rattle.ir_tree.specs.declared.trapping.Trapping.TheVariants as trappings
use Rattle.ir_tree.specs.declared.switching.StackSwitch.{StackSwitch}
use Rattle.ir_tree.specs.declared.switching.StackSwitch.TheVariants as switches
use Rattle.ir_tree.specs.declared.common.CommonInst.{CommonInst}
use Rattle.ir_tree.specs.declared.common.CommonInst.TheVariants as commons
use Rattle.ir_tree.specs.declared.code.Op.{Op}
use Rattle.ir_tree.specs.declared.code.Op.TheVariants as ops
use Rattle.check_tables.specs.declared.fault.CheckKind.TheVariants.{OperandType}
use Rattle.check_tables.specs.declared.tables.Tables.{Tables}
use Rattle.check_tables.specs.Lookups.{signature_named, takes_of, noted_classes}
use Rattle.checked_code.specs.declared.scopes.Locals.{Locals}
use Rattle.checked_code.specs.declared.scopes.Body.{Body}
use Rattle.checked_code.specs.Operands.{operand_demands, int64_demands, member_demands, argument_demands, noted_list}
use Rattle.checked_code.specs.Destinations.{block_named, entry_takes, exceptional_demands, normal_demands, entered_demands}
use Rattle.checked_code.specs.Computations.{computation_demands}
use Rattle.checked_code.specs.Control.{case_demands, control_demands}
use Rattle.checked_code.specs.Objects.{allocation_demands, addressing_demands}
use Rattle.checked_code.specs.Accesses.{access_demands}
use Rattle.checked_code.specs.Stacks.{trapping_demands, threadlocal_demands, switch_demands}
use Rattle.checked_code.specs.Commons.{common_demands}
use Rattle.checked_code.specs.Instructions.{op_demands}
use Rattle.bundle_laws.specs.Lemmas.TypedOperands.{nat_eq_is}
use Rattle.operand_laws.specs.Asked.{Asked, Wanted, OfClass, Int64, arguments, destination_operands, computation_operands, case_operands, control_operands, allocation_operands, addressing_operands, access_operands, trapping_operands, entered_operands, threadlocal_operands, switch_operands, common_operands, form_operands, optional_operands}

-- ---- lists

pub both_of : {A : Type 0} (P : A → Type 0) (xs ys : List A) → AllByRecursion P xs → AllByRecursion P ys → AllByRecursion P (xs ++ ys)
both_of P [] ys h k = k
both_of P (x ∷ xs) ys h k = (h.0, both_of P xs ys h.1 k)

pub each_more : {A : Type 0} (P Q : A → Type 0) (xs : List A) → ((a : A) → P a → Q a) → AllByRecursion P xs → AllByRecursion Q xs
each_more P Q [] more h = tt
each_more P Q (x ∷ xs) more h = (more x h.0, each_more P Q xs more h.1)

-- ---- what is demanded of one operand, and of each of some

abbrev pub IsDemandedOf : Tables → Locals → Operand → Wanted → Type 0
IsDemandedOf p ls o (OfClass c) = AllMet (operand_demands p ls OperandType o c)
IsDemandedOf p ls o Int64 = AllMet (int64_demands p ls o)

abbrev pub IsDemanded : Tables → Locals → Asked → Type 0
IsDemanded p ls a = IsDemandedOf p ls a.operand a.wanted

abbrev pub AreDemanded : Tables → Locals → List Asked → Type 0
AreDemanded p ls xs = AllByRecursion (IsDemanded p ls) xs

-- ---- by form

module _ (p : Tables) (f : Body) (ls : Locals) where
  members_demanded : (os : List Operand) (cs : List ℕ) → length os ≡ length cs → AllMet (member_demands p ls os cs) → AreDemanded p ls (arguments os cs)
  members_demanded [] cs e m = tt
  members_demanded (o ∷ os) [] e m = absurd (omega (arith, e))
  members_demanded (o ∷ os) (c ∷ cs) e m = (m.0, members_demanded os cs (omega (arith, e)) m.1)

  arguments_demanded : (a : Arguments) (wanted : Option (List ℕ)) → AllMet (argument_demands p ls a wanted) → AreDemanded p ls (arguments a.values (noted_classes wanted))
  unfolding argument_demands
  arguments_demanded a None m = let h = m.0 in cc
  arguments_demanded a (Some cs) m = members_demanded a.values cs (nat_eq_is (length a.values) (length cs) m.0) m.1

  exceptional_demanded : (d : Destination) → AllMet (exceptional_demands p f ls d) → AreDemanded p ls (destination_operands f d)
  exceptional_demanded d m = arguments_demanded d.arguments (entry_takes (block_named f d.block)) m

  normal_demanded : (d : Destination) → AllMet (normal_demands p f ls d) → AreDemanded p ls (destination_operands f d)
  normal_demanded d m = exceptional_demanded d m.1

  pub optional_exceptional_demanded : (d : Option Destination) → AllMet (option_map_or (exceptional_demands p f ls) d none) → AreDemanded p ls (optional_operands f d)
  optional_exceptional_demanded None m = tt
  optional_exceptional_demanded (Some d) m = exceptional_demanded d m

  pub optional_normal_demanded : (d : Option Destination) → AllMet (option_map_or (normal_demands p f ls) d none) → AreDemanded p ls (optional_operands f d)
  optional_normal_demanded None m = tt
  optional_normal_demanded (Some d) m = normal_demanded d m

  normals_demanded : (d e : Destination) → AllMet (normal_demands p f ls d) → AllMet (normal_demands p f ls e) → AreDemanded p ls (destination_operands f d ++ destination_operands f e)
  normals_demanded d e m n = both_of (IsDemanded p ls) (destination_operands f d) (destination_operands f e) (normal_demanded d m) (normal_demanded e n)

  computation_demanded : (c : Computation) → AllMet (computation_demands p ls c) → AreDemanded p ls (computation_operands p c)
  computation_demanded (computations.Binary op t a b e) m = (m.1.0, (m.1.1, tt))
  computation_demanded (computations.Compare op t a b) m = (m.1.0, (m.1.1, tt))
  computation_demanded (computations.Convert op s t a) m = (m.1.1, tt)
  computation_demanded (computations.Refcast s t a) m = (m.1.1, tt)
  computation_demanded (computations.Select s t c a b) m = (m.1.1.0, (m.1.1.1.0, (m.1.1.1.1, tt)))
  computation_demanded (computations.Extractvalue t n a) m = (m.1, tt)
  computation_demanded (computations.Insertvalue t n a b) m = (m.1.0, (m.1.1, tt))

  cases_demanded : (t : Name) (cs : List Case) → AllMet (case_demands p f ls t cs) → AreDemanded p ls (case_operands p f t cs)
  cases_demanded t [] m = tt
  cases_demanded t (c ∷ cs) m = ((refl, m.0.0), both_of (IsDemanded p ls) (destination_operands f c.destination) (case_operands p f t cs) (normal_demanded c.destination m.0.1) (cases_demanded t cs m.1))

  control_demanded : (c : ControlFlow) → AllMet (control_demands p f ls c) → AreDemanded p ls (control_operands p f c)
  control_demanded (flows.Branch d) m = normal_demanded d m
  control_demanded (flows.Branch2 c d e) m = (m.0, normals_demanded d e m.1.0 m.1.1)
  control_demanded (flows.Switch t a d cs) m =
      (m.1.0, both_of (IsDemanded p ls) (destination_operands f d) (case_operands p f t cs) (normal_demanded d m.1.1.0) (cases_demanded t cs m.1.1.1))
  control_demanded (flows.Call s c a e k) m = (m.0, arguments_demanded a (takes_of (signature_named p s)) m.1)
  control_demanded (flows.Tailcall s c a) m = (m.1.0, arguments_demanded a (takes_of (signature_named p s)) m.1.1)
  control_demanded (flows.Ret a) m = arguments_demanded a (Some f.gives) m
  control_demanded (flows.Throw e) m = (m, tt)

  allocation_demanded : (a : Allocation) → AllMet (allocation_demands p ls a) → AreDemanded p ls (allocation_operands p a)
  allocation_demanded (allocations.New t e) m = tt
  allocation_demanded (allocations.Newhybrid h i n e) m = (m.1.1, tt)
  allocation_demanded (allocations.Alloca t e) m = tt

  addressing_demanded : (a : Addressing) → AllMet (addressing_demands p ls a) → AreDemanded p ls (addressing_operands p a)
  addressing_demanded (addressings.Getiref t r) m = (m, tt)
  addressing_demanded (addressings.Getfieldiref t n l) m = (m.1.1, tt)
  addressing_demanded (addressings.Getelemiref t i l x) m = (m.1.1.0, (m.1.1.1, tt))
  addressing_demanded (addressings.Shiftiref t i l x) m = (m.1.1.0, (m.1.1.1, tt))
  addressing_demanded (addressings.Getvarpartiref h l) m = (m.1, tt)

  access_demanded : (a : Access) → AllMet (access_demands p ls a) → AreDemanded p ls (access_operands p a)
  access_demanded (accesses.Load o t l e) m = (m.1.1, tt)
  access_demanded (accesses.Store o t l a e) m = (m.1.1.0, (m.1.1.1, tt))
  access_demanded (accesses.Cmpxchg w s o t l a b e) m = (m.1.1.1.0, (m.1.1.1.1.0, (m.1.1.1.1.1, tt)))
  access_demanded (accesses.Atomicrmw o op t l a e) m = (m.1.1.0, (m.1.1.1, tt))
  access_demanded (accesses.Fence o) m = tt

  trapping_demanded : (t : Trapping) → AllMet (trapping_demands p f ls t) → AreDemanded p ls (trapping_operands f t)
  trapping_demanded (trappings.Trap ts e k) m = tt
  trapping_demanded (trappings.Watchpoint n ts d e x k) m = normal_demanded d m.1.1
  trapping_demanded (trappings.Wpbranch n d e) m = normals_demanded d e m.1.0 m.1.1

  entered_demanded : (n : NewStackClause) → AllMet (entered_demands p ls n) → AreDemanded p ls (entered_operands p n)
  entered_demanded (clauses.PassValues ts a) m = arguments_demanded a (Some (noted_list p ts)) m.1
  entered_demanded (clauses.ThrowExc e) m = (m, tt)

  threadlocal_demanded : (o : Option Operand) → AllMet (threadlocal_demands p ls o) → AreDemanded p ls (threadlocal_operands p o)
  threadlocal_demanded None m = tt
  threadlocal_demanded (Some v) m = (m, tt)

  switch_demanded : (s : StackSwitch) → AllMet (switch_demands p ls s) → AreDemanded p ls (switch_operands p s)
  switch_demanded (switches.SwapReturning s ts n e k) m = (m.0, entered_demanded n m.1.1)
  switch_demanded (switches.SwapKilling s n) m = (m.0, entered_demanded n m.1)
  switch_demanded (switches.Newthread s tl n e) m =
      (m.0, both_of (IsDemanded p ls) (threadlocal_operands p tl) (entered_operands p n) (threadlocal_demanded tl m.1.0) (entered_demanded n m.1.1))

  common_demanded : (c : CommonInst) → AllMet (common_demands p ls c) → AreDemanded p ls (common_operands p c)
  common_demanded (commons.NewStack s g) m = (m, tt)
  common_demanded (commons.KillStack s) m = (m, tt)
  common_demanded commons.ThreadExit m = tt
  common_demanded commons.CurrentStack m = tt
  common_demanded (commons.SetThreadlocal r) m = (m, tt)
  common_demanded commons.GetThreadlocal m = tt
  common_demanded (commons.FutexWait t l v) m = (m.1.0, (m.1.1, tt))
  common_demanded (commons.FutexWake t l n) m = (m.1.0, (m.1.1, tt))
  common_demanded (commons.FutexWaitTimeout t l v n) m = (m.1.0, (m.1.1.0, (m.1.1.1, tt)))

  pub form_demanded : (i : Op) → AllMet (op_demands p f ls i) → AreDemanded p ls (form_operands p f i)
  form_demanded (ops.Computation c) m = computation_demanded c m
  form_demanded (ops.ControlFlow c) m = control_demanded c m
  form_demanded (ops.Allocation a) m = allocation_demanded a m
  form_demanded (ops.Addressing a) m = addressing_demanded a m
  form_demanded (ops.Access a) m = access_demanded a m
  form_demanded (ops.Trapping t) m = trapping_demanded t m
  form_demanded (ops.StackSwitch s) m = switch_demanded s m
  form_demanded (ops.Common c) m = common_demanded c m
