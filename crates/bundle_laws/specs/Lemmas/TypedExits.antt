-- Whether an instruction is told where it goes on, one clause a form.
use Rattle.std.proofs.Common.{◌≡◌, true, Option, Some, None, is_some, option_map, refl}
use Rattle.ir_tree.specs.declared.operands.ExceptionClause.{ExceptionClause}
use Rattle.ir_tree.specs.declared.computing.Computation.TheVariants as computations
use Rattle.ir_tree.specs.declared.flow.ControlFlow.TheVariants as flows
use Rattle.ir_tree.specs.declared.allocating.Allocation.TheVariants as allocations
use Rattle.ir_tree.specs.declared.accessing.Access.TheVariants as accesses
use Rattle.ir_tree.specs.declared.trapping.Trapping.TheVariants as trappings
use Rattle.ir_tree.specs.declared.switching.StackSwitch.TheVariants as switches
use Rattle.ir_tree.specs.declared.code.Op.{Op}
use Rattle.ir_tree.specs.declared.code.Op.TheVariants as ops
use Rattle.check_tables.specs.declared.tables.Tables.{Tables}
use Rattle.checked_code.specs.declared.scopes.Locals.{Locals}
use Rattle.checked_code.specs.declared.scopes.Body.{Body}
use Rattle.checked_code.specs.Destinations.{optional_target}
use Rattle.checked_code.specs.Instructions.{form_of, normal_of, exceptional_of}
use Rattle.bundle_laws.specs.Typed.{both_or_none, exits}

-- EXC tells both destinations
both_told : (p : Tables) (f : Body) (before later : Locals) (e : Option ExceptionClause) →
    both_or_none (is_some (optional_target p f later (option_map (λ x. x.normal) e))) (is_some (optional_target p f before (option_map (λ x. x.exceptional) e))) ≡ true
both_told p f before later None = refl
both_told p f before later (Some e) = refl

pub told_as : (p : Tables) (f : Body) (before later : Locals) (i : Op) →
    exits (form_of p f before i) (is_some (optional_target p f later (normal_of i))) (is_some (optional_target p f before (exceptional_of i))) ≡ true
told_as p f before later (ops.Computation (computations.Binary op t a b e)) = both_told p f before later e
told_as p f before later (ops.Computation (computations.Compare op t a b)) = refl
told_as p f before later (ops.Computation (computations.Convert op s t a)) = refl
told_as p f before later (ops.Computation (computations.Refcast s t a)) = refl
told_as p f before later (ops.Computation (computations.Select s t c a b)) = refl
told_as p f before later (ops.Computation (computations.Extractvalue t n a)) = refl
told_as p f before later (ops.Computation (computations.Insertvalue t n a b)) = refl
told_as p f before later (ops.ControlFlow (flows.Branch d)) = refl
told_as p f before later (ops.ControlFlow (flows.Branch2 c d e)) = refl
told_as p f before later (ops.ControlFlow (flows.Switch t a d cs)) = refl
told_as p f before later (ops.ControlFlow (flows.Call s c a e k)) = both_told p f before later e
told_as p f before later (ops.ControlFlow (flows.Tailcall s c a)) = refl
told_as p f before later (ops.ControlFlow (flows.Ret a)) = refl
told_as p f before later (ops.ControlFlow (flows.Throw e)) = refl
told_as p f before later (ops.Allocation (allocations.New t e)) = both_told p f before later e
told_as p f before later (ops.Allocation (allocations.Newhybrid h i n e)) = both_told p f before later e
told_as p f before later (ops.Allocation (allocations.Alloca t e)) = both_told p f before later e
told_as p f before later (ops.Addressing a) = refl
told_as p f before later (ops.Access (accesses.Load o t l e)) = both_told p f before later e
told_as p f before later (ops.Access (accesses.Store o t l a e)) = both_told p f before later e
told_as p f before later (ops.Access (accesses.Cmpxchg w s o t l a b e)) = both_told p f before later e
told_as p f before later (ops.Access (accesses.Atomicrmw o op t l a e)) = both_told p f before later e
told_as p f before later (ops.Access (accesses.Fence o)) = refl
told_as p f before later (ops.Trapping (trappings.Trap ts e k)) = both_told p f before later e
told_as p f before later (ops.Trapping (trappings.Watchpoint n ts d e x k)) = refl
told_as p f before later (ops.Trapping (trappings.Wpbranch n d e)) = refl
told_as p f before later (ops.StackSwitch (switches.SwapReturning s ts n e k)) = both_told p f before later e
told_as p f before later (ops.StackSwitch (switches.SwapKilling s n)) = refl
told_as p f before later (ops.StackSwitch (switches.Newthread s tl n e)) = both_told p f before later e
told_as p f before later (ops.Common c) = refl
