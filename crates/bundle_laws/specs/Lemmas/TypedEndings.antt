-- The last instruction of a block ends it, and no other does; and what a machine at a place of a block knows.
use Rattle.std.proofs.Common.{◌≡◌, ℕ, ◌+◌, ◌<◌, zero, suc, Bool, true, false, List, [], ◌∷◌, ◌++◌, Option, Some, None, slice_get, length, take, is_some, option_map, ◌||◌, refl, sym, ◌∙◌, ap, subst, arith, append_assoc, append-nil}
use Rattle.demands.specs.Demands.{AllMet}
use Rattle.ir_tree.specs.declared.operands.ExceptionClause.{ExceptionClause}
use Rattle.ir_tree.specs.declared.computing.Computation.TheVariants as computations
use Rattle.ir_tree.specs.declared.flow.ControlFlow.TheVariants as flows
use Rattle.ir_tree.specs.declared.allocating.Allocation.TheVariants as allocations
use Rattle.ir_tree.specs.declared.accessing.Access.TheVariants as accesses
use Rattle.ir_tree.specs.declared.trapping.Trapping.TheVariants as trappings
use Rattle.ir_tree.specs.declared.switching.StackSwitch.TheVariants as switches
use Rattle.ir_tree.specs.declared.common.CommonInst.TheVariants as commons
use Rattle.ir_tree.specs.declared.code.Op.{Op}
use Rattle.ir_tree.specs.declared.code.Op.TheVariants as ops
use Rattle.ir_tree.specs.declared.code.Inst.{Inst}
use Rattle.check_tables.specs.declared.tables.Tables.{Tables}
use Rattle.checked_code.specs.declared.code.Code.{Code}
use Rattle.checked_code.specs.declared.scopes.Locals.{Locals}
use Rattle.checked_code.specs.declared.scopes.Body.{Body}
use Rattle.checked_code.specs.Destinations.{optional_target}
use Rattle.checked_code.specs.Instructions.{form_of, normal_of, is_ending, after, inst_demands, inst_code, insts_demands, insts_code, ends}
use Rattle.bundle_laws.specs.Typed.{Blocks, CodeFits, CodesFit, CodeAt, joined, form_ends, code_ends, EndsAtLast, BlockFits, LocalsFit, BodyFits, TablesFit}
use Rattle.bundle_laws.specs.TypedLaws.{all_gives}
use Rattle.bundle_laws.specs.Lemmas.TypedOperands.{not_is}
use Rattle.bundle_laws.specs.Lemmas.TypedInstructions.{insts_fit}

told : (p : Tables) (f : Body) (ls : Locals) (e : Option ExceptionClause) →
    is_some (optional_target p f ls (option_map (λ x. x.normal) e)) ≡ is_some e
told p f ls None = refl
told p f ls (Some e) = refl

-- code ends its block as the instruction does, one clause a form
ends_as : (p : Tables) (f : Body) (before later : Locals) (i : Op) →
    (form_ends (form_of p f before i) || is_some (optional_target p f later (normal_of i))) ≡ is_ending i
ends_as p f before later (ops.Computation (computations.Binary op t a b e)) = told p f later e
ends_as p f before later (ops.Computation (computations.Compare op t a b)) = refl
ends_as p f before later (ops.Computation (computations.Convert op s t a)) = refl
ends_as p f before later (ops.Computation (computations.Refcast s t a)) = refl
ends_as p f before later (ops.Computation (computations.Select s t c a b)) = refl
ends_as p f before later (ops.Computation (computations.Extractvalue t n a)) = refl
ends_as p f before later (ops.Computation (computations.Insertvalue t n a b)) = refl
ends_as p f before later (ops.ControlFlow (flows.Branch d)) = refl
ends_as p f before later (ops.ControlFlow (flows.Branch2 c d e)) = refl
ends_as p f before later (ops.ControlFlow (flows.Switch t a d cs)) = refl
ends_as p f before later (ops.ControlFlow (flows.Call s c a e k)) = told p f later e
ends_as p f before later (ops.ControlFlow (flows.Tailcall s c a)) = refl
ends_as p f before later (ops.ControlFlow (flows.Ret a)) = refl
ends_as p f before later (ops.ControlFlow (flows.Throw e)) = refl
ends_as p f before later (ops.Allocation (allocations.New t e)) = told p f later e
ends_as p f before later (ops.Allocation (allocations.Newhybrid h i n e)) = told p f later e
ends_as p f before later (ops.Allocation (allocations.Alloca t e)) = told p f later e
ends_as p f before later (ops.Addressing a) = refl
ends_as p f before later (ops.Access (accesses.Load o t l e)) = told p f later e
ends_as p f before later (ops.Access (accesses.Store o t l a e)) = told p f later e
ends_as p f before later (ops.Access (accesses.Cmpxchg w s o t l a b e)) = told p f later e
ends_as p f before later (ops.Access (accesses.Atomicrmw o op t l a e)) = told p f later e
ends_as p f before later (ops.Access (accesses.Fence o)) = refl
ends_as p f before later (ops.Trapping (trappings.Trap ts e k)) = told p f later e
ends_as p f before later (ops.Trapping (trappings.Watchpoint n ts d e x k)) = refl
ends_as p f before later (ops.Trapping (trappings.Wpbranch n d e)) = refl
ends_as p f before later (ops.StackSwitch (switches.SwapReturning s ts n e k)) = told p f later e
ends_as p f before later (ops.StackSwitch (switches.SwapKilling s n)) = refl
ends_as p f before later (ops.StackSwitch (switches.Newthread s tl n e)) = told p f later e
ends_as p f before later (ops.Common (commons.NewStack s g)) = refl
ends_as p f before later (ops.Common (commons.KillStack s)) = refl
ends_as p f before later (ops.Common commons.ThreadExit) = refl
ends_as p f before later (ops.Common commons.CurrentStack) = refl
ends_as p f before later (ops.Common (commons.SetThreadlocal r)) = refl
ends_as p f before later (ops.Common commons.GetThreadlocal) = refl
ends_as p f before later (ops.Common (commons.FutexWait t l v)) = refl
ends_as p f before later (ops.Common (commons.FutexWake t l n)) = refl
ends_as p f before later (ops.Common (commons.FutexWaitTimeout t l v n)) = refl

-- code ends its block where its instruction does
pub ends_same : (p : Tables) (f : Body) (ls : Locals) (i : Inst) → code_ends (inst_code p f ls i) ≡ is_ending i.op
ends_same p f ls i = ends_as p f ls (after p ls i) i.op

pub ends_at_last : (p : Tables) (f : Body) (ls : Locals) (ended : Bool) (is : List Inst) → AllMet (insts_demands p f ls ended is) → ends false is ≡ true →
    EndsAtLast (insts_code p f ls is)
unfolding inst_demands
ends_at_last p f ls ended [] m h = cc
ends_at_last p f ls ended (i ∷ []) m h = ends_same p f ls i ∙ h
ends_at_last p f ls ended (i ∷ j ∷ is) m h =
    (ends_same p f ls i ∙ not_is (is_ending i.op) m.1.0.0, ends_at_last p f (after p ls i) (is_ending i.op) (j ∷ is) m.1 h)

-- a block that ends
pub block_fits : (p : Tables) (blocks : Blocks) (f : Body) (ls : Locals) (is : List Inst) → TablesFit p → BodyFits blocks f → LocalsFit ls →
    AllMet (insts_demands p f ls false is) → ends false is ≡ true → BlockFits p blocks f.gives ls.classes (insts_code p f ls is)
block_fits p blocks f ls is tables body fits m h =
    record { given = all_gives p is; codes = insts_fit p blocks f ls false is tables body fits m; ending = ends_at_last p f ls false is m h }

some_is : {T : Type 0} (x y : T) → Some x ≡ Some y → x ≡ y
some_is x y e = cc

-- behind an instruction that does not end the block there is another one
pub goes_on : (is : List Code) (at : ℕ) (i : Code) → EndsAtLast is → slice_get is at ≡ Some i → code_ends i ≡ false → at + 1 < length is
goes_on [] at i ending there stays = absurd ending
goes_on (j ∷ []) zero i ending there stays = let h : true ≡ false = sym ending ∙ ap (λ (x : Code). code_ends x) (some_is j i there) ∙ stays in cc
goes_on (j ∷ []) (suc at) i ending there stays = cc
goes_on (j ∷ k ∷ is) zero i ending there stays = omega arith
goes_on (j ∷ k ∷ is) (suc at) i ending there stays = let h : at + 1 < length (k ∷ is) = goes_on (k ∷ is) at i ending.1 there stays in omega arith

-- what the instruction at a place gives; it fits the variables before it
pub code_at : (p : Tables) (blocks : Blocks) (returns ks : List ℕ) (is : List Code) (gss : List (List ℕ)) (at : ℕ) (i : Code) →
    CodesFit p blocks returns ks is gss → slice_get is at ≡ Some i → CodeAt p blocks returns ks gss at i
code_at p blocks returns ks [] gss at i fits there = cc
code_at p blocks returns ks (j ∷ is) [] at i fits there = absurd fits
code_at p blocks returns ks (j ∷ is) (gs ∷ gss) zero i fits there = record {
  given = gs;
  there = refl;
  fits =
      subst (λ (x : List ℕ). CodeFits p blocks returns x i gs) (sym (append-nil ks))
      (subst (λ (x : Code). CodeFits p blocks returns ks x gs) (some_is j i there) fits.0);
}
code_at p blocks returns ks (j ∷ is) (gs ∷ gss) (suc at) i fits there =
    let rest : CodeAt p blocks returns (ks ++ gs) gss at i = code_at p blocks returns (ks ++ gs) is gss at i fits.1 there in
    record {
      given = rest.given;
      there = rest.there;
      fits = subst (λ (x : List ℕ). CodeFits p blocks returns x i rest.given) (append_assoc ks gs (joined (take at gss))) rest.fits;
    }
