-- Instructions that meet their demands are well typed code.
use Rattle.std.proofs.Common.{◌≡◌, ℕ, Bool, List, [], ◌∷◌, ◌++◌, length, sym, ◌∙◌, ap, subst, append_assoc, append-nil}
use Rattle.demands.specs.Demands.{AllMet}
use Rattle.ir_tree.specs.declared.code.Op.{Op}
use Rattle.ir_tree.specs.declared.code.Op.TheVariants as ops
use Rattle.ir_tree.specs.declared.code.Inst.{Inst}
use Rattle.check_tables.specs.declared.tables.Tables.{Tables}
use Rattle.checked_code.specs.declared.scopes.Locals.{Locals}
use Rattle.checked_code.specs.declared.scopes.Body.{Body}
use Rattle.checked_code.specs.Destinations.{optional_target}
use Rattle.checked_code.specs.Instructions.{op_demands, gives, form_of, normal_of, exceptional_of, keepalive_of, after, inst_demands, inst_code, insts_demands, insts_code, after_all, is_ending}
use Rattle.bundle_laws.specs.Typed.{Blocks, FormFits, OptionalNormalFits, CodeFits, CodesFit, joined, LocalsFit, BodyFits, TablesFit}
use Rattle.bundle_laws.specs.TypedLaws.{all_gives}
use Rattle.bundle_laws.specs.Lemmas.TypedOperands.{nat_eq_is, optional_normal_fits, optional_exceptional_fits, keepalive_fits}
use Rattle.bundle_laws.specs.Lemmas.TypedComputations.{computation_fits}
use Rattle.bundle_laws.specs.Lemmas.TypedControl.{control_fits}
use Rattle.bundle_laws.specs.Lemmas.TypedObjects.{allocation_fits, addressing_fits}
use Rattle.bundle_laws.specs.Lemmas.TypedAccesses.{access_fits}
use Rattle.bundle_laws.specs.Lemmas.TypedStacks.{trapping_fits, switch_fits}
use Rattle.bundle_laws.specs.Lemmas.TypedCommons.{common_fits}
use Rattle.bundle_laws.specs.Lemmas.TypedExits.{told_as}
use Rattle.bundle_laws.specs.Lemmas.TypedVariables.{results_fit, results_classes}

pub op_fits : (p : Tables) (blocks : Blocks) (f : Body) (ls : Locals) (i : Op) → TablesFit p → BodyFits blocks f → LocalsFit ls →
    AllMet (op_demands p f ls i) → FormFits p blocks f.gives ls.classes (form_of p f ls i) (gives p i)
op_fits p blocks f ls (ops.Computation c) tables body fits m = computation_fits p ls c tables fits m
op_fits p blocks f ls (ops.ControlFlow c) tables body fits m = control_fits p blocks f ls c tables body fits m
op_fits p blocks f ls (ops.Allocation a) tables body fits m = allocation_fits p ls a fits m
op_fits p blocks f ls (ops.Addressing a) tables body fits m = addressing_fits p ls a tables fits m
op_fits p blocks f ls (ops.Access a) tables body fits m = access_fits p ls a fits m
op_fits p blocks f ls (ops.Trapping t) tables body fits m = trapping_fits p blocks f ls t body fits m
op_fits p blocks f ls (ops.StackSwitch s) tables body fits m = switch_fits p ls s fits m
op_fits p blocks f ls (ops.Common c) tables body fits m = common_fits p ls c fits m

-- the variables behind an instruction
pub after_fits : (p : Tables) (ls : Locals) (i : Inst) → LocalsFit ls → LocalsFit (after p ls i)
after_fits p ls i fits = results_fit ls i.results (gives p i.op) fits

pub after_classes : (p : Tables) (f : Body) (ls : Locals) (ended : Bool) (i : Inst) → AllMet (inst_demands p f ls ended i) → (after p ls i).classes ≡ ls.classes ++ gives p i.op
unfolding inst_demands
after_classes p f ls ended i m = results_classes ls i.results (gives p i.op) (nat_eq_is (length i.results) (length (gives p i.op)) m.1.0)

pub inst_fits : (p : Tables) (blocks : Blocks) (f : Body) (ls : Locals) (ended : Bool) (i : Inst) → TablesFit p → BodyFits blocks f → LocalsFit ls →
    AllMet (inst_demands p f ls ended i) → CodeFits p blocks f.gives ls.classes (inst_code p f ls i) (gives p i.op)
unfolding inst_demands
inst_fits p blocks f ls ended i tables body fits m = record {
  form = op_fits p blocks f ls i.op tables body fits m.1.1.0;
  told = told_as p f ls (after p ls i) i.op;
  normal =
      subst (λ (ks : List ℕ). OptionalNormalFits p blocks ks (optional_target p f (after p ls i) (normal_of i.op))) (after_classes p f ls ended i m)
      (optional_normal_fits p blocks f (after p ls i) (normal_of i.op) body (after_fits p ls i fits) m.1.1.1.0);
  exceptional = optional_exceptional_fits p blocks f ls (exceptional_of i.op) body fits m.1.1.1.1.0;
  keepalive = keepalive_fits ls (keepalive_of i.op) fits m.1.1.1.1.1;
}

pub insts_fit : (p : Tables) (blocks : Blocks) (f : Body) (ls : Locals) (ended : Bool) (is : List Inst) → TablesFit p → BodyFits blocks f → LocalsFit ls →
    AllMet (insts_demands p f ls ended is) → CodesFit p blocks f.gives ls.classes (insts_code p f ls is) (all_gives p is)
insts_fit p blocks f ls ended [] tables body fits m = tt
insts_fit p blocks f ls ended (i ∷ is) tables body fits m = (
  inst_fits p blocks f ls ended i tables body fits m.0,
  subst (λ (ks : List ℕ). CodesFit p blocks f.gives ks (insts_code p f (after p ls i) is) (all_gives p is)) (after_classes p f ls ended i m.0)
      (insts_fit p blocks f (after p ls i) (is_ending i.op) is tables body (after_fits p ls i fits) m.1),
)

-- the variables behind all of them
pub all_fit : (p : Tables) (ls : Locals) (is : List Inst) → LocalsFit ls → LocalsFit (after_all p ls is)
all_fit p ls [] fits = fits
all_fit p ls (i ∷ is) fits = all_fit p (after p ls i) is (after_fits p ls i fits)

pub all_classes : (p : Tables) (f : Body) (ls : Locals) (ended : Bool) (is : List Inst) → AllMet (insts_demands p f ls ended is) →
    (after_all p ls is).classes ≡ ls.classes ++ joined (all_gives p is)
all_classes p f ls ended [] m = sym (append-nil ls.classes)
all_classes p f ls ended (i ∷ is) m =
    all_classes p f (after p ls i) (is_ending i.op) is m.1
    ∙ ap (λ ks. ks ++ joined (all_gives p is)) (after_classes p f ls ended i m.0)
    ∙ append_assoc ls.classes (gives p i.op) (joined (all_gives p is))
