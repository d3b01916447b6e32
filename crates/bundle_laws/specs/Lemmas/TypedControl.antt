-- Instructions that say where the function goes on, and that meet their demands, fit, one clause a form.
use Rattle.std.proofs.Common.{◌≡◌, ℕ, true, List, [], ◌∷◌, Option, Some, None, IsSomeAnd, slice_get, refl, ap, subst}
use Rattle.std.proofs.lemmas.Slice.Eq.{bytes_eq-Decides}
use Rattle.demands.specs.Demands.{AllMet}
use Rattle.name_scopes.specs.Names.{found}
use Rattle.ir_lex.specs.declared.name.Name.{Name}
use Rattle.ir_tree.specs.declared.flow.Case.{Case}
use Rattle.ir_tree.specs.declared.flow.ControlFlow.{ControlFlow}
use Rattle.ir_tree.specs.declared.flow.ControlFlow.TheVariants as flows
use Rattle.bundle_names.specs.declared.globals.Sort.{Sort}
use Rattle.bundle_names.specs.declared.globals.Sort.TheVariants as sorts
use Rattle.check_tables.specs.declared.fault.CheckKind.TheVariants.{OperandType}
use Rattle.check_tables.specs.declared.tables.Signature.{Signature}
use Rattle.check_tables.specs.declared.tables.Tables.{Tables}
use Rattle.check_tables.specs.Types.{int1, ref_void}
use Rattle.check_tables.specs.Lookups.{class_named, noted_class, class_of_global, global_class, signature_named, funcref_of, takes_of, gives_of, noted_classes}
use Rattle.check_tables.specs.TypeTests.{is_int}
use Rattle.checked_code.specs.declared.scopes.Locals.{Locals}
use Rattle.checked_code.specs.declared.scopes.Body.{Body}
use Rattle.checked_code.specs.Operands.{source_of, sources_of}
use Rattle.checked_code.specs.Control.{case_demands, constant_number, cases_code, gives_these, control_demands, control_gives, control_code}
use Rattle.bundle_laws.specs.Typed.{SourceFits, SourcesFit, HasType, Blocks, CasesFit, ControlFits, LocalsFit, BodyFits, TablesFit}
use Rattle.bundle_laws.specs.Lemmas.TypedTables.{cell_is_no_int, function_is_no_int}
use Rattle.bundle_laws.specs.Lemmas.TypedOperands.{same_class, noted, operand_fits, of_type_fits, arguments_fit, type_of, SignatureIn, signature_of, normal_fits}

-- ---- cases of a SWITCH

-- what has the class of an int type is a constant
constant_is : (p : Tables) (o : Option Sort) (c : ℕ) → TablesFit p → HasType p is_int c → global_class p o ≡ Some c → slice_get p.constants (constant_number o) ≡ Some c
constant_is p None c tables int h = cc
constant_is p (Some (sorts.Written n)) c tables int h = cc
constant_is p (Some (sorts.Signature n)) c tables int h = cc
constant_is p (Some (sorts.Constant n)) c tables int h = h
constant_is p (Some (sorts.GlobalCell n)) c tables int h = absurd (cell_is_no_int p n c tables h int)
constant_is p (Some (sorts.Function n)) c tables int h = absurd (function_is_no_int p (slice_get p.functions n) c tables h int)

cases_fit : (p : Tables) (blocks : Blocks) (f : Body) (ls : Locals) (t : Name) (cs : List Case) → TablesFit p → BodyFits blocks f → LocalsFit ls →
    HasType p is_int (noted_class p t) → AllMet (case_demands p f ls t cs) → CasesFit p blocks ls.classes (noted_class p t) (cases_code p f ls cs)
cases_fit p blocks f ls t [] tables body fits int m = tt
cases_fit p blocks f ls t (c ∷ cs) tables body fits int m = (
  (
    constant_is p (found p.globals.names c.constant.text) (noted_class p t) tables int
        (noted (λ k. class_of_global p c.constant ≡ Some k) (class_named p t) (same_class (class_of_global p c.constant) (class_named p t) m.0.0)),
    normal_fits p blocks f ls c.destination body fits m.0.1,
  ),
  cases_fit p blocks f ls t cs tables body fits int m.1,
)

-- ---- the forms

pub control_fits : (p : Tables) (blocks : Blocks) (f : Body) (ls : Locals) (c : ControlFlow) → TablesFit p → BodyFits blocks f → LocalsFit ls →
    AllMet (control_demands p f ls c) → ControlFits p blocks f.gives ls.classes (control_code p f ls c) (control_gives p c)
control_fits p blocks f ls (flows.Branch d) tables body fits m = (normal_fits p blocks f ls d body fits m, refl)
control_fits p blocks f ls (flows.Branch2 c d e) tables body fits m =
    (operand_fits p ls OperandType c (Some (int1 p.types)) fits m.0, normal_fits p blocks f ls d body fits m.1.0, normal_fits p blocks f ls e body fits m.1.1, refl)
control_fits p blocks f ls (flows.Switch t a d cs) tables body fits m =
    let int : HasType p is_int (noted_class p t) = (type_of p t is_int refl m.0).type in
    (int, of_type_fits p ls a t fits m.1.0, normal_fits p blocks f ls d body fits m.1.1.0, cases_fit p blocks f ls t cs tables body fits int m.1.1.1, refl)
control_fits p blocks f ls (flows.Call s c a e k) tables body fits m =
    let callee : IsSomeAnd (funcref_of (signature_named p s)) (λ x. SourceFits p ls.classes (source_of p ls c) x) =
    operand_fits p ls OperandType c (funcref_of (signature_named p s)) fits m.0 in
    let z : SignatureIn p (signature_named p s) = signature_of p s (λ x. SourceFits p ls.classes (source_of p ls c) x) callee in (
      z.signature,
      subst (λ (x : Option Signature). IsSomeAnd (funcref_of x) (λ k. SourceFits p ls.classes (source_of p ls c) k)) z.is callee,
      subst (λ (x : Option Signature). IsSomeAnd (takes_of x) (λ ks. SourcesFit p ls.classes (sources_of p ls a.values) ks)) z.is
          (arguments_fit p ls a (takes_of (signature_named p s)) fits m.1),
      ap (λ x. noted_classes (gives_of x)) z.is,
    )
control_fits p blocks f ls (flows.Tailcall s c a) tables body fits m =
    let callee : IsSomeAnd (funcref_of (signature_named p s)) (λ x. SourceFits p ls.classes (source_of p ls c) x) =
    operand_fits p ls OperandType c (funcref_of (signature_named p s)) fits m.1.0 in
    let z : SignatureIn p (signature_named p s) = signature_of p s (λ x. SourceFits p ls.classes (source_of p ls c) x) callee in (
      z.signature,
      (bytes_eq-Decides z.signature.entry.gives f.gives).0 (subst (λ (x : Option Signature). gives_these (gives_of x) f.gives ≡ true) z.is m.0),
      subst (λ (x : Option Signature). IsSomeAnd (funcref_of x) (λ k. SourceFits p ls.classes (source_of p ls c) k)) z.is callee,
      subst (λ (x : Option Signature). IsSomeAnd (takes_of x) (λ ks. SourcesFit p ls.classes (sources_of p ls a.values) ks)) z.is
          (arguments_fit p ls a (takes_of (signature_named p s)) fits m.1.1),
      refl,
    )
control_fits p blocks f ls (flows.Ret a) tables body fits m = (arguments_fit p ls a (Some f.gives) fits m, refl)
control_fits p blocks f ls (flows.Throw e) tables body fits m = (operand_fits p ls OperandType e (Some (ref_void p.types)) fits m, refl)
