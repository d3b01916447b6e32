-- Instructions under names that meet their demands fit, one clause a form.
use Rattle.std.proofs.Common.{Option, Some, IsSomeAnd, refl, subst}
use Rattle.demands.specs.Demands.{AllMet}
use Rattle.ir_tree.specs.declared.common.CommonInst.{CommonInst}
use Rattle.ir_tree.specs.declared.common.CommonInst.TheVariants as commons
use Rattle.check_tables.specs.declared.fault.CheckKind.TheVariants.{OperandType}
use Rattle.check_tables.specs.declared.tables.Signature.{Signature}
use Rattle.check_tables.specs.declared.tables.Tables.{Tables}
use Rattle.check_tables.specs.Types.{int32, stackref, ref_void}
use Rattle.check_tables.specs.Lookups.{type_named, signature_named, funcref_of}
use Rattle.check_tables.specs.TypeTests.{is_int}
use Rattle.checked_code.specs.declared.scopes.Locals.{Locals}
use Rattle.checked_code.specs.Operands.{source_of}
use Rattle.checked_code.specs.Commons.{common_demands, common_gives, common_code}
use Rattle.bundle_laws.specs.Typed.{SourceFits, CommonFits, LocalsFit}
use Rattle.bundle_laws.specs.Lemmas.TypedOperands.{operand_fits, int64_fits, of_type_fits, place_fits, TypeIn, type_of, SignatureIn, signature_of}

pub common_fits : (p : Tables) (ls : Locals) (c : CommonInst) → LocalsFit ls → AllMet (common_demands p ls c) →
    CommonFits p ls.classes (common_code p ls c) (common_gives p c)
common_fits p ls (commons.NewStack s f) fits m =
    let function : IsSomeAnd (funcref_of (signature_named p s)) (λ c. SourceFits p ls.classes (source_of p ls f) c) =
    operand_fits p ls OperandType f (funcref_of (signature_named p s)) fits m in
    let z : SignatureIn p (signature_named p s) = signature_of p s (λ c. SourceFits p ls.classes (source_of p ls f) c) function in
    (z.signature, subst (λ (x : Option Signature). IsSomeAnd (funcref_of x) (λ c. SourceFits p ls.classes (source_of p ls f) c)) z.is function, refl)
common_fits p ls (commons.KillStack s) fits m = (operand_fits p ls OperandType s (Some (stackref p.types)) fits m, refl)
common_fits p ls commons.ThreadExit fits m = refl
common_fits p ls commons.CurrentStack fits m = refl
common_fits p ls (commons.SetThreadlocal r) fits m = (operand_fits p ls OperandType r (Some (ref_void p.types)) fits m, refl)
common_fits p ls commons.GetThreadlocal fits m = refl
common_fits p ls (commons.FutexWait t l v) fits m =
    let type : TypeIn p (type_named p t) is_int = type_of p t is_int refl m.0 in
    (type.type, place_fits p ls l (type_named p t) type.type.number fits type.is m.1.0, of_type_fits p ls v t fits m.1.1, refl)
common_fits p ls (commons.FutexWake t l n) fits m =
    let type : TypeIn p (type_named p t) is_int = type_of p t is_int refl m.0 in (
      type.type,
      place_fits p ls l (type_named p t) type.type.number fits type.is m.1.0,
      operand_fits p ls OperandType n (Some (int32 p.types)) fits m.1.1,
      refl,
    )
common_fits p ls (commons.FutexWaitTimeout t l v n) fits m =
    let type : TypeIn p (type_named p t) is_int = type_of p t is_int refl m.0 in (
      type.type,
      place_fits p ls l (type_named p t) type.type.number fits type.is m.1.0,
      of_type_fits p ls v t fits m.1.1.0,
      int64_fits p ls n fits m.1.1.1,
      refl,
    )
