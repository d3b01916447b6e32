-- Instructions that say where the function goes on, or that enter or leave one: for each form its demands from left to
-- right, what it gives, and its code. What EXC and KEEPALIVE ask stands with the instruction.
use Rattle.std.specs.Prelude.{ℕ, Bool, false, List, [], ◌∷◌, Option, Some, None, map}
use Rattle.std.specs.Str.{bytes_eq}
use Rattle.demands.specs.Demands.{Demands, none, demand, ◌⨾◌}
use Rattle.name_scopes.specs.Names.{found}
use Rattle.ir_lex.specs.declared.name.Name.{Name}
use Rattle.ir_tree.specs.declared.flow.Case.{Case}
use Rattle.ir_tree.specs.declared.flow.ControlFlow.{ControlFlow}
use Rattle.ir_tree.specs.declared.flow.ControlFlow.TheVariants as flows
use Rattle.bundle_names.specs.declared.globals.Sort.{Sort}
use Rattle.bundle_names.specs.declared.globals.Sort.TheVariants as sorts
use Rattle.check_tables.specs.declared.fault.CheckKind.{CheckKind}
use Rattle.check_tables.specs.declared.fault.CheckKind.TheVariants.{OperandType, BadSignature}
use Rattle.check_tables.specs.declared.tables.Tables.{Tables}
use Rattle.check_tables.specs.Types.{int1, ref_void}
use Rattle.check_tables.specs.Lookups.{class_named, noted_class, definition_named, class_of_global, signature_named, funcref_of, takes_of, gives_of, noted_classes, noted_signature}
use Rattle.check_tables.specs.TypeTests.{is_int}
use Rattle.checked_code.specs.declared.code.CaseForm.{CaseForm}
use Rattle.checked_code.specs.declared.code.ControlForm.{ControlForm}
use Rattle.checked_code.specs.declared.code.ControlForm.TheVariants as forms
use Rattle.checked_code.specs.declared.scopes.Locals.{Locals}
use Rattle.checked_code.specs.declared.scopes.Body.{Body}
use Rattle.checked_code.specs.Operands.{operand_demands, of_type, is_class, type_demand, argument_demands, source_of, sources_of}
use Rattle.checked_code.specs.Destinations.{normal_demands, target_of}

-- ---- cases of a SWITCH

-- G dest: G a constant of T
abbrev pub case_demands : Tables → Body → Locals → Name → List Case → Demands CheckKind
case_demands p f ls t [] = none
case_demands p f ls t (c ∷ cs) =
    (demand c.constant.place OperandType (is_class (class_of_global p c.constant) (class_named p t)) ⨾ normal_demands p f ls c.destination)
    ⨾ case_demands p f ls t cs

abbrev pub constant_number : Option Sort → ℕ
constant_number (Some (sorts.Constant n)) = n
constant_number _ = 0

abbrev pub case_code : Tables → Body → Locals → Case → CaseForm
case_code p f ls c = record { constant = constant_number (found p.globals.names c.constant.text); target = target_of p f ls c.destination }

abbrev pub cases_code : Tables → Body → Locals → List Case → List CaseForm
cases_code p f ls cs = map (case_code p f ls) cs

-- ---- signatures

-- the results of a signature are these
abbrev pub gives_these : Option (List ℕ) → List ℕ → Bool
gives_these None us = false
gives_these (Some ts) us = bytes_eq ts us

-- ---- the forms

abbrev pub control_demands : Tables → Body → Locals → ControlFlow → Demands CheckKind
-- BRANCH dest
control_demands p f ls (flows.Branch d) = normal_demands p f ls d
-- BRANCH2 c dest dest: c: int<1>
control_demands p f ls (flows.Branch2 c d e) = operand_demands p ls OperandType c (Some (int1 p.types)) ⨾ normal_demands p f ls d ⨾ normal_demands p f ls e
-- SWITCH < T > a dest { case* }: T int; a: T; each G a constant of T
control_demands p f ls (flows.Switch t a d cs) =
    type_demand t (is_int (definition_named p t)) ⨾ of_type p ls a t ⨾ normal_demands p f ls d ⨾ case_demands p f ls t cs
-- CALL < S > f ( value* ) exc? keep?: f: funcref<S>; arguments of S
control_demands p f ls (flows.Call s c a e k) =
    operand_demands p ls OperandType c (funcref_of (signature_named p s)) ⨾ argument_demands p ls a (takes_of (signature_named p s))
-- TAILCALL < S > f ( value* ): S's results are the function's; the rest as in CALL
control_demands p f ls (flows.Tailcall s c a) =
    demand s.place BadSignature (gives_these (gives_of (signature_named p s)) f.gives)
    ⨾ operand_demands p ls OperandType c (funcref_of (signature_named p s))
    ⨾ argument_demands p ls a (takes_of (signature_named p s))
-- RET value, RET ( value* ): the signature's results
control_demands p f ls (flows.Ret a) = argument_demands p ls a (Some f.gives)
-- THROW e: e: ref<void>
control_demands p f ls (flows.Throw e) = operand_demands p ls OperandType e (Some (ref_void p.types))

-- the classes of the results
abbrev pub control_gives : Tables → ControlFlow → List ℕ
control_gives p (flows.Call s c a e k) = noted_classes (gives_of (signature_named p s))
control_gives p _ = []

abbrev pub control_code : Tables → Body → Locals → ControlFlow → ControlForm
control_code p f ls (flows.Branch d) = forms.Branch (target_of p f ls d)
control_code p f ls (flows.Branch2 c d e) = forms.Branch2 (source_of p ls c) (target_of p f ls d) (target_of p f ls e)
control_code p f ls (flows.Switch t a d cs) = forms.Switch (noted_class p t) (source_of p ls a) (target_of p f ls d) (cases_code p f ls cs)
control_code p f ls (flows.Call s c a e k) = forms.Call (noted_signature (signature_named p s)) (source_of p ls c) (sources_of p ls a.values)
control_code p f ls (flows.Tailcall s c a) = forms.Tailcall (noted_signature (signature_named p s)) (source_of p ls c) (sources_of p ls a.values)
control_code p f ls (flows.Ret a) = forms.Ret (sources_of p ls a.values)
control_code p f ls (flows.Throw e) = forms.Throw (source_of p ls e)
