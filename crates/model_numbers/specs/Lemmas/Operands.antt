-- Operands, lists of arguments and destinations that meet their demands have the same values by name and by number.
use Rattle.std.proofs.Common.{◌≡◌, ℕ, true, List, [], ◌∷◌, Option, Some, None, map, length, slice_get, is_some, option_map, refl, sym, ◌∙◌, ap, ap₂, arith}
use Rattle.std.specs.Option.{option_map_or}
use Rattle.demands.specs.Demands.{AllMet, none}
use Rattle.name_scopes.specs.Names.{found}
use Rattle.ir_lex.specs.declared.name.Name.{Name}
use Rattle.ir_tree.specs.declared.operands.Operand.{Operand}
use Rattle.ir_tree.specs.declared.operands.Operand.TheVariants.{Local, Global}
use Rattle.ir_tree.specs.declared.operands.Arguments.{Arguments}
use Rattle.ir_tree.specs.declared.operands.Destination.{Destination}
use Rattle.ir_tree.specs.declared.operands.NewStackClause.{NewStackClause}
use Rattle.ir_tree.specs.declared.operands.NewStackClause.TheVariants as clauses
use Rattle.ir_tree.specs.declared.items.Item.{Item}
use Rattle.bundle_names.specs.declared.globals.Sort.{Sort}
use Rattle.bundle_names.specs.declared.globals.Sort.TheVariants as sorts
use Rattle.check_tables.specs.declared.tables.Tables.{Tables}
use Rattle.check_tables.specs.declared.fault.CheckKind.TheVariants.{OperandType}
use Rattle.check_tables.specs.Types.{definition_in, ref_void}
use Rattle.check_tables.specs.Lookups.{global_class, class_named}
use Rattle.checked_code.specs.declared.scopes.Variable.{Variable}
use Rattle.checked_code.specs.declared.scopes.BlockEntry.{BlockEntry}
use Rattle.checked_code.specs.declared.scopes.Locals.{Locals}
use Rattle.checked_code.specs.declared.code.Source.{Source}
use Rattle.checked_code.specs.declared.code.Source.TheVariants as sources
use Rattle.checked_code.specs.declared.scopes.Body.{Body}
use Rattle.checked_code.specs.Operands.{is_there, variable_class, operand_class, operand_demands, int64_demands, of_type, is_class, member_demands, argument_demands, variable_demands, noted_list, variable_number, global_source, source_of, sources_of, numbers_in}
use Rattle.checked_code.specs.Destinations.{entry_takes, block_number, exceptional_demands, normal_demands, target_of, optional_target, keepalive_numbers, entered_demands, entered_code}
use Rattle.checked_code.specs.Destinations.{block_named as entry_named}
use Rattle.checked_code.specs.Stacks.{threadlocal_demands, optional_source}
use Rattle.ir_tree.specs.declared.flow.Case.{Case}
use Rattle.check_tables.specs.Lookups.{class_of_global, noted_class}
use Rattle.check_tables.specs.TypeTests.{is_int, is_int64}
use Rattle.checked_code.specs.Control.{case_demands, constant_number, case_code, cases_code}
use Rattle.bundle_laws.specs.Typed.{SourceFits, SourcesFit, LocalsFit, HasType, TablesFit}
use Rattle.bundle_laws.specs.Lemmas.TypedTables.{cell_is_no_int, function_is_no_int}
use Rattle.bundle_laws.specs.Lemmas.TypedOperands.{nat_eq_is, noted, same_class, arguments_fit}
use Rattle.checked_code.specs.Entries.{tables_of}
use Rattle.checked_code.specs.Functions.{body_of}
use Rattle.typed_heap.specs.Places.{with_some}
use Rattle.frames.specs.Activations.{Value}
use Rattle.mu_model.specs.Operands.{Scope, tables_in, variables, local_value, target_block, global_value, value_named, values_named, goal_to, goal_named, all_some}
use Rattle.mu_model.specs.ControlForms.{arm_named}
use Rattle.mu_model.specs.StackForms.{pass_values, throw_exc, entering_named}
use Rattle.mu_model.specs.Programs.{some_goal, optional_goal, kept_class, typed_values, kept_named}
use Rattle.model_numbers.specs.Sources.{value_at, values_at, class_at, classes_at, goal_at, entering_at}
use Rattle.model_numbers.specs.Forms.{arm_at}
use Rattle.model_numbers.specs.Numbered.{optional_goal_at, kept_at}

-- what the instructions of a block's function may use
abbrev pub body : Scope → Body
body s = body_of (tables_in s) s.first s.function

-- the classes of the block's variables
abbrev pub variable_classes : Scope → List ℕ
variable_classes s = (variables s).classes

-- what the checker knows of the variables so far is so of the block's variables: what each name stands for, and the class that stands
-- at each number
pub record ScopeFits (s : Scope) (ls : Locals) : Type 0 where
  pub each : (name : List ℕ) (v : Variable) → found ls.names name ≡ Some v → found (variables s).names name ≡ Some v
  pub fits : LocalsFit ls
  pub more : (n c : ℕ) → slice_get ls.classes n ≡ Some c → slice_get (variable_classes s) n ≡ Some c

-- ---- operands

-- the value of a variable
variable_same : (s : Scope) (ls : Locals) (vars : List Value) (n : Name) (o : Option Variable) → ScopeFits s ls → found ls.names n.text ≡ o → is_some o ≡ true →
    local_value s vars n ≡ slice_get vars (variable_number o)
variable_same s ls vars n None fits e h = cc
variable_same s ls vars n (Some v) fits e h = ap (λ (o : Option Variable). with_some o (λ (v : Variable). slice_get vars v.number)) (fits.each n.text v e)

-- its class
kept_class_same : (s : Scope) (ls : Locals) (n : Name) (o : Option Variable) → ScopeFits s ls → found ls.names n.text ≡ o → is_some o ≡ true →
    kept_class s n ≡ slice_get (variable_classes s) (variable_number o)
kept_class_same s ls n None fits e h = cc
kept_class_same s ls n (Some v) fits e h = ap variable_class (fits.each n.text v e) ∙ sym (fits.more v.number v.class (fits.fits.each n.text v e))

global_same : (p : Tables) (bundle : List Item) (vars : List Value) (o : Option Sort) → is_some (global_class p o) ≡ true → global_value bundle o ≡ value_at bundle vars (global_source o)
global_same p bundle vars None h = cc
global_same p bundle vars (Some (sorts.Written n)) h = cc
global_same p bundle vars (Some (sorts.Signature n)) h = cc
global_same p bundle vars (Some (sorts.Constant n)) h = refl
global_same p bundle vars (Some (sorts.GlobalCell n)) h = refl
global_same p bundle vars (Some (sorts.Function n)) h = refl

-- an operand that is there and has a class
operand_same : (s : Scope) (ls : Locals) (vars : List Value) → ScopeFits s ls → (o : Operand) → is_there ls o ≡ true → is_some (operand_class (tables_in s) ls o) ≡ true →
    value_named s vars o ≡ value_at s.bundle vars (source_of (tables_in s) ls o)
unfolding tables_of
operand_same s ls vars fits (Local n) there class = variable_same s ls vars n (found ls.names n.text) fits refl there
operand_same s ls vars fits (Global n) there class = global_same (tables_in s) s.bundle vars (found (tables_in s).globals.names n.text) class

is_wanted : (o wanted : Option ℕ) → is_class o wanted ≡ true → is_some o ≡ true
is_wanted None wanted h = cc
is_wanted (Some c) wanted h = refl

-- an operand, whatever is wanted of it
pub value_same : (s : Scope) (ls : Locals) (vars : List Value) → ScopeFits s ls → (o : Operand) (wanted : Option ℕ) → AllMet (operand_demands (tables_in s) ls OperandType o wanted) →
    value_named s vars o ≡ value_at s.bundle vars (source_of (tables_in s) ls o)
value_same s ls vars fits o wanted m = operand_same s ls vars fits o m.0 (is_wanted (operand_class (tables_in s) ls o) wanted m.1)

is_int64_there : (p : Tables) (o : Option ℕ) → is_int64 (definition_in p.types o) ≡ true → is_some o ≡ true
is_int64_there p None h = cc
is_int64_there p (Some c) h = refl

pub int64_same : (s : Scope) (ls : Locals) (vars : List Value) → ScopeFits s ls → (o : Operand) → AllMet (int64_demands (tables_in s) ls o) →
    value_named s vars o ≡ value_at s.bundle vars (source_of (tables_in s) ls o)
int64_same s ls vars fits o m = operand_same s ls vars fits o m.0 (is_int64_there (tables_in s) (operand_class (tables_in s) ls o) m.1)

pub typed_same : (s : Scope) (ls : Locals) (vars : List Value) → ScopeFits s ls → (o : Operand) (t : Name) → AllMet (of_type (tables_in s) ls o t) →
    value_named s vars o ≡ value_at s.bundle vars (source_of (tables_in s) ls o)
typed_same s ls vars fits o t m = value_same s ls vars fits o (class_named (tables_in s) t) m

pub option_same : (s : Scope) (ls : Locals) (vars : List Value) → ScopeFits s ls → (o : Option Operand) → AllMet (threadlocal_demands (tables_in s) ls o) →
    option_map (value_named s vars) o ≡ option_map (value_at s.bundle vars) (optional_source (tables_in s) ls o)
option_same s ls vars fits None m = refl
option_same s ls vars fits (Some o) m = ap (λ v. Some v) (value_same s ls vars fits o (Some (ref_void (tables_in s).types)) m)

-- ---- lists of arguments

members_same : (s : Scope) (ls : Locals) (vars : List Value) → ScopeFits s ls → (os : List Operand) (cs : List ℕ) → length os ≡ length cs →
    AllMet (member_demands (tables_in s) ls os cs) → map (value_named s vars) os ≡ map (value_at s.bundle vars) (sources_of (tables_in s) ls os)
members_same s ls vars fits [] cs e m = refl
members_same s ls vars fits (o ∷ os) [] e m = absurd (omega (arith, e))
members_same s ls vars fits (o ∷ os) (c ∷ cs) e m =
    ap₂ (λ x xs. x ∷ xs) (value_same s ls vars fits o (Some c) m.0) (members_same s ls vars fits os cs (omega (arith, e)) m.1)

pub values_same : (s : Scope) (ls : Locals) (vars : List Value) → ScopeFits s ls → (a : Arguments) (wanted : Option (List ℕ)) → AllMet (argument_demands (tables_in s) ls a wanted) →
    values_named s vars a.values ≡ values_at s.bundle vars (sources_of (tables_in s) ls a.values)
unfolding argument_demands
values_same s ls vars fits a None m = let h = m.0 in cc
values_same s ls vars fits a (Some cs) m = ap all_some (members_same s ls vars fits a.values cs (nat_eq_is (length a.values) (length cs) m.0) m.1)

-- and their classes are those that are wanted
class_same : (s : Scope) (ls : Locals) (o : Source) (c : ℕ) → ScopeFits s ls → SourceFits (tables_in s) ls.classes o c → class_at (tables_in s) (variable_classes s) o ≡ Some c
class_same s ls (sources.Variable n) c fits h = fits.more n c h
class_same s ls (sources.Constant n) c fits h = h
class_same s ls (sources.GlobalCell n) c fits h = h
class_same s ls (sources.Function n) c fits h = h

sources_same : (s : Scope) (ls : Locals) (os : List Source) (cs : List ℕ) → ScopeFits s ls → SourcesFit (tables_in s) ls.classes os cs →
    classes_at (tables_in s) (variable_classes s) os ≡ Some cs
sources_same s ls [] [] fits h = refl
sources_same s ls [] (c ∷ cs) fits h = absurd h
sources_same s ls (o ∷ os) [] fits h = absurd h
sources_same s ls (o ∷ os) (c ∷ cs) fits h = rw (class_same s ls o c fits h.0, sources_same s ls os cs fits h.1) refl

pub classes_same : (s : Scope) (ls : Locals) → ScopeFits s ls → (a : Arguments) (cs : List ℕ) → AllMet (argument_demands (tables_in s) ls a (Some cs)) →
    classes_at (tables_in s) (variable_classes s) (sources_of (tables_in s) ls a.values) ≡ Some cs
classes_same s ls fits a cs m = sources_same s ls (sources_of (tables_in s) ls a.values) cs fits (arguments_fit (tables_in s) ls a (Some cs) fits.fits m)

-- what is wanted is there
wanted_is_there : (p : Tables) (ls : Locals) (a : Arguments) (wanted : Option (List ℕ)) → AllMet (argument_demands p ls a wanted) → is_some wanted ≡ true
unfolding argument_demands
wanted_is_there p ls a None m = m.0
wanted_is_there p ls a (Some cs) m = refl

-- ---- destinations

number_is : (o : Option BlockEntry) (n : Option ℕ) → option_map (λ (b : BlockEntry). b.number) o ≡ n → is_some (entry_takes o) ≡ true → n ≡ Some (block_number o)
number_is None n e h = cc
number_is (Some b) n e h = sym e

block_same : (s : Scope) (n : Name) → is_some (entry_takes (entry_named (body s) n)) ≡ true → target_block s n ≡ Some (block_number (entry_named (body s) n))
unfolding body_of
block_same s n h = number_is (entry_named (body s) n) (target_block s n) refl h

-- where an exception goes
pub goal_same : (s : Scope) (ls : Locals) (vars : List Value) → ScopeFits s ls → (d : Destination) → AllMet (exceptional_demands (tables_in s) (body s) ls d) →
    goal_named s vars d ≡ goal_at s.bundle vars (target_of (tables_in s) (body s) ls d)
goal_same s ls vars fits d m =
    ap₂ goal_to (block_same s d.block (wanted_is_there (tables_in s) ls d.arguments (entry_takes (entry_named (body s) d.block)) m))
    (values_same s ls vars fits d.arguments (entry_takes (entry_named (body s) d.block)) m)

-- every other destination
pub normal_same : (s : Scope) (ls : Locals) (vars : List Value) → ScopeFits s ls → (d : Destination) → AllMet (normal_demands (tables_in s) (body s) ls d) →
    goal_named s vars d ≡ goal_at s.bundle vars (target_of (tables_in s) (body s) ls d)
normal_same s ls vars fits d m = goal_same s ls vars fits d m.1

pub optional_goal_same : (s : Scope) (ls : Locals) (vars : List Value) → ScopeFits s ls → (d : Option Destination) → AllMet (option_map_or (exceptional_demands (tables_in s) (body s) ls) d none) →
    optional_goal s vars d ≡ optional_goal_at s.bundle vars (optional_target (tables_in s) (body s) ls d)
optional_goal_same s ls vars fits None m = refl
optional_goal_same s ls vars fits (Some d) m = ap some_goal (goal_same s ls vars fits d m)

pub optional_normal_same : (s : Scope) (ls : Locals) (vars : List Value) → ScopeFits s ls → (d : Option Destination) → AllMet (option_map_or (normal_demands (tables_in s) (body s) ls) d none) →
    optional_goal s vars d ≡ optional_goal_at s.bundle vars (optional_target (tables_in s) (body s) ls d)
optional_normal_same s ls vars fits None m = refl
optional_normal_same s ls vars fits (Some d) m = ap some_goal (normal_same s ls vars fits d m)

-- ---- what is kept, and what a stack is entered with

kept_values_same : (s : Scope) (ls : Locals) (vars : List Value) → ScopeFits s ls → (ns : List Name) → AllMet (variable_demands ls ns) →
    map (local_value s vars) ns ≡ map (slice_get vars) (numbers_in ls ns)
kept_values_same s ls vars fits [] m = refl
kept_values_same s ls vars fits (n ∷ ns) m =
    ap₂ (λ x xs. x ∷ xs) (variable_same s ls vars n (found ls.names n.text) fits refl m.0) (kept_values_same s ls vars fits ns m.1)

kept_classes_same : (s : Scope) (ls : Locals) → ScopeFits s ls → (ns : List Name) → AllMet (variable_demands ls ns) →
    map (kept_class s) ns ≡ map (slice_get (variable_classes s)) (numbers_in ls ns)
kept_classes_same s ls fits [] m = refl
kept_classes_same s ls fits (n ∷ ns) m =
    ap₂ (λ x xs. x ∷ xs) (kept_class_same s ls n (found ls.names n.text) fits refl m.0) (kept_classes_same s ls fits ns m.1)

pub kept_same : (s : Scope) (ls : Locals) (vars : List Value) → ScopeFits s ls → (ns : Option (List Name)) → AllMet (option_map_or (variable_demands ls) ns none) →
    kept_named s vars ns ≡ kept_at (variable_classes s) vars (keepalive_numbers ls ns)
kept_same s ls vars fits None m = refl
kept_same s ls vars fits (Some ns) m =
    ap₂ (λ cs vs. typed_values (all_some cs) (all_some vs)) (kept_classes_same s ls fits ns m) (kept_values_same s ls vars fits ns m)

pub entering_same : (s : Scope) (ls : Locals) (vars : List Value) → ScopeFits s ls → (n : NewStackClause) → AllMet (entered_demands (tables_in s) ls n) →
    entering_named s vars n ≡ entering_at s.bundle vars (entered_code (tables_in s) ls n)
entering_same s ls vars fits (clauses.PassValues ts a) m =
    ap (pass_values (noted_list (tables_in s) ts)) (values_same s ls vars fits a (Some (noted_list (tables_in s) ts)) m.1)
entering_same s ls vars fits (clauses.ThrowExc e) m = ap throw_exc (value_same s ls vars fits e (Some (ref_void (tables_in s).types)) m)

-- ---- cases of a SWITCH: what has the class of an int type is a constant

constant_same : (p : Tables) (bundle : List Item) (o : Option Sort) (c : ℕ) → TablesFit p → HasType p is_int c → global_class p o ≡ Some c →
    global_value bundle o ≡ global_value bundle (Some (sorts.Constant (constant_number o)))
constant_same p bundle None c fit int h = cc
constant_same p bundle (Some (sorts.Written n)) c fit int h = cc
constant_same p bundle (Some (sorts.Signature n)) c fit int h = cc
constant_same p bundle (Some (sorts.Constant n)) c fit int h = refl
constant_same p bundle (Some (sorts.GlobalCell n)) c fit int h = absurd (cell_is_no_int p n c fit h int)
constant_same p bundle (Some (sorts.Function n)) c fit int h = absurd (function_is_no_int p (slice_get p.functions n) c fit h int)

case_same : (s : Scope) (ls : Locals) (vars : List Value) → TablesFit (tables_in s) → ScopeFits s ls → (t : Name) (c : Case) → HasType (tables_in s) is_int (noted_class (tables_in s) t) →
    is_class (class_of_global (tables_in s) c.constant) (class_named (tables_in s) t) ≡ true → AllMet (normal_demands (tables_in s) (body s) ls c.destination) →
    arm_named s vars c ≡ arm_at s.bundle vars (case_code (tables_in s) (body s) ls c)
unfolding tables_of
case_same s ls vars tables_fit fits t c int m n =
    ap₂ (λ x g. record { constant = x; goal = g })
    (constant_same (tables_in s) s.bundle (found (tables_in s).globals.names c.constant.text) (noted_class (tables_in s) t) tables_fit int
    (noted (λ k. class_of_global (tables_in s) c.constant ≡ Some k) (class_named (tables_in s) t) (same_class (class_of_global (tables_in s) c.constant) (class_named (tables_in s) t) m)))
    (normal_same s ls vars fits c.destination n)

pub cases_same : (s : Scope) (ls : Locals) (vars : List Value) → TablesFit (tables_in s) → ScopeFits s ls → (t : Name) (cs : List Case) → HasType (tables_in s) is_int (noted_class (tables_in s) t) →
    AllMet (case_demands (tables_in s) (body s) ls t cs) → map (arm_named s vars) cs ≡ map (arm_at s.bundle vars) (cases_code (tables_in s) (body s) ls cs)
cases_same s ls vars tables_fit fits t [] int m = refl
cases_same s ls vars tables_fit fits t (c ∷ cs) int m =
    ap₂ (λ x xs. x ∷ xs) (case_same s ls vars tables_fit fits t c int m.0.0 m.0.1) (cases_same s ls vars tables_fit fits t cs int m.1)
