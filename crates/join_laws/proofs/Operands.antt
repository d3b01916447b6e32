-- Operands, lists of arguments and destinations that meet their demands in the one bundle meet them in the other.
use Rattle.std.proofs.Common.{◌≡◌, ℕ, suc, Bool, true, false, not, List, [], ◌∷◌, length, nat_eq, if◌then◌else◌, Option, Some, None, is_some, refl, ap, subst, arith}
use Rattle.std.specs.Str.{bytes_eq}
use Rattle.std.proofs.lemmas.Bool.{false≢true}
use Rattle.ir_lex.specs.declared.name.Name.{Name}
use Rattle.ir_tree.specs.declared.operands.Operand.{Operand}
use Rattle.ir_tree.specs.declared.operands.Operand.TheVariants as operands
use Rattle.ir_tree.specs.declared.operands.Arguments.{Arguments}
use Rattle.ir_tree.specs.declared.operands.Destination.{Destination}
use Rattle.ir_tree.specs.declared.operands.NewStackClause.{NewStackClause}
use Rattle.ir_tree.specs.declared.operands.NewStackClause.TheVariants as clauses
use Rattle.check_tables.specs.declared.fault.CheckKind.{CheckKind}
use Rattle.check_tables.specs.declared.fault.CheckKind.TheVariants.{OperandType, ArgumentType}
use Rattle.check_tables.specs.declared.tables.Tables.{Tables}
use Rattle.checked_code.specs.declared.scopes.Variable.{Variable}
use Rattle.checked_code.specs.declared.scopes.Locals.{Locals}
use Rattle.checked_code.specs.declared.scopes.BlockEntry.{BlockEntry}
use Rattle.checked_code.specs.declared.scopes.Body.{Body}
use Rattle.mu_types.specs.Graph.{Table}
use Rattle.demands.specs.Demands.{AllMet, or_else}
use Rattle.name_scopes.specs.Names.{found}
use Rattle.check_tables.specs.Types.{ref_void}
use Rattle.check_tables.specs.Lookups.{class_named}
use Rattle.checked_code.specs.Operands.{is_there, operand_class, variable_class, is_class, operand_demands, of_type, member_demands, argument_demands, value_type_demands, noted_list, variable_demands}
use Rattle.checked_code.specs.Destinations.{block_named, entry_takes, takes_no_exception, exceptional_demands, normal_demands, entered_demands}
use Rattle.checked_code.specs.Instructions.{bound, bound_results}
use Rattle.join_laws.proofs.Names.{found_added}
use Rattle.join_laws.proofs.Classes.{Stands, Goes, AllGo, Pair, stands_same}
use Rattle.join_laws.proofs.References.{ref_void_goes}
use Rattle.join_laws.proofs.Lookups.{TablesGo, ListGoes, named_class, value_test, noted_value}

-- ---- variables

abbrev pub VariableGoes : Table → Table → Option Variable → Option Variable → Type 0
VariableGoes p q None None = Unit {0}
VariableGoes p q (Some v) (Some w) = Stands p.definitions q.definitions v.class w.class
VariableGoes p q None (Some w) = ⊥
VariableGoes p q (Some v) None = ⊥

pub record LocalsGo (p q : Table) (ls ms : Locals) : Type 0 where
  pub each : (name : List ℕ) → VariableGoes p q (found ls.names name) (found ms.names name)

pub nat_same : (n : ℕ) → nat_eq n n ≡ true
nat_same n = grind (arith)

pub nat_eq_is : (a b : ℕ) → nat_eq a b ≡ true → a ≡ b
nat_eq_is a b h = grind arith

-- one more variable
or_goes : (p q : Table) (o s : Option Variable) (b : Bool) (v w : Variable) → VariableGoes p q o s → Stands p.definitions q.definitions v.class w.class →
    VariableGoes p q (or_else o (if b then Some v else None)) (or_else s (if b then Some w else None))
or_goes p q None None true v w g h = h
or_goes p q None None false v w g h = tt
or_goes p q (Some x) (Some y) b v w g h = g
or_goes p q None (Some y) b v w g h = absurd g
or_goes p q (Some x) None b v w g h = absurd g

pub bound_goes : (p q : Table) (ls ms : Locals) (n : Name) (c d : ℕ) → LocalsGo p q ls ms → Stands p.definitions q.definitions c d → LocalsGo p q (bound ls n c) (bound ms n d)
bound_goes p q ls ms n c d g h = record {
  each = λ name.
      let v : Variable = record { number = length ls.classes; class = c } in
      let w : Variable = record { number = length ms.classes; class = d } in
      rw (found_added ls.names n.text name v, found_added ms.names n.text name w)
      (or_goes p q (found ls.names name) (found ms.names name) (bytes_eq name n.text) v w (g.each name) h);
}

pub results_go : (p q : Table) (ls ms : Locals) (ns : List Name) (cs ds : List ℕ) → LocalsGo p q ls ms → AllGo p q cs ds → LocalsGo p q (bound_results ls ns cs) (bound_results ms ns ds)
results_go p q ls ms [] cs ds g h = g
results_go p q ls ms (n ∷ ns) [] [] g h = g
results_go p q ls ms (n ∷ ns) (c ∷ cs) (d ∷ ds) g h = results_go p q (bound ls n c) (bound ms n d) ns cs ds (bound_goes p q ls ms n c d g h.0) h.1
results_go p q ls ms (n ∷ ns) [] (d ∷ ds) g h = absurd h
results_go p q ls ms (n ∷ ns) (c ∷ cs) [] g h = absurd h

-- ---- operands

variable_there : (p q : Table) (o s : Option Variable) → VariableGoes p q o s → is_some o ≡ true → is_some s ≡ true
variable_there p q None s g h = absurd (false≢true h)
variable_there p q (Some v) (Some w) g h = refl
variable_there p q (Some v) None g h = absurd g

pub there_goes : (p q : Table) (ls ms : Locals) → LocalsGo p q ls ms → (o : Operand) → is_there ls o ≡ true → is_there ms o ≡ true
there_goes p q ls ms g (operands.Local n) h = variable_there p q (found ls.names n.text) (found ms.names n.text) (g.each n.text) h
there_goes p q ls ms g (operands.Global n) h = refl

variable_goes : (p q : Table) (o s : Option Variable) → VariableGoes p q o s → Goes p q (variable_class o) (variable_class s)
variable_goes p q None None g = tt
variable_goes p q (Some v) (Some w) g = g
variable_goes p q None (Some w) g = tt
variable_goes p q (Some v) None g = absurd g

pub class_of_operand : (p q : Tables) (ls ms : Locals) → TablesGo p q → LocalsGo p.types q.types ls ms → (o : Operand) → Goes p.types q.types (operand_class p ls o) (operand_class q ms o)
class_of_operand p q ls ms go g (operands.Local n) = variable_goes p.types q.types (found ls.names n.text) (found ms.names n.text) (g.each n.text)
class_of_operand p q ls ms go g (operands.Global n) = go.operand n.text

pub same_class : (p q : Table) → Pair p q → (o s wanted other : Option ℕ) → Goes p q o s → Goes p q wanted other → is_class o wanted ≡ true → is_class s other ≡ true
same_class p q pair None s wanted other g h m = absurd (false≢true m)
same_class p q pair (Some c) s None other g h m = absurd (false≢true m)
same_class p q pair (Some c) None (Some d) other g h m = absurd g
same_class p q pair (Some c) (Some x) (Some d) None g h m = absurd h
same_class p q pair (Some c) (Some x) (Some d) (Some y) g h m =
    let one : c ≡ d = nat_eq_is c d m in
    let same : x ≡ y = stands_same p q pair d x y (subst (λ (k : ℕ). Stands p.definitions q.definitions k x) one g) h in
    subst (λ (k : ℕ). nat_eq x k ≡ true) same (nat_same x)

pub operand_goes : (p q : Tables) (ls ms : Locals) (kind : CheckKind) (o : Operand) (wanted other : Option ℕ) → TablesGo p q → LocalsGo p.types q.types ls ms → Goes p.types q.types wanted other →
    AllMet (operand_demands p ls kind o wanted) → AllMet (operand_demands q ms kind o other)
operand_goes p q ls ms kind o wanted other go g h m = (
  there_goes p.types q.types ls ms g o m.0,
  same_class p.types q.types go.pair (operand_class p ls o) (operand_class q ms o) wanted other (class_of_operand p q ls ms go g o) h m.1,
)

pub of_type_goes : (p q : Tables) (ls ms : Locals) (o : Operand) (n : Name) → TablesGo p q → LocalsGo p.types q.types ls ms → AllMet (of_type p ls o n) → AllMet (of_type q ms o n)
of_type_goes p q ls ms o n go g m = operand_goes p q ls ms OperandType o (class_named p n) (class_named q n) go g (named_class p q go n) m

-- ---- lists of arguments

pub as_many : (p q : Table) (cs ds : List ℕ) → AllGo p q cs ds → length cs ≡ length ds
as_many p q [] [] g = refl
as_many p q (c ∷ cs) (d ∷ ds) g = ap (λ (n : ℕ). suc n) (as_many p q cs ds g.1)
as_many p q [] (d ∷ ds) g = absurd g
as_many p q (c ∷ cs) [] g = absurd g

members_go : (p q : Tables) (ls ms : Locals) (os : List Operand) (cs ds : List ℕ) → TablesGo p q → LocalsGo p.types q.types ls ms → AllGo p.types q.types cs ds →
    AllMet (member_demands p ls os cs) → AllMet (member_demands q ms os ds)
members_go p q ls ms [] cs ds go g h m = tt
members_go p q ls ms (o ∷ os) [] [] go g h m = tt
members_go p q ls ms (o ∷ os) (c ∷ cs) (d ∷ ds) go g h m = (operand_goes p q ls ms ArgumentType o (Some c) (Some d) go g h.0 m.0, members_go p q ls ms os cs ds go g h.1 m.1)
members_go p q ls ms (o ∷ os) [] (d ∷ ds) go g h m = absurd h
members_go p q ls ms (o ∷ os) (c ∷ cs) [] go g h m = absurd h

pub arguments_go : (p q : Tables) (ls ms : Locals) (a : Arguments) (wanted other : Option (List ℕ)) → TablesGo p q → LocalsGo p.types q.types ls ms → ListGoes p.types q.types wanted other →
    AllMet (argument_demands p ls a wanted) → AllMet (argument_demands q ms a other)
unfolding argument_demands
arguments_go p q ls ms a None other go g h m = absurd (false≢true m.0)
arguments_go p q ls ms a (Some cs) None go g h m = absurd h
arguments_go p q ls ms a (Some cs) (Some ds) go g h m = (
  subst (λ (n : ℕ). nat_eq (length a.values) n ≡ true) (as_many p.types q.types cs ds h) m.0,
  members_go p q ls ms a.values cs ds go g h m.1,
)

-- ---- types

pub value_types_go : (p q : Tables) → TablesGo p q → (ns : List Name) → AllMet (value_type_demands p ns) → AllMet (value_type_demands q ns)
value_types_go p q go [] m = tt
value_types_go p q go (n ∷ ns) m = (value_test p q go n m.0, value_types_go p q go ns m.1)

pub noted_list_goes : (p q : Tables) → TablesGo p q → (ns : List Name) → AllMet (value_type_demands p ns) → AllGo p.types q.types (noted_list p ns) (noted_list q ns)
noted_list_goes p q go [] m = tt
noted_list_goes p q go (n ∷ ns) m = (noted_value p q go n m.0, noted_list_goes p q go ns m.1)

-- ---- kept variables

pub variables_go : (p q : Table) (ls ms : Locals) → LocalsGo p q ls ms → (ns : List Name) → AllMet (variable_demands ls ns) → AllMet (variable_demands ms ns)
variables_go p q ls ms g [] m = tt
variables_go p q ls ms g (n ∷ ns) m = (variable_there p q (found ls.names n.text) (found ms.names n.text) (g.each n.text) m.0, variables_go p q ls ms g ns m.1)

-- ---- destinations

pub record EntriesStand (p q : Table) (b c : BlockEntry) : Type 0 where
  pub takes : AllGo p q b.takes c.takes
  pub handler : b.has_handler ≡ c.has_handler

abbrev pub EntryGoes : Table → Table → Option BlockEntry → Option BlockEntry → Type 0
EntryGoes p q None None = Unit {0}
EntryGoes p q (Some b) (Some c) = EntriesStand p q b c
EntryGoes p q None (Some c) = ⊥
EntryGoes p q (Some b) None = ⊥

pub record BodyGoes (p q : Table) (f k : Body) : Type 0 where
  pub each : (name : List ℕ) → EntryGoes p q (found f.blocks name) (found k.blocks name)
  pub gives : AllGo p q f.gives k.gives

entry_takes_go : (p q : Table) (b c : Option BlockEntry) → EntryGoes p q b c → ListGoes p q (entry_takes b) (entry_takes c)
entry_takes_go p q None c g = tt
entry_takes_go p q (Some b) (Some c) g = g.takes
entry_takes_go p q (Some b) None g = absurd g

no_exception_goes : (p q : Table) (b c : Option BlockEntry) → EntryGoes p q b c → takes_no_exception b ≡ true → takes_no_exception c ≡ true
no_exception_goes p q None c g h = absurd (false≢true h)
no_exception_goes p q (Some b) (Some c) g h = subst (λ (x : Bool). not x ≡ true) g.handler h
no_exception_goes p q (Some b) None g h = absurd g

pub exceptional_goes : (p q : Tables) (f k : Body) (ls ms : Locals) (d : Destination) → TablesGo p q → BodyGoes p.types q.types f k → LocalsGo p.types q.types ls ms →
    AllMet (exceptional_demands p f ls d) → AllMet (exceptional_demands q k ms d)
exceptional_goes p q f k ls ms d go body g m =
    arguments_go p q ls ms d.arguments (entry_takes (block_named f d.block)) (entry_takes (block_named k d.block)) go g (entry_takes_go p.types q.types (block_named f d.block) (block_named k d.block) (body.each d.block.text)) m

pub normal_goes : (p q : Tables) (f k : Body) (ls ms : Locals) (d : Destination) → TablesGo p q → BodyGoes p.types q.types f k → LocalsGo p.types q.types ls ms →
    AllMet (normal_demands p f ls d) → AllMet (normal_demands q k ms d)
normal_goes p q f k ls ms d go body g m = (
  no_exception_goes p.types q.types (block_named f d.block) (block_named k d.block) (body.each d.block.text) m.0,
  exceptional_goes p q f k ls ms d go body g m.1,
)

-- ---- what a stack is entered with

pub entered_goes : (p q : Tables) (ls ms : Locals) (n : NewStackClause) → TablesGo p q → LocalsGo p.types q.types ls ms → AllMet (entered_demands p ls n) → AllMet (entered_demands q ms n)
entered_goes p q ls ms (clauses.PassValues ts a) go g m =
    (value_types_go p q go ts m.0, arguments_go p q ls ms a (Some (noted_list p ts)) (Some (noted_list q ts)) go g (noted_list_goes p q go ts m.0) m.1)
entered_goes p q ls ms (clauses.ThrowExc e) go g m = operand_goes p q ls ms OperandType e (Some (ref_void p.types)) (Some (ref_void q.types)) go g (ref_void_goes p.types q.types go.pair) m
