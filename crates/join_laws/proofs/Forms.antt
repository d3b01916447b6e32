-- Instructions that meet their demands in the one bundle meet them in the other, and give what stands for what they give there.
use Rattle.std.proofs.Common.{◌≡◌, ℕ, zero, suc, ◌<◌, Bool, true, false, List, [], ◌∷◌, ◌++◌, length, nat_eq, nat_lt, if◌then◌else◌, Option, Some, None, slice_get, is_some, refl, sym, ◌∙◌, subst, arith}
use Rattle.std.specs.Option.{option_map_or}
use Rattle.std.specs.Str.{bytes_eq}
use Rattle.std.proofs.lemmas.Bool.{false≢true, and_parts, and_from}
use Rattle.type_definitions.specs.declared.definition.TypeDef.{TypeDef}
use Rattle.type_definitions.specs.declared.definition.TypeDef.TheVariants.{Int, Struct, Array, Hybrid, Ref, Iref, FuncRef}
use Rattle.kin_laws.specs.Kin.{akin}
use Rattle.type_definitions.specs.Same.{same}
use Rattle.type_definitions.specs.Class.{class_of}
use Rattle.type_definitions.specs.Lemmas.Proved.{decided}
use Rattle.kin_laws.specs.Lemmas.Kin.{kin_both}
use Rattle.type_definitions.specs.Parts.{parts_at}
use Rattle.ir_lex.specs.declared.name.Name.{Name}
use Rattle.ir_lex.specs.declared.name.Numeral.{Numeral}
use Rattle.ir_lex.specs.declared.token.Number.{Number}
use Rattle.mu_base.specs.declared.operators.ConvertOp.{ConvertOp}
use Rattle.ir_tree.specs.declared.operands.Operand.{Operand}
use Rattle.ir_tree.specs.declared.flow.Case.{Case}
use Rattle.ir_tree.specs.declared.operands.Destination.{Destination}
use Rattle.ir_tree.specs.declared.computing.Computation.{Computation}
use Rattle.ir_tree.specs.declared.computing.Computation.TheVariants as computations
use Rattle.ir_tree.specs.declared.flow.ControlFlow.{ControlFlow}
use Rattle.ir_tree.specs.declared.flow.ControlFlow.TheVariants as flows
use Rattle.ir_tree.specs.declared.allocating.Allocation.{Allocation}
use Rattle.ir_tree.specs.declared.allocating.Allocation.TheVariants as allocations
use Rattle.ir_tree.specs.declared.addressing.Addressing.{Addressing}
use Rattle.ir_tree.specs.declared.addressing.Addressing.TheVariants as addressings
use Rattle.ir_tree.specs.declared.accessing.Access.{Access}
use Rattle.ir_tree.specs.declared.accessing.Access.TheVariants as accesses
use Rattle.ir_tree.specs.declared.trapping.Trapping.{Trapping}
use Rattle.ir_tree.specs.declared.trapping.Trapping.TheVariants as trappings
use Rattle.ir_tree.specs.declared.switching.StackSwitch.{StackSwitch}
use Rattle.ir_tree.specs.declared.switching.StackSwitch.TheVariants as switches
use Rattle.ir_tree.specs.declared.common.CommonInst.{CommonInst}
use Rattle.ir_tree.specs.declared.common.CommonInst.TheVariants as commons
use Rattle.ir_tree.specs.declared.code.Op.{Op}
use Rattle.ir_tree.specs.declared.code.Op.TheVariants as ops
use Rattle.ir_tree.specs.declared.code.Inst.{Inst}
use Rattle.check_tables.specs.declared.fault.CheckKind.TheVariants.{OperandType}
use Rattle.check_tables.specs.declared.tables.Signature.{Signature}
use Rattle.check_tables.specs.declared.tables.Tables.{Tables}
use Rattle.checked_code.specs.declared.scopes.Locals.{Locals}
use Rattle.checked_code.specs.declared.scopes.Body.{Body}
use Rattle.mu_types.specs.Graph.{Table}
use Rattle.demands.specs.Demands.{AllMet, none}
use Rattle.check_tables.specs.Types.{class_like, definition_at, definition_in, class_in, iref_in, is_type_there, ref_in, int1, int32, stackref, ref_void}
use Rattle.check_tables.specs.TypeTests.{is_int, is_sized, is_no_hybrid, is_scalar, is_castable, are_cast, is_hybrid, is_struct, is_int64, is_index_type, is_value_type, fields_of, fixed_fields_of, field_at, element_of, repeated_of}
use Rattle.check_tables.specs.Lookups.{type_named, definition_named, class_named, leaves_named, ref_named, iref_named, or_zero, signature_named, class_of_global, takes_of, gives_of, funcref_of, noted_classes}
use Rattle.checked_code.specs.Operands.{is_class, operand_class, operand_demands, variable_demands}
use Rattle.checked_code.specs.Destinations.{normal_demands, exceptional_demands}
use Rattle.checked_code.specs.Computations.{compares, converts, field_named, field_demands, computation_demands, computation_gives}
use Rattle.checked_code.specs.Control.{case_demands, gives_these, control_demands, control_gives}
use Rattle.checked_code.specs.Objects.{fixed_field_named, allocation_demands, allocation_gives, addressing_demands, addressing_gives}
use Rattle.checked_code.specs.Accesses.{updates_type, access_demands, access_gives}
use Rattle.checked_code.specs.Stacks.{trapping_demands, trapping_gives, switch_demands, switch_gives, threadlocal_demands}
use Rattle.checked_code.specs.Commons.{common_demands, common_gives}
use Rattle.checked_code.specs.Instructions.{op_demands, gives, normal_of, exceptional_of, keepalive_of, is_ending, after, inst_demands, insts_demands}
use Rattle.join_laws.proofs.Tests.{int_kept, sized_kept, no_hybrid_kept, scalar_kept, castable_kept, hybrid_kept, struct_kept, int64_kept, index_kept, compares_kept, updates_kept, cast_kept, convert_kept}
use Rattle.join_laws.proofs.Classes.{Stands, Goes, AllGo, Pair, IsWrittenKin, NumberGoes, DefinitionGoes, shaped, test_goes, class_goes, class_stands, stands_same, definition_goes, below, is_below}
use Rattle.join_laws.proofs.References.{FieldsGo, fields_go, fixed_go, element_goes, repeated_goes, field_goes, part_number, int1_goes, int32_goes, stackref_goes, threadref_goes, ref_void_goes}
use Rattle.join_laws.proofs.Lookups.{TablesGo, ListGoes, funcref_of_goes, takes_goes, gives_goes, named_definition, named_class, named_ref, named_iref, type_test, value_test, noted_test, noted_value, noted_ref, noted_iref, part_iref, no_hybrid_type, sized_type}
use Rattle.join_laws.proofs.Operands.{LocalsGo, BodyGoes, there_goes, class_of_operand, same_class, operand_goes, of_type_goes, arguments_go, as_many, value_types_go, noted_list_goes, variables_go, exceptional_goes, normal_goes, entered_goes, results_go, nat_eq_is, nat_same}

-- ---- two types

casts_go : (p q : Table) (o s x y : Option TypeDef) → DefinitionGoes p q o x → DefinitionGoes p q s y → are_cast o s ≡ true → are_cast x y ≡ true
casts_go p q None s x y g h m = absurd (false≢true m)
casts_go p q (Some d) None x y g h m = absurd (false≢true (sym (nothing_is_cast d) ∙ m))
  where
    nothing_is_cast : (d : TypeDef) → are_cast (Some d) None ≡ false
    nothing_is_cast (Ref t) = refl
    nothing_is_cast (Iref t) = refl
    nothing_is_cast (FuncRef t) = refl
    nothing_is_cast d = refl
casts_go p q (Some d) (Some e) None y g h m = absurd g
casts_go p q (Some d) (Some e) (Some x) None g h m = absurd h
casts_go p q (Some d) (Some e) (Some x) (Some y) g h m = cast_kept d e x y (shaped (akin p.definitions q.definitions 0) d x (g 0)).kind (shaped (akin p.definitions q.definitions 0) e y (h 0)).kind m

cast_there : (o s : Option TypeDef) → are_cast o s ≡ true → is_sized s ≡ true
cast_there (Some (Ref t)) (Some (Ref u)) m = refl
cast_there (Some (Iref t)) (Some (Iref u)) m = refl
cast_there (Some (FuncRef t)) (Some (FuncRef u)) m = refl
cast_there o s m = absurd (false≢true m)

converts_go : (p q : Table) (op : ConvertOp) (o s x y : Option TypeDef) → DefinitionGoes p q o x → DefinitionGoes p q s y → converts op o s ≡ true → converts op x y ≡ true
converts_go p q op None s x y g h m = absurd (false≢true m)
converts_go p q op (Some (Int w)) None x y g h m = absurd (false≢true m)
converts_go p q op (Some d) None x y g h m = absurd (false≢true m)
converts_go p q op (Some d) (Some e) None y g h m = absurd g
converts_go p q op (Some d) (Some e) (Some x) None g h m = absurd h
converts_go p q op (Some d) (Some e) (Some x) (Some y) g h m =
    let a = shaped (akin p.definitions q.definitions 0) d x (g 0) in
    let b = shaped (akin p.definitions q.definitions 0) e y (h 0) in
    convert_kept op d e x y a.kind a.sized b.kind b.sized m

convert_there : (op : ConvertOp) (o s : Option TypeDef) → converts op o s ≡ true → is_int s ≡ true
convert_there op (Some (Int v)) (Some (Int w)) m = refl
convert_there op o s m = absurd (false≢true m)

-- ---- parts of types with names

-- a field of a struct is a part of it, a fixed field of a hybrid as well
pub PartsWritten : Table → Type 0
PartsWritten p = (t n k : ℕ) → slice_get (parts_at (definition_at p t)) n ≡ Some k → is_type_there (definition_at p k) ≡ true

EachPart : Table → Option ℕ → Type 0
EachPart p o = (x : ℕ) → o ≡ Some x → is_type_there (definition_at p x) ≡ true

front_at : (xs : List ℕ) (y n k : ℕ) → slice_get xs n ≡ Some k → slice_get (xs ++ y ∷ []) n ≡ Some k
front_at [] y n k h = cc
front_at (x ∷ xs) y zero k h = h
front_at (x ∷ xs) y (suc n) k h = front_at xs y n k h

last_at : (xs : List ℕ) (y : ℕ) → slice_get (xs ++ y ∷ []) (length xs) ≡ Some y
last_at [] y = refl
last_at (x ∷ xs) y = last_at xs y

number_at : (b : Bool) (o : Option ℕ) (x : ℕ) → (if b then None else o) ≡ Some x → o ≡ Some x
number_at true o x h = cc
number_at false o x h = h

field_part : (o : Option TypeDef) (n : Number) (x : ℕ) → field_at (fields_of o) n ≡ Some x → slice_get (parts_at o) n.magnitude ≡ Some x
field_part (Some (Struct xs)) n x h = number_at n.negative (slice_get xs n.magnitude) x h
field_part o n x h = cc

fixed_part : (o : Option TypeDef) (n : Number) (x : ℕ) → field_at (fixed_fields_of o) n ≡ Some x → slice_get (parts_at o) n.magnitude ≡ Some x
fixed_part (Some (Struct xs)) n x h = number_at n.negative (slice_get xs n.magnitude) x h
fixed_part (Some (Hybrid xs y)) n x h = front_at xs y n.magnitude x (number_at n.negative (slice_get xs n.magnitude) x h)
fixed_part o n x h = cc

element_part : (o : Option TypeDef) (x : ℕ) → element_of o ≡ Some x → slice_get (parts_at o) 0 ≡ Some x
element_part (Some (Array y m)) x h = h
element_part o x h = cc

repeated_part : (o : Option TypeDef) (x : ℕ) → repeated_of o ≡ Some x → (n : ℕ) × (slice_get (parts_at o) n ≡ Some x)
repeated_part (Some (Hybrid xs y)) x h = (length xs, last_at xs y ∙ h)
repeated_part o x h = cc

each_in : (p : Table) → PartsWritten p → (o : Option ℕ) (n x : ℕ) → slice_get (parts_at (definition_in p o)) n ≡ Some x → is_type_there (definition_at p x) ≡ true
unfolding PartsWritten
each_in p parts None n x h = cc
each_in p parts (Some t) n x h = parts t n x h

field_number : (p q : Tables) → TablesGo p q → (t : Name) (n : Numeral) → NumberGoes p.types q.types (field_named p t n) (field_named q t n)
unfolding PartsWritten
field_number p q go t n =
    part_number p.types q.types (field_named p t n) (field_named q t n)
    (field_goes p.types q.types (fields_of (definition_named p t)) (fields_of (definition_named q t)) n.number (fields_go p.types q.types (definition_named p t) (definition_named q t) (named_definition p q go t)))
    (λ x h. each_in p.types go.pair.one.parts (type_named p t) n.number.magnitude x (field_part (definition_named p t) n.number x h))
    (λ x h. each_in q.types go.pair.other.parts (type_named q t) n.number.magnitude x (field_part (definition_named q t) n.number x h))

fixed_number : (p q : Tables) → TablesGo p q → (t : Name) (n : Numeral) → NumberGoes p.types q.types (fixed_field_named p t n) (fixed_field_named q t n)
unfolding PartsWritten
fixed_number p q go t n =
    part_number p.types q.types (fixed_field_named p t n) (fixed_field_named q t n)
    (field_goes p.types q.types (fixed_fields_of (definition_named p t)) (fixed_fields_of (definition_named q t)) n.number (fixed_go p.types q.types (definition_named p t) (definition_named q t) (named_definition p q go t)))
    (λ x h. each_in p.types go.pair.one.parts (type_named p t) n.number.magnitude x (fixed_part (definition_named p t) n.number x h))
    (λ x h. each_in q.types go.pair.other.parts (type_named q t) n.number.magnitude x (fixed_part (definition_named q t) n.number x h))

element_number : (p q : Tables) → TablesGo p q → (t : Name) → NumberGoes p.types q.types (element_of (definition_named p t)) (element_of (definition_named q t))
unfolding PartsWritten
element_number p q go t =
    part_number p.types q.types (element_of (definition_named p t)) (element_of (definition_named q t)) (element_goes p.types q.types (definition_named p t) (definition_named q t) (named_definition p q go t))
    (λ x h. each_in p.types go.pair.one.parts (type_named p t) 0 x (element_part (definition_named p t) x h))
    (λ x h. each_in q.types go.pair.other.parts (type_named q t) 0 x (element_part (definition_named q t) x h))

repeated_number : (p q : Tables) → TablesGo p q → (t : Name) → NumberGoes p.types q.types (repeated_of (definition_named p t)) (repeated_of (definition_named q t))
unfolding PartsWritten
repeated_number p q go t =
    part_number p.types q.types (repeated_of (definition_named p t)) (repeated_of (definition_named q t)) (repeated_goes p.types q.types (definition_named p t) (definition_named q t) (named_definition p q go t))
    (λ x h. let part = repeated_part (definition_named p t) x h in each_in p.types go.pair.one.parts (type_named p t) part.0 x part.1)
    (λ x h. let part = repeated_part (definition_named q t) x h in each_in q.types go.pair.other.parts (type_named q t) part.0 x part.1)

-- a part whose number goes, and that exists
number_there : (p q : Table) (o s : Option ℕ) → NumberGoes p q o s → is_some o ≡ true → is_some s ≡ true
number_there p q None s g h = absurd (false≢true h)
number_there p q (Some t) None g h = absurd g
number_there p q (Some t) (Some u) g h = refl

written_class : (p q : Table) (o s : Option ℕ) → Pair p q → NumberGoes p q o s → is_some o ≡ true → Stands p.definitions q.definitions (or_zero (class_in p o)) (or_zero (class_in q s))
written_class p q None s pair g h = absurd (false≢true h)
written_class p q (Some t) None pair g h = absurd g
written_class p q (Some t) (Some u) pair g h = rw (below t p.written g.low, below u q.written g.there) (class_stands p q pair t u g.kin)

part_place : (p q : Table) (o s : Option ℕ) → Pair p q → NumberGoes p q o s → EachPart p o → is_some o ≡ true → Stands p.definitions q.definitions (or_zero (iref_in p o)) (or_zero (iref_in q s))
unfolding EachPart
part_place p q None s pair g f h = absurd (false≢true h)
part_place p q (Some t) s pair g f h = part_iref p q (Some t) s pair g (f t refl)

-- a struct that is a value type, and one of its fields
fields_met : (p q : Tables) → TablesGo p q → (t : Name) (n : Numeral) → AllMet (field_demands p t n) → AllMet (field_demands q t n)
fields_met p q go t n m =
    let both = and_parts (is_struct (definition_named p t)) (is_value_type (definition_named p t) (leaves_named p t)) m.0 in (and_from (is_struct (definition_named q t)) (is_value_type (definition_named q t) (leaves_named q t)) (type_test p q go is_struct struct_kept t both.0) (value_test p q go t both.1), number_there p.types q.types (field_named p t n) (field_named q t n) (field_number p q go t n) m.1)

fixed_there : (p q : Table) (o s : Option TypeDef) → DefinitionGoes p q o s → is_some (fixed_fields_of o) ≡ true → is_some (fixed_fields_of s) ≡ true
fixed_there p q o s g h = by (fixed_fields_of o) (fixed_fields_of s) (fixed_go p q o s g) h
  where
    by : (a b : Option (List ℕ)) → FieldsGo p q a b → is_some a ≡ true → is_some b ≡ true
    by None b g h = absurd (false≢true h)
    by (Some xs) None g h = absurd g
    by (Some xs) (Some ys) g h = refl

-- ---- computations

pub computation_goes : (p q : Tables) (ls ms : Locals) (c : Computation) → TablesGo p q → LocalsGo p.types q.types ls ms → AllMet (computation_demands p ls c) → AllMet (computation_demands q ms c)
computation_goes p q ls ms (computations.Binary op t a b e) go g m = (type_test p q go is_int int_kept t m.0, (of_type_goes p q ls ms a t go g m.1.0, of_type_goes p q ls ms b t go g m.1.1))
computation_goes p q ls ms (computations.Compare op t a b) go g m = (type_test p q go (compares op) (compares_kept op) t m.0, (of_type_goes p q ls ms a t go g m.1.0, of_type_goes p q ls ms b t go g m.1.1))
computation_goes p q ls ms (computations.Convert op s t a) go g m = (type_test p q go is_int int_kept s m.0, (converts_go p.types q.types op (definition_named p s) (definition_named p t) (definition_named q s) (definition_named q t) (named_definition p q go s) (named_definition p q go t) m.1.0, of_type_goes p q ls ms a s go g m.1.1))
computation_goes p q ls ms (computations.Refcast s t a) go g m = (type_test p q go is_castable castable_kept s m.0, (casts_go p.types q.types (definition_named p s) (definition_named p t) (definition_named q s) (definition_named q t) (named_definition p q go s) (named_definition p q go t) m.1.0, of_type_goes p q ls ms a s go g m.1.1))
computation_goes p q ls ms (computations.Select s t c a b) go g m = (same_class p.types q.types go.pair (class_named p s) (class_named q s) (Some (int1 p.types)) (Some (int1 q.types)) (named_class p q go s) (int1_goes p.types q.types go.pair) m.0, (value_test p q go t m.1.0, (of_type_goes p q ls ms c s go g m.1.1.0, (of_type_goes p q ls ms a t go g m.1.1.1.0, of_type_goes p q ls ms b t go g m.1.1.1.1))))
computation_goes p q ls ms (computations.Extractvalue t n a) go g m = (fields_met p q go t n m.0, of_type_goes p q ls ms a t go g m.1)
computation_goes p q ls ms (computations.Insertvalue t n a b) go g m = (
  fields_met p q go t n m.0,
  (
    of_type_goes p q ls ms a t go g m.1.0,
    operand_goes p q ls ms OperandType b (class_in p.types (field_named p t n)) (class_in q.types (field_named q t n)) go g
        (class_goes p.types q.types go.pair (field_named p t n) (field_named q t n) (field_number p q go t n)) m.1.1,
  ),
)

pub computation_gives_go : (p q : Tables) (ls : Locals) (c : Computation) → TablesGo p q → AllMet (computation_demands p ls c) → AllGo p.types q.types (computation_gives p c) (computation_gives q c)
computation_gives_go p q ls (computations.Binary op t a b e) go m = (noted_test p q go is_int refl t m.0, tt)
computation_gives_go p q ls (computations.Compare op t a b) go m = (int1_goes p.types q.types go.pair, tt)
computation_gives_go p q ls (computations.Convert op s t a) go m = (noted_test p q go is_int refl t (convert_there op (definition_named p s) (definition_named p t) m.1.0), tt)
computation_gives_go p q ls (computations.Refcast s t a) go m = (noted_test p q go is_sized refl t (cast_there (definition_named p s) (definition_named p t) m.1.0), tt)
computation_gives_go p q ls (computations.Select s t c a b) go m = (noted_value p q go t m.1.0, tt)
computation_gives_go p q ls (computations.Extractvalue t n a) go m = (written_class p.types q.types (field_named p t n) (field_named q t n) go.pair (field_number p q go t n) m.0.1, tt)
computation_gives_go p q ls (computations.Insertvalue t n a b) go m = (noted_test p q go is_struct refl t (and_parts (is_struct (definition_named p t)) (is_value_type (definition_named p t) (leaves_named p t)) m.0.0).0, tt)

-- ---- control

cases_go : (p q : Tables) (f k : Body) (ls ms : Locals) (t : Name) (cs : List Case) → TablesGo p q → BodyGoes p.types q.types f k → LocalsGo p.types q.types ls ms → AllMet (case_demands p f ls t cs) → AllMet (case_demands q k ms t cs)
cases_go p q f k ls ms t [] go body g m = tt
cases_go p q f k ls ms t (c ∷ cs) go body g m = ((same_class p.types q.types go.pair (class_of_global p c.constant) (class_of_global q c.constant) (class_named p t) (class_named q t) (go.operand c.constant.text) (named_class p q go t) m.0.0, normal_goes p q f k ls ms c.destination go body g m.0.1), cases_go p q f k ls ms t cs go body g m.1)

same_classes : (p q : Table) → Pair p q → (ts us xs ys : List ℕ) → AllGo p q ts xs → AllGo p q us ys → bytes_eq ts us ≡ true → bytes_eq xs ys ≡ true
same_classes p q pair [] [] [] [] g h m = refl
same_classes p q pair (t ∷ ts) (u ∷ us) (x ∷ xs) (y ∷ ys) g h m =
    let both = and_parts (nat_eq t u) (bytes_eq ts us) m in
    let one : t ≡ u = nat_eq_is t u both.0 in
    let same : x ≡ y = stands_same p q pair u x y (subst (λ (k : ℕ). Stands p.definitions q.definitions k x) one g.0) h.0 in
    and_from (nat_eq x y) (bytes_eq xs ys) (subst (λ (k : ℕ). nat_eq x k ≡ true) same (nat_same x)) (same_classes p q pair ts us xs ys g.1 h.1 both.1)
same_classes p q pair [] (u ∷ us) xs ys g h m = absurd (false≢true m)
same_classes p q pair (t ∷ ts) [] xs ys g h m = absurd (false≢true m)
same_classes p q pair [] [] (x ∷ xs) ys g h m = absurd g
same_classes p q pair [] [] [] (y ∷ ys) g h m = absurd h
same_classes p q pair (t ∷ ts) (u ∷ us) [] ys g h m = absurd g
same_classes p q pair (t ∷ ts) (u ∷ us) (x ∷ xs) [] g h m = absurd h

pub these_go : (p q : Table) → Pair p q → (o s : Option (List ℕ)) (us ys : List ℕ) → ListGoes p q o s → AllGo p q us ys → gives_these o us ≡ true → gives_these s ys ≡ true
these_go p q pair None s us ys g h m = absurd (false≢true m)
these_go p q pair (Some ts) None us ys g h m = absurd g
these_go p q pair (Some ts) (Some xs) us ys g h m = same_classes p q pair ts us xs ys g h m

pub noted_goes : (p q : Table) (o s : Option (List ℕ)) → ListGoes p q o s → is_some o ≡ true → AllGo p q (noted_classes o) (noted_classes s)
noted_goes p q None s g h = absurd (false≢true h)
noted_goes p q (Some cs) None g h = absurd g
noted_goes p q (Some cs) (Some ds) g h = g

wanted_there : (o wanted : Option ℕ) → is_class o wanted ≡ true → is_some wanted ≡ true
wanted_there None w m = absurd (false≢true m)
wanted_there (Some c) None m = absurd (false≢true m)
wanted_there (Some c) (Some d) m = refl

signature_told : (s : Option Signature) → is_some (funcref_of s) ≡ true → is_some (gives_of s) ≡ true
signature_told None h = absurd (false≢true h)
signature_told (Some s) h = refl

pub control_goes : (p q : Tables) (f k : Body) (ls ms : Locals) (c : ControlFlow) → TablesGo p q → BodyGoes p.types q.types f k → LocalsGo p.types q.types ls ms → AllMet (control_demands p f ls c) → AllMet (control_demands q k ms c)
control_goes p q f k ls ms (flows.Branch d) go body g m = normal_goes p q f k ls ms d go body g m
control_goes p q f k ls ms (flows.Branch2 c d e) go body g m = (operand_goes p q ls ms OperandType c (Some (int1 p.types)) (Some (int1 q.types)) go g (int1_goes p.types q.types go.pair) m.0, (normal_goes p q f k ls ms d go body g m.1.0, normal_goes p q f k ls ms e go body g m.1.1))
control_goes p q f k ls ms (flows.Switch t a d cs) go body g m =
    (type_test p q go is_int int_kept t m.0, (of_type_goes p q ls ms a t go g m.1.0, (normal_goes p q f k ls ms d go body g m.1.1.0, cases_go p q f k ls ms t cs go body g m.1.1.1)))
control_goes p q f k ls ms (flows.Call s c a e h) go body g m = (operand_goes p q ls ms OperandType c (funcref_of (signature_named p s)) (funcref_of (signature_named q s)) go g (funcref_of_goes p.types q.types (signature_named p s) (signature_named q s) (go.signature s.text)) m.0, arguments_go p q ls ms a (takes_of (signature_named p s)) (takes_of (signature_named q s)) go g (takes_goes p.types q.types (signature_named p s) (signature_named q s) (go.signature s.text)) m.1)
control_goes p q f k ls ms (flows.Tailcall s c a) go body g m = (these_go p.types q.types go.pair (gives_of (signature_named p s)) (gives_of (signature_named q s)) f.gives k.gives (gives_goes p.types q.types (signature_named p s) (signature_named q s) (go.signature s.text)) body.gives m.0, (operand_goes p q ls ms OperandType c (funcref_of (signature_named p s)) (funcref_of (signature_named q s)) go g (funcref_of_goes p.types q.types (signature_named p s) (signature_named q s) (go.signature s.text)) m.1.0, arguments_go p q ls ms a (takes_of (signature_named p s)) (takes_of (signature_named q s)) go g (takes_goes p.types q.types (signature_named p s) (signature_named q s) (go.signature s.text)) m.1.1))
control_goes p q f k ls ms (flows.Ret a) go body g m = arguments_go p q ls ms a (Some f.gives) (Some k.gives) go g body.gives m
control_goes p q f k ls ms (flows.Throw e) go body g m = operand_goes p q ls ms OperandType e (Some (ref_void p.types)) (Some (ref_void q.types)) go g (ref_void_goes p.types q.types go.pair) m

pub control_gives_go : (p q : Tables) (f : Body) (ls : Locals) (c : ControlFlow) → TablesGo p q → AllMet (control_demands p f ls c) → AllGo p.types q.types (control_gives p c) (control_gives q c)
control_gives_go p q f ls (flows.Call s c a e h) go m =
    noted_goes p.types q.types (gives_of (signature_named p s)) (gives_of (signature_named q s)) (gives_goes p.types q.types (signature_named p s) (signature_named q s) (go.signature s.text))
    (signature_told (signature_named p s) (wanted_there (operand_class p ls c) (funcref_of (signature_named p s)) m.0.1))
control_gives_go p q f ls c go m = tt

-- ---- objects

place_goes : (p q : Tables) (ls ms : Locals) (o : Operand) (t : Name) → TablesGo p q → LocalsGo p.types q.types ls ms →
    AllMet (operand_demands p ls OperandType o (iref_named p t)) → AllMet (operand_demands q ms OperandType o (iref_named q t))
place_goes p q ls ms o t go g m = operand_goes p q ls ms OperandType o (iref_named p t) (iref_named q t) go g (named_iref p q go t) m

pub allocation_goes : (p q : Tables) (ls ms : Locals) (a : Allocation) → TablesGo p q → LocalsGo p.types q.types ls ms → AllMet (allocation_demands p ls a) → AllMet (allocation_demands q ms a)
allocation_goes p q ls ms (allocations.New t e) go g m = type_test p q go is_no_hybrid no_hybrid_kept t m
allocation_goes p q ls ms (allocations.Newhybrid h i n e) go g m = (type_test p q go is_hybrid hybrid_kept h m.0, (type_test p q go is_index_type index_kept i m.1.0, of_type_goes p q ls ms n i go g m.1.1))
allocation_goes p q ls ms (allocations.Alloca t e) go g m = type_test p q go is_no_hybrid no_hybrid_kept t m

hybrid_type : (o : Option TypeDef) → is_hybrid o ≡ true → is_type_there o ≡ true
hybrid_type (Some (Hybrid xs x)) h = refl
hybrid_type o h = absurd (false≢true h)

pub allocation_gives_go : (p q : Tables) (ls : Locals) (a : Allocation) → TablesGo p q → AllMet (allocation_demands p ls a) → AllGo p.types q.types (allocation_gives p a) (allocation_gives q a)
allocation_gives_go p q ls (allocations.New t e) go m = (noted_ref p q go t (no_hybrid_type (definition_named p t) m), tt)
allocation_gives_go p q ls (allocations.Newhybrid h i n e) go m = (noted_ref p q go h (hybrid_type (definition_named p h) m.0), tt)
allocation_gives_go p q ls (allocations.Alloca t e) go m = (noted_iref p q go t (no_hybrid_type (definition_named p t) m), tt)

pub addressing_goes : (p q : Tables) (ls ms : Locals) (a : Addressing) → TablesGo p q → LocalsGo p.types q.types ls ms → AllMet (addressing_demands p ls a) → AllMet (addressing_demands q ms a)
addressing_goes p q ls ms (addressings.Getiref t r) go g m = operand_goes p q ls ms OperandType r (ref_named p t) (ref_named q t) go g (named_ref p q go t) m
addressing_goes p q ls ms (addressings.Getfieldiref t n l) go g m = (fixed_there p.types q.types (definition_named p t) (definition_named q t) (named_definition p q go t) m.0, (number_there p.types q.types (fixed_field_named p t n) (fixed_field_named q t n) (fixed_number p q go t n) m.1.0, place_goes p q ls ms l t go g m.1.1))
addressing_goes p q ls ms (addressings.Getelemiref t i l x) go g m = (number_there p.types q.types (element_of (definition_named p t)) (element_of (definition_named q t)) (element_number p q go t) m.0, (type_test p q go is_index_type index_kept i m.1.0, (place_goes p q ls ms l t go g m.1.1.0, of_type_goes p q ls ms x i go g m.1.1.1)))
addressing_goes p q ls ms (addressings.Shiftiref t i l x) go g m =
    (type_test p q go is_sized sized_kept t m.0, (type_test p q go is_index_type index_kept i m.1.0, (place_goes p q ls ms l t go g m.1.1.0, of_type_goes p q ls ms x i go g m.1.1.1)))
addressing_goes p q ls ms (addressings.Getvarpartiref h l) go g m = (type_test p q go is_hybrid hybrid_kept h m.0, place_goes p q ls ms l h go g m.1)

reference_told : (p q : Tables) → TablesGo p q → (t : Name) (o : Option ℕ) → is_class o (ref_named p t) ≡ true → is_type_there (definition_named p t) ≡ true
reference_told p q go t o m = by (type_named p t) (wanted_there o (ref_named p t) m)
  where
    by : (x : Option ℕ) → is_some (ref_in p.types x) ≡ true → is_type_there (definition_in p.types x) ≡ true
    by None h = absurd (false≢true h)
    by (Some k) h = told (is_type_there (definition_at p.types k)) (class_like p.types.definitions (Ref k)) h
      where
        told : (b : Bool) (c : ℕ) → is_some (if b then Some c else None) ≡ true → b ≡ true
        told true c h = refl
        told false c h = absurd (false≢true h)

pub addressing_gives_go : (p q : Tables) (ls : Locals) (a : Addressing) → TablesGo p q → AllMet (addressing_demands p ls a) → AllGo p.types q.types (addressing_gives p a) (addressing_gives q a)
unfolding EachPart PartsWritten
addressing_gives_go p q ls (addressings.Getiref t r) go m = (noted_iref p q go t (reference_told p q go t (operand_class p ls r) m.1), tt)
addressing_gives_go p q ls (addressings.Getfieldiref t n l) go m = (
  part_place p.types q.types (fixed_field_named p t n) (fixed_field_named q t n) go.pair (fixed_number p q go t n)
      (λ x h. each_in p.types go.pair.one.parts (type_named p t) n.number.magnitude x (fixed_part (definition_named p t) n.number x h)) m.1.0,
  tt,
)
addressing_gives_go p q ls (addressings.Getelemiref t i l x) go m = (
  part_place p.types q.types (element_of (definition_named p t)) (element_of (definition_named q t)) go.pair (element_number p q go t)
      (λ x h. each_in p.types go.pair.one.parts (type_named p t) 0 x (element_part (definition_named p t) x h)) m.0,
  tt,
)
addressing_gives_go p q ls (addressings.Shiftiref t i l x) go m = (noted_iref p q go t (sized_type (definition_named p t) m.0), tt)
addressing_gives_go p q ls (addressings.Getvarpartiref h l) go m = (
  part_place p.types q.types (repeated_of (definition_named p h)) (repeated_of (definition_named q h)) go.pair (repeated_number p q go h)
      (λ x e. let part = repeated_part (definition_named p h) x e in each_in p.types go.pair.one.parts (type_named p h) part.0 x part.1) m.0,
  tt,
)

-- ---- accesses

pub access_goes : (p q : Tables) (ls ms : Locals) (a : Access) → TablesGo p q → LocalsGo p.types q.types ls ms → AllMet (access_demands p ls a) → AllMet (access_demands q ms a)
access_goes p q ls ms (accesses.Load o t l e) go g m = (m.0, (type_test p q go is_scalar scalar_kept t m.1.0, place_goes p q ls ms l t go g m.1.1))
access_goes p q ls ms (accesses.Store o t l a e) go g m = (m.0, (type_test p q go is_scalar scalar_kept t m.1.0, (place_goes p q ls ms l t go g m.1.1.0, of_type_goes p q ls ms a t go g m.1.1.1)))
access_goes p q ls ms (accesses.Cmpxchg w s o t l a b e) go g m =
    (m.0, (m.1.0, (type_test p q go is_scalar scalar_kept t m.1.1.0, (place_goes p q ls ms l t go g m.1.1.1.0, (of_type_goes p q ls ms a t go g m.1.1.1.1.0, of_type_goes p q ls ms b t go g m.1.1.1.1.1)))))
access_goes p q ls ms (accesses.Atomicrmw o op t l a e) go g m =
    (m.0, (type_test p q go (updates_type op) (updates_kept op) t m.1.0, (place_goes p q ls ms l t go g m.1.1.0, of_type_goes p q ls ms a t go g m.1.1.1)))
access_goes p q ls ms (accesses.Fence o) go g m = m

pub access_gives_go : (p q : Tables) (ls : Locals) (a : Access) → TablesGo p q → AllMet (access_demands p ls a) → AllGo p.types q.types (access_gives p a) (access_gives q a)
access_gives_go p q ls (accesses.Load o t l e) go m = (noted_test p q go is_scalar refl t m.1.0, tt)
access_gives_go p q ls (accesses.Store o t l a e) go m = tt
access_gives_go p q ls (accesses.Cmpxchg w s o t l a b e) go m = (noted_test p q go is_scalar refl t m.1.1.0, (int1_goes p.types q.types go.pair, tt))
access_gives_go p q ls (accesses.Atomicrmw o op t l a e) go m = (noted_test p q go (updates_type op) (updates_kept op).nothing t m.1.0, tt)
access_gives_go p q ls (accesses.Fence o) go m = tt

-- ---- stacks

pub trapping_goes : (p q : Tables) (f k : Body) (ls ms : Locals) (t : Trapping) → TablesGo p q → BodyGoes p.types q.types f k → LocalsGo p.types q.types ls ms → AllMet (trapping_demands p f ls t) → AllMet (trapping_demands q k ms t)
trapping_goes p q f k ls ms (trappings.Trap ts e h) go body g m = value_types_go p q go ts m
trapping_goes p q f k ls ms (trappings.Watchpoint n ts d e x h) go body g m = (m.0, (value_types_go p q go ts m.1.0, normal_goes p q f k ls ms d go body g m.1.1))
trapping_goes p q f k ls ms (trappings.Wpbranch n d e) go body g m = (m.0, (normal_goes p q f k ls ms d go body g m.1.0, normal_goes p q f k ls ms e go body g m.1.1))

pub trapping_gives_go : (p q : Tables) (f : Body) (ls : Locals) (t : Trapping) → TablesGo p q → AllMet (trapping_demands p f ls t) → AllGo p.types q.types (trapping_gives p t) (trapping_gives q t)
trapping_gives_go p q f ls (trappings.Trap ts e h) go m = noted_list_goes p q go ts m
trapping_gives_go p q f ls (trappings.Watchpoint n ts d e x h) go m = noted_list_goes p q go ts m.1.0
trapping_gives_go p q f ls (trappings.Wpbranch n d e) go m = tt

stack_goes : (p q : Tables) (ls ms : Locals) (o : Operand) → TablesGo p q → LocalsGo p.types q.types ls ms →
    AllMet (operand_demands p ls OperandType o (Some (stackref p.types))) → AllMet (operand_demands q ms OperandType o (Some (stackref q.types)))
stack_goes p q ls ms o go g m = operand_goes p q ls ms OperandType o (Some (stackref p.types)) (Some (stackref q.types)) go g (stackref_goes p.types q.types go.pair) m

void_goes : (p q : Tables) (ls ms : Locals) (o : Operand) → TablesGo p q → LocalsGo p.types q.types ls ms →
    AllMet (operand_demands p ls OperandType o (Some (ref_void p.types))) → AllMet (operand_demands q ms OperandType o (Some (ref_void q.types)))
void_goes p q ls ms o go g m = operand_goes p q ls ms OperandType o (Some (ref_void p.types)) (Some (ref_void q.types)) go g (ref_void_goes p.types q.types go.pair) m

threadlocal_goes : (p q : Tables) (ls ms : Locals) (o : Option Operand) → TablesGo p q → LocalsGo p.types q.types ls ms → AllMet (threadlocal_demands p ls o) → AllMet (threadlocal_demands q ms o)
threadlocal_goes p q ls ms None go g m = tt
threadlocal_goes p q ls ms (Some v) go g m = void_goes p q ls ms v go g m

pub switch_goes : (p q : Tables) (ls ms : Locals) (s : StackSwitch) → TablesGo p q → LocalsGo p.types q.types ls ms → AllMet (switch_demands p ls s) → AllMet (switch_demands q ms s)
switch_goes p q ls ms (switches.SwapReturning s ts n e k) go g m = (stack_goes p q ls ms s go g m.0, (value_types_go p q go ts m.1.0, entered_goes p q ls ms n go g m.1.1))
switch_goes p q ls ms (switches.SwapKilling s n) go g m = (stack_goes p q ls ms s go g m.0, entered_goes p q ls ms n go g m.1)
switch_goes p q ls ms (switches.Newthread s tl n e) go g m = (stack_goes p q ls ms s go g m.0, (threadlocal_goes p q ls ms tl go g m.1.0, entered_goes p q ls ms n go g m.1.1))

pub switch_gives_go : (p q : Tables) (ls : Locals) (s : StackSwitch) → TablesGo p q → AllMet (switch_demands p ls s) → AllGo p.types q.types (switch_gives p s) (switch_gives q s)
switch_gives_go p q ls (switches.SwapReturning s ts n e k) go m = noted_list_goes p q go ts m.1.0
switch_gives_go p q ls (switches.SwapKilling s n) go m = tt
switch_gives_go p q ls (switches.Newthread s tl n e) go m = (threadref_goes p.types q.types go.pair, tt)

-- ---- common instructions

written_by : (p : Table) (c : ℕ) → is_int64 (definition_at p c) ≡ true → c < p.written
written_by p c h = by (nat_lt c p.written) refl h
  where
    by : (b : Bool) → nat_lt c p.written ≡ b → is_int64 (if b then slice_get p.definitions c else None) ≡ true → c < p.written
    by true e k = is_below c p.written e
    by false e k = absurd (false≢true k)

-- the class of a written int<64>: its least type is written too, and so is the class that stands for it in the other bundle
int64_there : (p q : Table) → Pair p q → (o s : Option ℕ) → Goes p q o s → is_int64 (definition_in p o) ≡ true → is_int64 (definition_in q s) ≡ true
int64_there p q pair None s g m = absurd (false≢true m)
int64_there p q pair (Some c) None g m = absurd g
int64_there p q pair (Some c) (Some d) g m =
    let low : c < p.written = written_by p c m in
    let u = pair.each c low in
    let alike : same q.definitions d u.0 ≡ true = kin_both p.definitions q.definitions c d u.0 g.kin u.1.kin in
    let class : class_of q.definitions d ≡ class_of q.definitions u.0 = ((decided q.definitions pair.other.graph).equal d u.0 g.kin.there u.1.kin.there).1 alike in
    let least = (decided q.definitions pair.other.graph).no_later u.0 u.1.kin.there in
    let there : d < q.written = omega (arith, class, g.class, least, u.1.there) in
    let both : IsWrittenKin p q c d = record { kin = g.kin; low = low; there = there } in
    test_goes p q is_int64 int64_kept (definition_at p c) (definition_at q d) (definition_goes p q (Some c) (Some d) both) m

pub common_goes : (p q : Tables) (ls ms : Locals) (c : CommonInst) → TablesGo p q → LocalsGo p.types q.types ls ms → AllMet (common_demands p ls c) → AllMet (common_demands q ms c)
common_goes p q ls ms (commons.NewStack s f) go g m =
    operand_goes p q ls ms OperandType f (funcref_of (signature_named p s)) (funcref_of (signature_named q s)) go g (funcref_of_goes p.types q.types (signature_named p s) (signature_named q s) (go.signature s.text)) m
common_goes p q ls ms (commons.KillStack s) go g m = stack_goes p q ls ms s go g m
common_goes p q ls ms commons.ThreadExit go g m = tt
common_goes p q ls ms commons.CurrentStack go g m = tt
common_goes p q ls ms (commons.SetThreadlocal r) go g m = void_goes p q ls ms r go g m
common_goes p q ls ms commons.GetThreadlocal go g m = tt
common_goes p q ls ms (commons.FutexWait t l v) go g m = (type_test p q go is_int int_kept t m.0, (place_goes p q ls ms l t go g m.1.0, of_type_goes p q ls ms v t go g m.1.1))
common_goes p q ls ms (commons.FutexWake t l n) go g m = (type_test p q go is_int int_kept t m.0, (place_goes p q ls ms l t go g m.1.0, operand_goes p q ls ms OperandType n (Some (int32 p.types)) (Some (int32 q.types)) go g (int32_goes p.types q.types go.pair) m.1.1))
common_goes p q ls ms (commons.FutexWaitTimeout t l v n) go g m = (type_test p q go is_int int_kept t m.0, (place_goes p q ls ms l t go g m.1.0, (of_type_goes p q ls ms v t go g m.1.1.0, (there_goes p.types q.types ls ms g n m.1.1.1.0, int64_there p.types q.types go.pair (operand_class p ls n) (operand_class q ms n) (class_of_operand p q ls ms go g n) m.1.1.1.1))))

pub common_gives_go : (p q : Tables) (ls : Locals) (c : CommonInst) → TablesGo p q → AllMet (common_demands p ls c) → AllGo p.types q.types (common_gives p c) (common_gives q c)
common_gives_go p q ls (commons.NewStack s f) go m = (stackref_goes p.types q.types go.pair, tt)
common_gives_go p q ls (commons.KillStack s) go m = tt
common_gives_go p q ls commons.ThreadExit go m = tt
common_gives_go p q ls commons.CurrentStack go m = (stackref_goes p.types q.types go.pair, tt)
common_gives_go p q ls (commons.SetThreadlocal r) go m = tt
common_gives_go p q ls commons.GetThreadlocal go m = (ref_void_goes p.types q.types go.pair, tt)
common_gives_go p q ls (commons.FutexWait t l v) go m = (int32_goes p.types q.types go.pair, tt)
common_gives_go p q ls (commons.FutexWake t l n) go m = (int32_goes p.types q.types go.pair, tt)
common_gives_go p q ls (commons.FutexWaitTimeout t l v n) go m = (int32_goes p.types q.types go.pair, tt)

-- ---- by kind

pub op_goes : (p q : Tables) (f k : Body) (ls ms : Locals) (o : Op) → TablesGo p q → BodyGoes p.types q.types f k → LocalsGo p.types q.types ls ms → AllMet (op_demands p f ls o) → AllMet (op_demands q k ms o)
op_goes p q f k ls ms (ops.Computation c) go body g m = computation_goes p q ls ms c go g m
op_goes p q f k ls ms (ops.ControlFlow c) go body g m = control_goes p q f k ls ms c go body g m
op_goes p q f k ls ms (ops.Allocation a) go body g m = allocation_goes p q ls ms a go g m
op_goes p q f k ls ms (ops.Addressing a) go body g m = addressing_goes p q ls ms a go g m
op_goes p q f k ls ms (ops.Access a) go body g m = access_goes p q ls ms a go g m
op_goes p q f k ls ms (ops.Trapping t) go body g m = trapping_goes p q f k ls ms t go body g m
op_goes p q f k ls ms (ops.StackSwitch s) go body g m = switch_goes p q ls ms s go g m
op_goes p q f k ls ms (ops.Common c) go body g m = common_goes p q ls ms c go g m

pub gives_go : (p q : Tables) (f : Body) (ls : Locals) (o : Op) → TablesGo p q → AllMet (op_demands p f ls o) → AllGo p.types q.types (gives p o) (gives q o)
gives_go p q f ls (ops.Computation c) go m = computation_gives_go p q ls c go m
gives_go p q f ls (ops.ControlFlow c) go m = control_gives_go p q f ls c go m
gives_go p q f ls (ops.Allocation a) go m = allocation_gives_go p q ls a go m
gives_go p q f ls (ops.Addressing a) go m = addressing_gives_go p q ls a go m
gives_go p q f ls (ops.Access a) go m = access_gives_go p q ls a go m
gives_go p q f ls (ops.Trapping t) go m = trapping_gives_go p q f ls t go m
gives_go p q f ls (ops.StackSwitch s) go m = switch_gives_go p q ls s go m
gives_go p q f ls (ops.Common c) go m = common_gives_go p q ls c go m

-- ---- instructions in their block

optional_normal : (p q : Tables) (f k : Body) (ls ms : Locals) (d : Option Destination) → TablesGo p q → BodyGoes p.types q.types f k → LocalsGo p.types q.types ls ms →
    AllMet (option_map_or (normal_demands p f ls) d none) → AllMet (option_map_or (normal_demands q k ms) d none)
optional_normal p q f k ls ms None go body g m = tt
optional_normal p q f k ls ms (Some d) go body g m = normal_goes p q f k ls ms d go body g m

optional_exceptional : (p q : Tables) (f k : Body) (ls ms : Locals) (d : Option Destination) → TablesGo p q → BodyGoes p.types q.types f k → LocalsGo p.types q.types ls ms →
    AllMet (option_map_or (exceptional_demands p f ls) d none) → AllMet (option_map_or (exceptional_demands q k ms) d none)
optional_exceptional p q f k ls ms None go body g m = tt
optional_exceptional p q f k ls ms (Some d) go body g m = exceptional_goes p q f k ls ms d go body g m

kept_go : (p q : Table) (ls ms : Locals) (ns : Option (List Name)) → LocalsGo p q ls ms → AllMet (option_map_or (variable_demands ls) ns none) → AllMet (option_map_or (variable_demands ms) ns none)
kept_go p q ls ms None g m = tt
kept_go p q ls ms (Some ns) g m = variables_go p q ls ms g ns m

pub after_goes : (p q : Tables) (f : Body) (ls ms : Locals) (i : Inst) → TablesGo p q → LocalsGo p.types q.types ls ms → AllMet (op_demands p f ls i.op) → LocalsGo p.types q.types (after p ls i) (after q ms i)
after_goes p q f ls ms i go g m = results_go p.types q.types ls ms i.results (gives p i.op) (gives q i.op) g (gives_go p q f ls i.op go m)

pub inst_goes : (p q : Tables) (f k : Body) (ls ms : Locals) (ended : Bool) (i : Inst) → TablesGo p q → BodyGoes p.types q.types f k → LocalsGo p.types q.types ls ms →
    AllMet (inst_demands p f ls ended i) → AllMet (inst_demands q k ms ended i) × LocalsGo p.types q.types (after p ls i) (after q ms i)
unfolding inst_demands
inst_goes p q f k ls ms ended i go body g m =
    let later = after_goes p q f ls ms i go g m.1.1.0 in ((m.0, (subst (λ (n : ℕ). nat_eq (length i.results) n ≡ true) (as_many p.types q.types (gives p i.op) (gives q i.op) (gives_go p q f ls i.op go m.1.1.0)) m.1.0, (op_goes p q f k ls ms i.op go body g m.1.1.0, (optional_normal p q f k (after p ls i) (after q ms i) (normal_of i.op) go body later m.1.1.1.0, (optional_exceptional p q f k ls ms (exceptional_of i.op) go body g m.1.1.1.1.0, kept_go p.types q.types ls ms (keepalive_of i.op) g m.1.1.1.1.1))))), later)

pub insts_go : (p q : Tables) (f k : Body) (ls ms : Locals) (ended : Bool) (is : List Inst) → TablesGo p q → BodyGoes p.types q.types f k → LocalsGo p.types q.types ls ms →
    AllMet (insts_demands p f ls ended is) → AllMet (insts_demands q k ms ended is)
insts_go p q f k ls ms ended [] go body g m = tt
insts_go p q f k ls ms ended (i ∷ is) go body g m =
    let first = inst_goes p q f k ls ms ended i go body g m.0 in
    (first.0, insts_go p q f k (after p ls i) (after q ms i) (is_ending i.op) is go body first.1 m.1)
