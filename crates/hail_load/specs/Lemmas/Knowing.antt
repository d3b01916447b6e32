-- What is known of the code of a bundle that meets its demands.
use Rattle.std.proofs.Common.{◌≡◌, ◌⊎◌, ℕ, ◌+◌, ◌*◌, ◌<◌, ◌≤◌, Bool, true, false, List, [], ◌∷◌, ◌++◌, zero, suc, length, map, Option, Some, None, is_some, nat_lt, slice_get, slice_index_or, if◌then◌else◌, refl, sym, ap, subst, ◌∙◌, inl, inr, arith}
use Rattle.std.specs.Prelude.{sum_by}
use Rattle.std.specs.List.{All, flat_map}
use Rattle.std.specs.Str.{bytes_eq}
use Rattle.std.proofs.lemmas.List.{length-append, length-map}
use Rattle.std.proofs.lemmas.List.Concat.{flat_map-cons}
use Rattle.std.proofs.lemmas.List.Sums.{sum_by-cons}
use Rattle.std.proofs.lemmas.List.Elements.{All-nil, All-cons}
use Rattle.std.proofs.lemmas.Option.{slice_get_within}
use Rattle.demands.specs.Demands.{first_unmet}
use Rattle.name_scopes.specs.Names.{Names, found, added}
use Rattle.demands.specs.Lemmas.Meeting.{both_met}
use Rattle.ir_tree.specs.declared.items.Item.{Item}
use Rattle.ir_tree.specs.declared.items.Item.TheVariants as items
use Rattle.type_definitions.specs.declared.definition.TypeDef.{TypeDef}
use Rattle.type_definitions.specs.declared.definition.TypeDef.TheVariants as types
use Rattle.type_definitions.specs.Same.{IsGraph}
use Rattle.type_definitions.specs.Laws.{IsFinite}
use Rattle.type_definitions.specs.Leaves.{times, leaves, leaves_at}
use Rattle.type_definitions.specs.Scalars.{is_scalar}
use Rattle.type_definitions.specs.Class.{class_of}
use Rattle.type_definitions.specs.Lemmas.Proved.{decided}
use Rattle.type_definitions.specs.Lemmas.Respect.{class_decides}
use Rattle.type_definitions.specs.Lemmas.Unfolds.{leaves_are}
use Rattle.mu_values.specs.declared.scalars.Scalar.{Scalar}
use Rattle.mu_types.specs.Graph.{Table}
use Rattle.mu_types.specs.Implied.{complete}
use Rattle.bundle_names.specs.declared.globals.Sort.{Sort}
use Rattle.bundle_names.specs.declared.globals.Sort.TheVariants as sorts
use Rattle.bundle_names.specs.declared.globals.Globals.{Globals}
use Rattle.bundle_names.specs.Globals.{with_item, with_items, no_globals, globals_of}
use Rattle.check_tables.specs.declared.tables.Tables.{Tables}
use Rattle.check_tables.specs.Types.{class_in}
use Rattle.check_tables.specs.Lookups.{written_number, type_named, or_zero}
use Rattle.ir_lex.specs.declared.name.Name.{Name}
use Rattle.checked_code.specs.Graph.{within, type_id, table_of, graph_of}
use Rattle.checked_code.specs.Entries.{noted_type, constant_entries, tables_of}
use Rattle.checked_code.specs.Rules.{literal_of, item_demands}
use Rattle.checked_code.specs.declared.constants.Constant.{Constant}
use Rattle.checked_code.specs.Lemmas.Counted.{graph_counted, written_within}
use Rattle.checked_code.specs.Lemmas.ConstantMembers.{holds_at}
use Rattle.checked_code.specs.Lemmas.ConstantsFitting.{all_fit}
use Rattle.checked_code.specs.ConstantFits.{FitsLeaves}
use Rattle.checked_code.specs.Constants.{constants_of}
use Rattle.checked_code.specs.ConstantMembers.{Lawful, value_of}
use Rattle.checked_code.specs.Lemmas.ConstantsAccepted.{accepted, complete_long}
use Rattle.checked_code.specs.Checking.{bundle_tables, check_demands}
use Rattle.checked_code.specs.Functions.{functions_demands}
use Rattle.checked_code.specs.Answers.{global_classes}
use Rattle.typed_heap.specs.Objects.{leaf_classes}
use Rattle.typed_heap.specs.Heap.{AreNarrow}
use Rattle.typed_heap.specs.Lemmas.Runs.{times_length}
use Rattle.hail_load.specs.declared.parts.Part.TheVariants.{Value}
use Rattle.hail_load.specs.Code.{Code, code_of}
use Rattle.hail_load.specs.Parts.{size_of}
use Rattle.hail_load.specs.Rooms.{AreSized}
use Rattle.hail_load.specs.Known.{IsKnown}

-- ---- names of types stand for types that are written

IsLow : ℕ → Sort → Type 0
IsLow many (sorts.Written n) = n < many
IsLow many _ = Unit {0}

found_more : {T : Type 0} (es : Names T) (n name : List ℕ) (x v : T) → found (es ++ (n, x) ∷ []) name ≡ Some v → (found es name ≡ Some v) ⊎ (x ≡ v)
found_more {T} [] n name x v h = by (bytes_eq name n) h
  where
    by : (b : Bool) → (if b then Some x else None) ≡ Some v → (found [] name ≡ Some v) ⊎ (x ≡ v)
    by true k = inr cc
    by false k = cc
found_more {T} (e ∷ es) n name x v h = by (bytes_eq name e.0) (λ k. found_more es n name x v k) h
  where
    by : (b : Bool) → (found (es ++ (n, x) ∷ []) name ≡ Some v → (found es name ≡ Some v) ⊎ (x ≡ v)) → (if b then Some e.1 else found (es ++ (n, x) ∷ []) name) ≡ Some v
        → ((if b then Some e.1 else found es name) ≡ Some v) ⊎ (x ≡ v)
    by true more k = inl k
    by false more k = more k

found_added : {T : Type 0} (es : Names T) (n name : List ℕ) (x v : T) → found (added es n x) name ≡ Some v → (found es name ≡ Some v) ⊎ (x ≡ v)
found_added {T} es n name x v h = by (is_some (found es n)) h
  where
    by : (b : Bool) → found (if b then es else es ++ (n, x) ∷ []) name ≡ Some v → (found es name ≡ Some v) ⊎ (x ≡ v)
    by true k = inl k
    by false k = found_more es n name x v k

AreLow : ℕ → Names Sort → Type 0
AreLow many es = (name : List ℕ) (v : Sort) → found es name ≡ Some v → IsLow many v

low_more : (many : ℕ) (v : Sort) → IsLow many v → IsLow (many + 1) v
unfolding IsLow
low_more many (sorts.Written n) l = omega (arith, l)
low_more many (sorts.Signature n) l = l
low_more many (sorts.Constant n) l = l
low_more many (sorts.GlobalCell n) l = l
low_more many (sorts.Function n) l = l

added_low : (many : ℕ) (es : Names Sort) (n : List ℕ) (x : Sort) → AreLow many es → IsLow many x → AreLow many (added es n x)
unfolding AreLow
added_low many es n x a l name v h = elim (found_added es n name x v h) [ inl old ↦ a name v old | inr new ↦ subst (IsLow many) new l ]

written_low : (many : ℕ) (es : Names Sort) (n : List ℕ) → AreLow many es → AreLow (many + 1) (added es n (sorts.Written many))
unfolding AreLow IsLow
written_low many es n a name v h = elim (found_added es n name (sorts.Written many) v h) [
  | inl old ↦ low_more many v (a name v old)
  | inr new ↦ let l : IsLow (many + 1) (sorts.Written many) = omega arith in subst (IsLow (many + 1)) new l
]

item_low : (g : Globals) (i : Item) → AreLow g.counts.written g.names → AreLow (with_item g i).counts.written (with_item g i).names
unfolding IsLow
item_low g (items.Typedef d) a = written_low g.counts.written g.names d.name.text a
item_low g (items.Funcsig d) a = added_low g.counts.written g.names d.name.text (sorts.Signature g.counts.signatures) a tt
item_low g (items.Const d) a = added_low g.counts.written g.names d.name.text (sorts.Constant g.counts.constants) a tt
item_low g (items.GlobalCell d) a = added_low g.counts.written g.names d.name.text (sorts.GlobalCell g.counts.global_cells) a tt
item_low g (items.Funcdecl d) a = added_low g.counts.written g.names d.name.text (sorts.Function g.counts.functions) a tt
item_low g (items.Funcdef d) a = added_low g.counts.written g.names d.name.text (sorts.Function g.counts.functions) a tt

items_low : (g : Globals) (is : List Item) → AreLow g.counts.written g.names → AreLow (with_items g is).counts.written (with_items g is).names
items_low g [] a = a
items_low g (i ∷ is) a = items_low (with_item g i) is (item_low g i a)

none_low : AreLow 0 []
unfolding AreLow
none_low name v e = cc

names_low : (bundle : List Item) → AreLow (globals_of bundle).counts.written (globals_of bundle).names
names_low bundle = items_low no_globals bundle none_low

number_low : (many : ℕ) (o : Option Sort) (t : ℕ) → ((v : Sort) → o ≡ Some v → IsLow many v) → written_number o ≡ Some t → t < many
unfolding IsLow
number_low many (Some (sorts.Written n)) t a e = let same : n ≡ t = cc in subst (λ (k : ℕ). k < many) same (a (sorts.Written n) refl)
number_low many (Some (sorts.Signature n)) t a e = cc
number_low many (Some (sorts.Constant n)) t a e = cc
number_low many (Some (sorts.GlobalCell n)) t a e = cc
number_low many (Some (sorts.Function n)) t a e = cc
number_low many None t a e = cc

types_low : (bundle : List Item) (name : List ℕ) (t : ℕ) → written_number (found (globals_of bundle).names name) ≡ Some t → t < (globals_of bundle).counts.written
unfolding AreLow
types_low bundle name t e = number_low (globals_of bundle).counts.written (found (globals_of bundle).names name) t (names_low bundle name) e

-- ---- the types of globals are in the graph

class_low : (p : Table) → IsGraph p.definitions → 0 < length p.definitions → p.written ≤ length p.definitions → (o : Option ℕ) → or_zero (class_in p o) < length p.definitions
class_low p i some l None = some
class_low p i some l (Some t) = by (nat_lt t p.written) refl
  where
    by : (b : Bool) → nat_lt t p.written ≡ b → or_zero (if b then Some (class_of p.definitions t) else None) < length p.definitions
    by true e =
        let low : t < length p.definitions = grind (arith, e, l) in
        omega (arith, (decided p.definitions i).no_later t low, low)
    by false e = some

globals_low : (p : Tables) → IsGraph p.types.definitions → 0 < length p.types.definitions → p.types.written ≤ length p.types.definitions → (is : List Item) → All (λ t. t < length p.types.definitions) (global_classes p is)
globals_low p i some l [] = All-nil (λ t. t < length p.types.definitions)
globals_low p i some l (items.GlobalCell d ∷ is) =
    All-cons (λ t. t < length p.types.definitions) (or_zero (class_in p.types (type_named p d.of_type))) (global_classes p is) (class_low p.types i some l (type_named p d.of_type)) (globals_low p i some l is)
globals_low p i some l (items.Typedef d ∷ is) = globals_low p i some l is
globals_low p i some l (items.Funcsig d ∷ is) = globals_low p i some l is
globals_low p i some l (items.Const d ∷ is) = globals_low p i some l is
globals_low p i some l (items.Funcdecl d ∷ is) = globals_low p i some l is
globals_low p i some l (items.Funcdef d ∷ is) = globals_low p i some l is

-- ---- types have the leaves of their parts

-- as many as its definition tells
unfolds : (g : List TypeDef) → IsGraph g → IsFinite g → (t : ℕ) (d : TypeDef) → slice_get g t ≡ Some d → length (leaf_classes g t) ≡ length (leaves_at (leaves g) t (Some d))
unfolds g i f t d e =
    length-map (leaves g t) (class_of g) ∙ ap (λ (ls : List ℕ). length ls) (leaves_are g i f t (slice_get_within g t d e)) ∙ ap (λ (o : Option TypeDef). length (leaves_at (leaves g) t o)) e

flat_long : (g : List TypeDef) (fields : List ℕ) → length (flat_map (leaves g) fields) ≡ sum_by (size_of g) (map Value fields)
flat_long g [] = refl
flat_long g (t ∷ ts) =
    let more = flat_long g ts in
    ap (λ (ls : List ℕ). length ls) (flat_map-cons (leaves g) t ts) ∙ length-append (leaves g t) (flat_map (leaves g) ts)
    ∙ omega (arith, more, length-map (leaves g t) (class_of g), sum_by-cons (size_of g) (Value t) (map Value ts))

times_long : (g : List TypeDef) (n t : ℕ) → length (times n (leaves g t)) ≡ n * length (leaf_classes g t)
times_long g n t = times_length n (leaves g t) ∙ ap (λ (m : ℕ). n * m) (sym (length-map (leaves g t) (class_of g)))

one_leaf : (g : List TypeDef) → IsGraph g → IsFinite g → (t : ℕ) (o : Option TypeDef) → slice_get g t ≡ o → is_scalar o ≡ true → length (leaf_classes g t) ≡ 1
one_leaf g i f t (Some (types.Int w)) e h = unfolds g i f t (types.Int w) e
one_leaf g i f t (Some (types.Ref d)) e h = unfolds g i f t (types.Ref d) e
one_leaf g i f t (Some (types.Iref d)) e h = unfolds g i f t (types.Iref d) e
one_leaf g i f t (Some (types.FuncRef d)) e h = unfolds g i f t (types.FuncRef d) e
one_leaf g i f t (Some types.StackRef) e h = unfolds g i f t types.StackRef e
one_leaf g i f t (Some types.ThreadRef) e h = unfolds g i f t types.ThreadRef e
one_leaf g i f t _ e h = cc

sized : (g : List TypeDef) → IsGraph g → IsFinite g → AreSized g
sized g i f = record {
  scalar = λ t h. one_leaf g i f t (slice_get g t) refl h;
  struct = λ t fields e. unfolds g i f t (types.Struct fields) e ∙ flat_long g fields;
  array = λ t element n e. unfolds g i f t (types.Array element n) e ∙ times_long g n element;
  hybrid = λ t element fixed e. unfolds g i f t (types.Hybrid fixed element) e ∙ flat_long g fixed;
}

-- ---- constants have a scalar for each leaf

below_is : (n m : ℕ) → n < m → nat_lt n m ≡ true
below_is n m l = grind (arith, l)

-- the class of a type that is noted is that of the type with its number
noted_number : (t : Table) (many : ℕ) (o : Option ℕ) → IsGraph t.definitions → 0 < length t.definitions → many ≤ t.written → ((k : ℕ) → o ≡ Some k → k < many) → or_zero (class_in t o) ≡ class_of t.definitions (within many o)
noted_number t many None i some l low = let first = (decided t.definitions i).no_later 0 some in omega (arith, first)
noted_number t many (Some k) i some l low =
    let own : k < many = low k refl in
    rw (below_is k t.written (omega (arith, l, own)), below_is k many own) refl

entry_of : (t : Table) (g : Globals) (is : List Item) (n c : ℕ) → slice_get (constant_entries t g is) n ≡ Some c → (k : Constant) × (slice_get (constants_of g is) n ≡ Some k) × (m : Name) × (k.of_type ≡ type_id g m) × (noted_type t g m ≡ c)
entry_of t g [] n c h = cc
entry_of t g (items.Typedef d ∷ is) n c h = entry_of t g is n c h
entry_of t g (items.Funcsig d ∷ is) n c h = entry_of t g is n c h
entry_of t g (items.GlobalCell d ∷ is) n c h = entry_of t g is n c h
entry_of t g (items.Funcdecl d ∷ is) n c h = entry_of t g is n c h
entry_of t g (items.Funcdef d ∷ is) n c h = entry_of t g is n c h
entry_of t g (items.Const d ∷ is) zero c h = (record { of_type = type_id g d.of_type; literal = literal_of g d.literal }, refl, d.of_type, refl, same_some (noted_type t g d.of_type) c h)
  where
    same_some : (x y : ℕ) → Some x ≡ Some y → x ≡ y
    same_some x y e = cc
entry_of t g (items.Const d ∷ is) (suc n) c h = entry_of t g is n c h

fits_long : (g : List TypeDef) (ls : List ℕ) (ss : List Scalar) → FitsLeaves g ls ss → length ss ≡ length ls
fits_long g [] [] h = refl
fits_long g [] (s ∷ ss) h = absurd h
fits_long g (l ∷ ls) [] h = absurd h
fits_long g (l ∷ ls) (s ∷ ss) h = let more = fits_long g ls ss h.1 in omega (arith, more)

pub class_long : (g : List TypeDef) → IsGraph g → (t : ℕ) → t < length g → length (leaf_classes g (class_of g t)) ≡ length (leaf_classes g t)
class_long g i t l =
    let d = decided g i in
    let low : class_of g t < length g = omega (arith, l, d.no_later t l) in
    let own : class_of g (class_of g t) ≡ class_of g t = (d.equal (class_of g t) t low l).1 (d.of_it t l) in
    ap (λ (cs : List ℕ). length cs) (class_decides g i (class_of g t) t low l own)

-- ---- all of it

lawful : (bundle : List Item) → first_unmet (check_demands bundle) ≡ None → Lawful (bundle_tables bundle).types.definitions (constants_of (globals_of bundle) bundle)
unfolding check_demands
lawful bundle checked =
    accepted (globals_of bundle) bundle refl (both_met (first_unmet (item_demands (globals_of bundle) bundle)) (first_unmet (functions_demands (bundle_tables bundle) 0 bundle)) checked).0

values_long : (bundle : List Item) → first_unmet (check_demands bundle) ≡ None → (n c : ℕ) → slice_get (code_of bundle).constants n ≡ Some c → length (slice_index_or (code_of bundle).values n []) ≡ length (leaf_classes (code_of bundle).graph c)
unfolding tables_of
values_long bundle checked n c h =
    let law = lawful bundle checked in
    let g = globals_of bundle in
    let t = table_of g bundle in
    let cs = constants_of g bundle in
    let entry = entry_of t g bundle n c h in
    let k : Constant = entry.0 in
    let low : k.of_type < length t.definitions = holds_at (λ (x : Constant). x.of_type < length t.definitions) cs n k law.typed entry.1 in
    let fewer : g.counts.written ≤ t.written = (let all = graph_counted g bundle refl in omega (arith, all)) in
    let noted : noted_type t g entry.2 ≡ class_of t.definitions (type_id g entry.2) =
    noted_number t g.counts.written (written_number (found g.names entry.2.text)) law.graph law.some fewer (λ j e. types_low bundle entry.2.text j e) in
    let class : class_of t.definitions k.of_type ≡ c = ap (class_of t.definitions) entry.3 ∙ sym noted ∙ entry.4 in
    fits_long t.definitions (leaves t.definitions k.of_type) (value_of t.definitions cs n) (all_fit t.definitions cs law n k entry.1)
    ∙ sym (length-map (leaves t.definitions k.of_type) (class_of t.definitions)) ∙ sym (class_long t.definitions law.graph k.of_type low) ∙ ap (λ (x : ℕ). length (leaf_classes t.definitions x)) class

pub is_known : (bundle : List Item) → first_unmet (check_demands bundle) ≡ None → IsKnown (code_of bundle)
unfolding tables_of
is_known bundle checked =
    let law = lawful bundle checked in
    let g = globals_of bundle in
    let w = graph_of g bundle in
    let long : length w ≤ length (complete w) = omega (arith, complete_long w) in
    let within : g.counts.written ≤ length (complete w) = written_within g bundle (record { definitions = complete w; written = length w }) refl refl in
    record {
      graph = law.graph;
      widths = law.widths;
      globals = globals_low (tables_of g bundle) law.graph law.some long bundle;
      types = λ name t e. let low = types_low bundle name t e in omega (arith, low, within);
      sizes = sized (code_of bundle).graph law.graph law.finite;
      constants = values_long bundle checked;
    }

pub narrow : (c : Code) → IsKnown c → AreNarrow c.graph
narrow c k = λ t w e. let both = k.widths t w e in omega (arith, both.1)

pub ruleset facts = (narrow)
