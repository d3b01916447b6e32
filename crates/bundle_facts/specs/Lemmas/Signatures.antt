-- The signatures of an accepted bundle: each entry is that of a signature of the graph, and two entries of one class are the same.
use Rattle.std.proofs.Common.{◌≡◌, ℕ, zero, suc, ◌+◌, ◌<◌, ◌≤◌, Bool, true, false, List, [], ◌∷◌, Option, Some, None, IsSomeAnd, nat_lt, slice_get, length, map, if◌then◌else◌, refl, sym, ◌∙◌, ap, subst, arith}
use Rattle.std.proofs.lemmas.Bool.{and_from}
use Rattle.std.proofs.lemmas.List.{length-append}
use Rattle.std.proofs.lemmas.Option.{slice_get_within}
use Rattle.demands.specs.Demands.{AllMet}
use Rattle.name_scopes.specs.Names.{Names, found}
use Rattle.ir_lex.specs.declared.name.Name.{Name}
use Rattle.ir_tree.specs.declared.definitions.Funcsig.{Funcsig}
use Rattle.ir_tree.specs.declared.items.Item.{Item}
use Rattle.ir_tree.specs.declared.items.Item.TheVariants as items
use Rattle.type_definitions.specs.declared.definition.TypeDef.{TypeDef}
use Rattle.type_definitions.specs.declared.definition.TypeDef.TheVariants.{FuncRef, Sig}
use Rattle.type_definitions.specs.Same.{same, IsGraph}
use Rattle.type_definitions.specs.Class.{class_of}
use Rattle.type_definitions.specs.Lemmas.Depth.{from_meets}
use Rattle.type_definitions.specs.Lemmas.Proved.{congruence, decided}
use Rattle.mu_types.specs.Graph.{Table}
use Rattle.bundle_names.specs.declared.globals.Counts.{Counts}
use Rattle.bundle_names.specs.declared.globals.Sort.{Sort}
use Rattle.bundle_names.specs.declared.globals.Sort.TheVariants as sorts
use Rattle.bundle_names.specs.declared.globals.Globals.{Globals}
use Rattle.bundle_names.specs.Globals.{no_globals, globals_of}
use Rattle.bundle_names.specs.Uses.{is_type, type_uses}
use Rattle.bundle_names.specs.Definitions.{items_demands}
use Rattle.bundle_names.specs.ItemUses.{item_uses}
use Rattle.check_tables.specs.declared.tables.Signature.{Signature}
use Rattle.check_tables.specs.declared.tables.Tables.{Tables}
use Rattle.check_tables.specs.Types.{class_like, definition_at, class_in, is_sig, funcref_at}
use Rattle.check_tables.specs.Lookups.{or_zero, written_number}
use Rattle.checked_code.specs.Graph.{within, type_id, type_ids, signature_id, types_of, signatures_of, graph_of, table_of}
use Rattle.checked_code.specs.Entries.{noted_type, noted_types, signature_entry, signature_entries}
use Rattle.bundle_laws.specs.Lemmas.Graph.{counted, get_right, written_at}
use Rattle.bundle_laws.specs.Lemmas.Bodies.{some_is}
use Rattle.bundle_facts.specs.Facts.{AreShaped, RefersTo, IsSignature, AreSameSignature}
use Rattle.bundle_facts.specs.Lemmas.Shapes.{class_shape}
use Rattle.bundle_facts.specs.Lemmas.Completed.{IsComplete}
use Rattle.bundle_facts.specs.Lemmas.References.{funcref_refers}
use Rattle.bundle_facts.specs.Lemmas.Every.{below_is}
use Rattle.bundle_facts.specs.Lemmas.Names.{IsLow, names_low, funcsigs, signature_number_is}

-- ---- classes of names

-- the class of a name that is that of a type
noted_one : (t : Table) (c : Counts) (o : Option Sort) → c.written ≤ t.written → ((v : Sort) → o ≡ Some v → IsLow c v) → is_type o ≡ true →
    or_zero (class_in t (written_number o)) ≡ class_of t.definitions (within c.written (written_number o))
noted_one t c None l low h = cc
noted_one t c (Some (sorts.Written n)) l low h =
    let own : n < c.written = low (sorts.Written n) refl in
    rw (below_is n t.written (omega (arith, l, own)), below_is n c.written own) refl
noted_one t c (Some (sorts.Signature n)) l low h = cc
noted_one t c (Some (sorts.Constant n)) l low h = cc
noted_one t c (Some (sorts.GlobalCell n)) l low h = cc
noted_one t c (Some (sorts.Function n)) l low h = cc

types_fewer : (bundle : List Item) → (globals_of bundle).counts.written ≤ (table_of (globals_of bundle) bundle).written
types_fewer bundle =
    let g = globals_of bundle in
    omega (arith, (counted bundle).types, length-append (types_of g bundle) (signatures_of g bundle))

pub noted_is : (bundle : List Item) (n : Name) → is_type (found (globals_of bundle).names n.text) ≡ true →
    noted_type (table_of (globals_of bundle) bundle) (globals_of bundle) n ≡ class_of (table_of (globals_of bundle) bundle).definitions (type_id (globals_of bundle) n)
noted_is bundle n h =
    let g = globals_of bundle in
    noted_one (table_of g bundle) g.counts (found g.names n.text) (types_fewer bundle) (λ v e. (names_low bundle).low n.text v e) h

pub noted_are : (bundle : List Item) (ns : List Name) → AllMet (type_uses (globals_of bundle).names ns) →
    noted_types (table_of (globals_of bundle) bundle) (globals_of bundle) ns ≡ map (class_of (table_of (globals_of bundle) bundle).definitions) (type_ids (globals_of bundle) ns)
noted_are bundle [] met = refl
noted_are bundle (n ∷ ns) met = let first = noted_is bundle n met.0.1 in let rest = noted_are bundle ns met.1 in cc

-- ---- entries

-- an entry is that of the signature at its place
is_entry : (t : Table) (g : Globals) (is : List Item) (m : ℕ) (s : Signature) → slice_get (signature_entries t g is) m ≡ Some s →
    (d : Funcsig) × (slice_get (funcsigs is) m ≡ Some d) × (signature_entry t g d ≡ s)
is_entry t g [] m s h = cc
is_entry t g (items.Typedef d ∷ is) m s h = is_entry t g is m s h
is_entry t g (items.Const d ∷ is) m s h = is_entry t g is m s h
is_entry t g (items.GlobalCell d ∷ is) m s h = is_entry t g is m s h
is_entry t g (items.Funcdecl d ∷ is) m s h = is_entry t g is m s h
is_entry t g (items.Funcdef d ∷ is) m s h = is_entry t g is m s h
is_entry t g (items.Funcsig d ∷ is) zero s h = (d, refl, some_is (signature_entry t g d) s h)
is_entry t g (items.Funcsig d ∷ is) (suc m) s h = is_entry t g is m s h

-- where a signature is written, its definition stands, its entry, and its names are those of types
signature_there : (g : Globals) (is : List Item) (m : ℕ) (d : Funcsig) → slice_get (funcsigs is) m ≡ Some d → slice_get (signatures_of g is) m ≡ Some (Sig (type_ids g d.takes) (type_ids g d.gives))
signature_there g [] m d h = cc
signature_there g (items.Typedef x ∷ is) m d h = signature_there g is m d h
signature_there g (items.Const x ∷ is) m d h = signature_there g is m d h
signature_there g (items.GlobalCell x ∷ is) m d h = signature_there g is m d h
signature_there g (items.Funcdecl x ∷ is) m d h = signature_there g is m d h
signature_there g (items.Funcdef x ∷ is) m d h = signature_there g is m d h
signature_there g (items.Funcsig x ∷ is) zero d h = ap (λ (y : Funcsig). Some (Sig (type_ids g y.takes) (type_ids g y.gives))) (some_is x d h)
signature_there g (items.Funcsig x ∷ is) (suc m) d h = signature_there g is m d h

signature_uses : (es : Names Sort) (is : List Item) (m : ℕ) (d : Funcsig) → AllMet (item_uses es is) → slice_get (funcsigs is) m ≡ Some d → AllMet (type_uses es d.takes) × AllMet (type_uses es d.gives)
signature_uses es [] m d met h = cc
signature_uses es (items.Typedef x ∷ is) m d met h = signature_uses es is m d met.1 h
signature_uses es (items.Const x ∷ is) m d met h = signature_uses es is m d met.1 h
signature_uses es (items.GlobalCell x ∷ is) m d met h = signature_uses es is m d met.1 h
signature_uses es (items.Funcdecl x ∷ is) m d met h = signature_uses es is m d met.1 h
signature_uses es (items.Funcdef x ∷ is) m d met h = signature_uses es is m d met.1 h
signature_uses es (items.Funcsig x ∷ is) zero d met h = subst (λ (y : Funcsig). AllMet (type_uses es y.takes) × AllMet (type_uses es y.gives)) (some_is x d h) met.0
signature_uses es (items.Funcsig x ∷ is) (suc m) d met h = signature_uses es is m d met.1 h

-- an entry by the graph
pub record EntryOf (t : Table) (s : Signature) : Type 0 where
  pub number : ℕ
  pub takes : List ℕ
  pub gives : List ℕ
  pub within : number < length t.definitions
  pub definition : slice_get t.definitions number ≡ Some (Sig takes gives)
  pub class : class_of t.definitions number ≡ s.class
  pub funcref : funcref_at t number ≡ Some s.funcref
  pub takes_are : s.takes ≡ map (class_of t.definitions) takes
  pub gives_are : s.gives ≡ map (class_of t.definitions) gives

own_id : (g : Globals) (n : Name) (m : ℕ) → found g.names n.text ≡ Some (sorts.Signature m) → m < g.counts.signatures → signature_id g n ≡ g.counts.written + m
own_id g n m e l = rw (e, below_is m g.counts.signatures l) refl

known : (b : Bool) (c : ℕ) → b ≡ true → (if b then Some c else None) ≡ Some (or_zero (if b then Some c else None))
known true c h = refl
known false c h = cc

written_entry : (bundle : List Item) (k : ℕ) (d : Funcsig) → IsComplete (table_of (globals_of bundle) bundle) → signature_id (globals_of bundle) d.name ≡ k → k < length (graph_of (globals_of bundle) bundle) →
    slice_get (graph_of (globals_of bundle) bundle) k ≡ Some (Sig (type_ids (globals_of bundle) d.takes) (type_ids (globals_of bundle) d.gives)) →
    AllMet (type_uses (globals_of bundle).names d.takes) → AllMet (type_uses (globals_of bundle).names d.gives) → EntryOf (table_of (globals_of bundle) bundle) (signature_entry (table_of (globals_of bundle) bundle) (globals_of bundle) d)
written_entry bundle k d complete id low there takes gives =
    let g = globals_of bundle in
    let t = table_of g bundle in
    let at : definition_at t k ≡ Some (Sig (type_ids g d.takes) (type_ids g d.gives)) = written_at g bundle k low ∙ there in
    let low_too : nat_lt k t.written ≡ true = below_is k (length (graph_of g bundle)) low in
    record {
      number = k;
      takes = type_ids g d.takes;
      gives = type_ids g d.gives;
      within = omega (arith, low, complete.written);
      definition = rw low_too at at;
      class = rw (id, low_too) refl;
      funcref = known (is_sig (definition_at t k)) (class_like t.definitions (FuncRef k)) (ap is_sig at) ∙ ap (λ (n : ℕ). Some (or_zero (funcref_at t n))) (sym id);
      takes_are = noted_are bundle d.takes takes;
      gives_are = noted_are bundle d.gives gives;
    }

pub entry_of : (bundle : List Item) (m : ℕ) (s : Signature) → IsComplete (table_of (globals_of bundle) bundle) → AllMet (items_demands no_globals bundle) → AllMet (item_uses (globals_of bundle).names bundle) →
    slice_get (signature_entries (table_of (globals_of bundle) bundle) (globals_of bundle) bundle) m ≡ Some s → EntryOf (table_of (globals_of bundle) bundle) s
entry_of bundle m s complete definitions uses h =
    let g = globals_of bundle in
    let t = table_of g bundle in
    let e = is_entry t g bundle m s h in
    let d : Funcsig = e.0 in
    let there : slice_get (signatures_of g bundle) m ≡ Some (Sig (type_ids g d.takes) (type_ids g d.gives)) = signature_there g bundle m d e.1 in
    let low : m < length (signatures_of g bundle) = slice_get_within (signatures_of g bundle) m (Sig (type_ids g d.takes) (type_ids g d.gives)) there in
    let id : signature_id g d.name ≡ g.counts.written + m = own_id g d.name m (signature_number_is bundle m d definitions e.1) (omega (arith, low, (counted bundle).signatures)) in
    let k : g.counts.written + m ≡ length (types_of g bundle) + m = omega (arith, (counted bundle).types) in
    let met = signature_uses g.names bundle m d uses e.1 in
    subst (λ (x : Signature). EntryOf t x) e.2
    (written_entry bundle (length (types_of g bundle) + m) d complete (id ∙ k) (omega (arith, low, length-append (types_of g bundle) (signatures_of g bundle)))
    (get_right (types_of g bundle) (signatures_of g bundle) m ∙ there) met.0 met.1)

-- ---- what entries say

pub is_signature : (p : Tables) (s : Signature) → IsComplete p.types → EntryOf p.types s → IsSignature p s
is_signature p s complete e =
    record {
      number = e.number;
      takes = e.takes;
      gives = e.gives;
      definition = e.definition;
      takes_are = e.takes_are;
      gives_are = e.gives_are;
      class = e.class;
      funcref = funcref_refers p.types e.number s.funcref complete e.funcref;
    }

-- classes of references to functions of signatures of one class
pub funcref_decided : (g : List TypeDef) → IsGraph g → (c d t u : ℕ) → c < length g → d < length g → RefersTo g c FuncRef t → RefersTo g d FuncRef u → class_of g t ≡ class_of g u → c ≡ d
funcref_decided g i c d t u lc ld r q e =
    let target : class_of g r.target ≡ class_of g q.target = r.class ∙ e ∙ sym q.class in
    let same_target : same g r.target q.target ≡ true = ((decided g i).equal r.target q.target r.within q.within).0 target in
    let same_both : same g c d ≡ true =
    (congruence g i c d lc ld).1 (from_meets g (same g) c d (record {
      one = FuncRef r.target;
      other = FuncRef q.target;
      at_one = r.definition;
      at_other = q.definition;
      kind = refl;
      sized = refl;
      args = and_from (same g r.target q.target) true same_target refl;
    })) in
    sym r.own ∙ ((decided g i).equal c d lc ld).1 same_both ∙ q.own

signature_shape : (g : List TypeDef) (o : Option TypeDef) (ts gs us vs : List ℕ) → o ≡ Some (Sig us vs) → IsSomeAnd o (AreShaped g (Sig ts gs)) →
    (map (class_of g) us ≡ map (class_of g) ts) × (map (class_of g) vs ≡ map (class_of g) gs)
signature_shape g o ts gs us vs e h = subst (λ (x : Option TypeDef). IsSomeAnd x (AreShaped g (Sig ts gs))) e h

pub same_signature : (t : Table) (s r : Signature) → IsComplete t → EntryOf t s → EntryOf t r → s.class ≡ r.class → AreSameSignature s r
same_signature t s r complete e f h =
    let g = t.definitions in
    let class : class_of g e.number ≡ class_of g f.number = e.class ∙ h ∙ sym f.class in
    let shape = signature_shape g (slice_get g f.number) e.takes e.gives f.takes f.gives f.definition (class_shape g complete.graph e.number f.number (Sig e.takes e.gives) e.within f.within class e.definition) in
    let one : RefersTo g s.funcref FuncRef e.number = funcref_refers t e.number s.funcref complete e.funcref in
    let other : RefersTo g r.funcref FuncRef f.number = funcref_refers t f.number r.funcref complete f.funcref in
    record {
      takes = e.takes_are ∙ sym shape.0 ∙ sym f.takes_are;
      gives = e.gives_are ∙ sym shape.1 ∙ sym f.gives_are;
      funcref = funcref_decided g complete.graph s.funcref r.funcref e.number f.number (slice_get_within g s.funcref (FuncRef one.target) one.definition) (slice_get_within g r.funcref (FuncRef other.target) other.definition) one other class;
    }

target_is : (o : Option TypeDef) (a b : ℕ) → o ≡ Some (FuncRef a) → o ≡ Some (FuncRef b) → a ≡ b
target_is o a b e f = cc

pub same_class : (p : Tables) (s r : Signature) → IsSignature p s → IsSignature p r → s.funcref ≡ r.funcref → s.class ≡ r.class
same_class p s r e f h =
    let g = p.types.definitions in
    let target : e.funcref.target ≡ f.funcref.target = target_is (slice_get g r.funcref) e.funcref.target f.funcref.target (subst (λ (c : ℕ). slice_get g c ≡ Some (FuncRef e.funcref.target)) h e.funcref.definition) f.funcref.definition in
    sym e.class ∙ sym e.funcref.class ∙ ap (class_of g) target ∙ f.funcref.class ∙ f.class
