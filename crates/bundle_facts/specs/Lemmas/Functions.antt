-- The functions of an accepted bundle: each has a signature, and what refers to it has the class of that.
use Rattle.std.proofs.Common.{◌≡◌, ℕ, zero, suc, ◌<◌, Bool, true, false, List, [], ◌∷◌, Option, Some, None, IsSomeAnd, slice_get, length, is_some, option_map, if◌then◌else◌, refl, sym, ◌∙◌, ap, subst, arith}
use Rattle.std.specs.Prelude.{unwrap_or, option_and_then}
use Rattle.std.proofs.lemmas.Option.{slice_get-map}
use Rattle.demands.specs.Demands.{AllMet, first_unmet}
use Rattle.name_scopes.specs.Names.{found}
use Rattle.demands.specs.Lemmas.Meeting.{all_met}
use Rattle.ir_lex.specs.declared.name.Name.{Name}
use Rattle.ir_tree.specs.declared.definitions.Funcdecl.{Funcdecl}
use Rattle.ir_tree.specs.declared.items.Item.{Item}
use Rattle.ir_tree.specs.declared.items.Item.TheVariants as items
use Rattle.type_definitions.specs.declared.definition.TypeDef.{TypeDef}
use Rattle.type_definitions.specs.declared.definition.TypeDef.TheVariants.{FuncRef}
use Rattle.type_definitions.specs.Class.{class_of}
use Rattle.mu_types.specs.Graph.{Table}
use Rattle.mu_values.specs.declared.scalars.Scalar.TheVariants.{Func}
use Rattle.bundle_names.specs.declared.globals.Counts.{Counts}
use Rattle.bundle_names.specs.declared.globals.Sort.{Sort}
use Rattle.bundle_names.specs.declared.globals.Sort.TheVariants as sorts
use Rattle.bundle_names.specs.declared.globals.Globals.{Globals}
use Rattle.bundle_names.specs.Globals.{globals_of}
use Rattle.bundle_names.specs.Naming.{name_demands}
use Rattle.bundle_names.specs.Uses.{is_signature}
use Rattle.bundle_names.specs.ItemUses.{item_uses}
use Rattle.check_tables.specs.declared.tables.Signature.{Signature}
use Rattle.check_tables.specs.declared.tables.Tables.{Tables}
use Rattle.check_tables.specs.Lookups.{or_zero, signature_number, signature_in, funcref_of, takes_of, gives_of, noted_classes}
use Rattle.check_tables.specs.Lookups as lookups
use Rattle.checked_code.specs.Graph.{signatures_of, table_of}
use Rattle.checked_code.specs.Entries.{signature_entries, noted_signature, defined_signatures, is_function, declared_entry, function_entries, tables_of}
use Rattle.checked_code.specs.declared.blocks.Function.{Function}
use Rattle.checked_code.specs.Checking.{bundle_tables, bundle_functions, check_demands}
use Rattle.bundle_laws.specs.Lemmas.Graph.{counted}
use Rattle.typed_heap.specs.Places.{with_some}
use Rattle.typed_heap.specs.Fits.{World, DefinitionFits, ScalarFits, ScalarsFit, ValueFits, signature_classes}
use Rattle.mu_model.specs.Types.{signature_of, classes_taken, classes_given}
use Rattle.model_numbers.specs.Laws.{definition_from}
use Rattle.model_numbers.specs.Lemmas.Functions.{definition_same}
use Rattle.bundle_laws.specs.Lemmas.Bodies.{some_is}
use Rattle.bundle_facts.specs.Facts.{IsSignature, AreSameSignature}
use Rattle.bundle_facts.specs.Lemmas.Completed.{IsComplete, is_complete}
use Rattle.bundle_facts.specs.Lemmas.Names.{IsLow, names_low}
use Rattle.bundle_facts.specs.Lemmas.Signatures.{EntryOf, entry_of, same_signature}
use Rattle.bundle_facts.specs.Lemmas.Signatures as entries

-- ---- each function has the number of a signature

-- the number of the signature with a name, which is that of one
pub record IsNoted (g : Globals) (s : ℕ) : Type 0 where
  pub name : Name
  pub is : s ≡ noted_signature g name
  pub signature : is_signature (found g.names name.text) ≡ true

defined_noted : (g : Globals) (is : List Item) (m s : ℕ) → AllMet (item_uses g.names is) → slice_get (defined_signatures g is) m ≡ Some s → IsNoted g s
defined_noted g [] m s met h = cc
defined_noted g (items.Typedef d ∷ is) m s met h = defined_noted g is m s met.1 h
defined_noted g (items.Funcsig d ∷ is) m s met h = defined_noted g is m s met.1 h
defined_noted g (items.Const d ∷ is) m s met h = defined_noted g is m s met.1 h
defined_noted g (items.GlobalCell d ∷ is) m s met h = defined_noted g is m s met.1 h
defined_noted g (items.Funcdecl d ∷ is) m s met h = defined_noted g is m s met.1 h
defined_noted g (items.Funcdef d ∷ is) zero s met h = record { name = d.signature; is = sym (some_is (noted_signature g d.signature) s h); signature = met.0.0.1 }
defined_noted g (items.Funcdef d ∷ is) (suc m) s met h = defined_noted g is m s met.1 h

declared_noted : (g : Globals) (defined : List ℕ) (d : Funcdecl) → ((m s : ℕ) → slice_get defined m ≡ Some s → IsNoted g s) → is_signature (found g.names d.signature.text) ≡ true →
    IsNoted g (declared_entry g defined d)
declared_noted g defined d known h = by (found g.defined d.name.text)
  where
    own : IsNoted g (noted_signature g d.signature)
    own = record { name = d.signature; is = refl; signature = h }

    there : (m : ℕ) (o : Option ℕ) → slice_get defined m ≡ o → IsNoted g (unwrap_or o (noted_signature g d.signature))
    there m None e = own
    there m (Some s) e = known m s e

    by : (o : Option ℕ) → IsNoted g (unwrap_or (option_and_then (slice_get defined) o) (noted_signature g d.signature))
    by None = own
    by (Some m) = there m (slice_get defined m) refl

next_noted : (g : Globals) (b : Bool) (first : ℕ) (more : ℕ → List ℕ) (k j s : ℕ) → IsNoted g first → ((n i : ℕ) → slice_get (more n) i ≡ Some s → IsNoted g s) →
    slice_get (if b then first ∷ more (suc k) else more k) j ≡ Some s → IsNoted g s
next_noted g false first more k j s own rest h = rest k j h
next_noted g true first more k zero s own rest h = subst (λ (x : ℕ). IsNoted g x) (some_is first s h) own
next_noted g true first more k (suc j) s own rest h = rest (suc k) j h

functions_noted : (g : Globals) (defined : List ℕ) (k : ℕ) (is : List Item) (j s : ℕ) → ((m s : ℕ) → slice_get defined m ≡ Some s → IsNoted g s) → AllMet (item_uses g.names is) →
    slice_get (function_entries g defined k is) j ≡ Some s → IsNoted g s
functions_noted g defined k [] j s known met h = cc
functions_noted g defined k (items.Typedef d ∷ is) j s known met h = functions_noted g defined k is j s known met.1 h
functions_noted g defined k (items.Funcsig d ∷ is) j s known met h = functions_noted g defined k is j s known met.1 h
functions_noted g defined k (items.Const d ∷ is) j s known met h = functions_noted g defined k is j s known met.1 h
functions_noted g defined k (items.GlobalCell d ∷ is) j s known met h = functions_noted g defined k is j s known met.1 h
functions_noted g defined k (items.Funcdecl d ∷ is) j s known met h =
    next_noted g (is_function (found g.names d.name.text) k) (declared_entry g defined d) (λ n. function_entries g defined n is) k j s (declared_noted g defined d known met.0.1)
    (λ n i e. functions_noted g defined n is i s known met.1 e) h
functions_noted g defined k (items.Funcdef d ∷ is) j s known met h =
    next_noted g (is_function (found g.names d.name.text) k) (noted_signature g d.signature) (λ n. function_entries g defined n is) k j s
    (record { name = d.signature; is = refl; signature = met.0.0.1 })
    (λ n i e. functions_noted g defined n is i s known met.1 e) h

-- ---- and there is that signature

as_many_entries : (t : Table) (g h : Globals) (is : List Item) → length (signature_entries t g is) ≡ length (signatures_of h is)
as_many_entries t g h [] = refl
as_many_entries t g h (items.Typedef d ∷ is) = as_many_entries t g h is
as_many_entries t g h (items.Funcsig d ∷ is) = ap (λ (n : ℕ). suc n) (as_many_entries t g h is)
as_many_entries t g h (items.Const d ∷ is) = as_many_entries t g h is
as_many_entries t g h (items.GlobalCell d ∷ is) = as_many_entries t g h is
as_many_entries t g h (items.Funcdecl d ∷ is) = as_many_entries t g h is
as_many_entries t g h (items.Funcdef d ∷ is) = as_many_entries t g h is

is_there : {T : Type 0} (xs : List T) (n : ℕ) → n < length xs → (x : T) × (slice_get xs n ≡ Some x)
is_there [] n l = absurd (omega (arith, l))
is_there (x ∷ xs) zero l = (x, refl)
is_there (x ∷ xs) (suc n) l = is_there xs n (omega (arith, l))

-- the number of the signature with a name is below the number of signatures
number_low : (c : Counts) (o : Option Sort) → ((v : Sort) → o ≡ Some v → IsLow c v) → is_signature o ≡ true → (n : ℕ) × (signature_number o ≡ Some n) × (n < c.signatures)
number_low c None low h = cc
number_low c (Some (sorts.Written n)) low h = cc
number_low c (Some (sorts.Signature n)) low h = (n, refl, low (sorts.Signature n) refl)
number_low c (Some (sorts.Constant n)) low h = cc
number_low c (Some (sorts.GlobalCell n)) low h = cc
number_low c (Some (sorts.Function n)) low h = cc

-- the signature with a name that is that of one
pub record NamedSignature (bundle : List Item) (n : Name) : Type 0 where
  pub number : ℕ
  pub entry : Signature
  pub is : signature_number (found (globals_of bundle).names n.text) ≡ Some number
  pub there : slice_get (signature_entries (table_of (globals_of bundle) bundle) (globals_of bundle) bundle) number ≡ Some entry

pub named_signature : (bundle : List Item) (n : Name) → is_signature (found (globals_of bundle).names n.text) ≡ true → NamedSignature bundle n
named_signature bundle n h =
    let g = globals_of bundle in
    let number = number_low g.counts (found g.names n.text) (λ v e. (names_low bundle).low n.text v e) h in
    let low : number.0 < length (signature_entries (table_of g bundle) g bundle) = omega (arith, number.2, (counted bundle).signatures, as_many_entries (table_of g bundle) g g bundle) in
    let there = is_there (signature_entries (table_of g bundle) g bundle) number.0 low in
    record { number = number.0; entry = there.0; is = number.1; there = there.1 }

-- ---- tables whose numbers lead to one another

pub record AreLinked (p : Tables) : Type 0 where
  pub complete : IsComplete p.types
  pub entry : (m : ℕ) (s : Signature) → slice_get p.signatures m ≡ Some s → EntryOf p.types s
  pub function : (f s : ℕ) → slice_get p.functions f ≡ Some s → (r : Signature) × (slice_get p.signatures s ≡ Some r)

pub are_linked : (bundle : List Item) → first_unmet (name_demands bundle) ≡ None → first_unmet (check_demands bundle) ≡ None → AreLinked (bundle_tables bundle)
unfolding tables_of
are_linked bundle names checked =
    let met = all_met (name_demands bundle) names in
    let g = globals_of bundle in
    let complete = is_complete bundle checked in
    record {
      complete = complete;
      entry = λ m s h. entry_of bundle m s complete met.0 met.1 h;
      function = λ f s h.
          let noted : IsNoted g s = functions_noted g (defined_signatures g bundle) 0 bundle f s (λ m r e. defined_noted g bundle m r met.1 e) met.1 h in
          let named : NamedSignature bundle noted.name = named_signature bundle noted.name noted.signature in
          let is : named.number ≡ s = ap or_zero (sym named.is) ∙ sym noted.is in
          (named.entry, ap (λ (n : ℕ). slice_get (signature_entries (table_of g bundle) g bundle) n) (sym is) ∙ named.there);
    }

-- ---- what refers to a function

pub signature_is : (p : Tables) (f s : ℕ) (r : Signature) → slice_get p.functions f ≡ Some s → slice_get p.signatures s ≡ Some r → signature_of p f ≡ Some r
signature_is p f s r e h = ap (λ (o : Option ℕ). signature_in p o) e ∙ h

class_is : (p : Tables) (f s : ℕ) (r : Signature) → slice_get p.functions f ≡ Some s → slice_get p.signatures s ≡ Some r → slice_get (signature_classes p) f ≡ Some r.class
class_is p f s r e h =
    let of : ℕ → ℕ = λ n. lookups.noted_signature (slice_get p.signatures n) in
    slice_get-map of p.functions f ∙ ap (λ (o : Option ℕ). option_map of o) e ∙ ap (λ (o : Option Signature). Some (lookups.noted_signature o)) h

-- a function by its signature
pub record FunctionOf (p : Tables) (f : ℕ) (r : Signature) : Type 0 where
  pub number : ℕ
  pub there : slice_get p.functions f ≡ Some number
  pub entry : slice_get p.signatures number ≡ Some r
  pub signature : signature_of p f ≡ Some r
  pub class : slice_get (signature_classes p) f ≡ Some r.class

pub function_at : (p : Tables) (f s : ℕ) → AreLinked p → slice_get p.functions f ≡ Some s → (r : Signature) × FunctionOf p f r
function_at p f s linked e =
    let found = linked.function f s e in
    (found.0, record { number = s; there = e; entry = found.1; signature = signature_is p f s found.0 e found.1; class = class_is p f s found.0 e found.1 })

class_known : (p : Tables) (f c : ℕ) → AreLinked p → slice_get (signature_classes p) f ≡ Some c → (r : Signature) × FunctionOf p f r × (r.class ≡ c)
class_known p f c linked h = by (slice_get p.functions f) refl
  where
    by : (o : Option ℕ) → slice_get p.functions f ≡ o → (r : Signature) × FunctionOf p f r × (r.class ≡ c)
    by None e =
        let of : ℕ → ℕ = λ n. lookups.noted_signature (slice_get p.signatures n) in
        let none : slice_get (signature_classes p) f ≡ None = slice_get-map of p.functions f ∙ ap (λ (o : Option ℕ). option_map of o) e in
        let z : None ≡ Some c = sym none ∙ h in cc
    by (Some s) e =
        let function = function_at p f s linked e in
        let same : Some function.0.class ≡ Some c = sym function.1.class ∙ h in
        (function.0, function.1, some_is function.0.class c same)

pub of_class : (p : Tables) (n f : ℕ) (z : Signature) → AreLinked p → slice_get p.signatures n ≡ Some z → slice_get (signature_classes p) f ≡ Some z.class →
    (classes_taken p f ≡ z.takes) × (classes_given p f ≡ z.gives)
of_class p n f z linked e h =
    let function = class_known p f z.class linked h in
    let r : Signature = function.0 in
    let same : AreSameSignature r z = same_signature p.types r z linked.complete (linked.entry function.1.number r function.1.entry) (linked.entry n z e) function.2 in
    (ap (λ (o : Option Signature). noted_classes (takes_of o)) function.1.signature ∙ same.takes, ap (λ (o : Option Signature). noted_classes (gives_of o)) function.1.signature ∙ same.gives)

told_class : (o : Option ℕ) (c : ℕ) → IsSomeAnd o (λ g. g ≡ c) → o ≡ Some c
told_class None c h = absurd h
told_class (Some g) c h = ap (λ (n : ℕ). Some n) h

pub called_class : (p : Tables) (w : World) (n f : ℕ) (z : Signature) → AreLinked p → slice_get p.signatures n ≡ Some z → w.signatures ≡ signature_classes p →
    ScalarFits p.types.definitions w z.funcref (Func f) → slice_get (signature_classes p) f ≡ Some z.class
called_class p w n f z linked e same h =
    let g = p.types.definitions in
    let own : IsSignature p z = entries.is_signature p z linked.complete (linked.entry n z e) in
    let fits : DefinitionFits g w (FuncRef own.funcref.target) (Func f) = subst (λ (o : Option TypeDef). IsSomeAnd o (λ d. DefinitionFits g w d (Func f))) own.funcref.definition h in
    ap (λ (cs : List ℕ). slice_get cs f) (sym same) ∙ told_class (slice_get w.signatures f) (class_of g own.funcref.target) fits ∙ ap (λ (c : ℕ). Some c) (own.funcref.class ∙ own.class)

function_scalar : (p : Tables) (w : World) (f : ℕ) (r : Signature) → w.signatures ≡ signature_classes p → IsSignature p r → FunctionOf p f r → ScalarFits p.types.definitions w r.funcref (Func f)
function_scalar p w f r same own function =
    let g = p.types.definitions in
    let class : slice_get w.signatures f ≡ Some r.class = ap (λ (cs : List ℕ). slice_get cs f) same ∙ function.class in
    let told : r.class ≡ class_of g own.funcref.target = sym (own.funcref.class ∙ own.class) in
    rw (own.funcref.definition, class) told

pub function_fits : (p : Tables) (w : World) (f c : ℕ) → AreLinked p → w.signatures ≡ signature_classes p → funcref_of (signature_of p f) ≡ Some c → ValueFits p.types.definitions w c (Func f ∷ [])
function_fits p w f c linked same h = by (slice_get p.functions f) refl h
  where
    at : (r : Signature) → FunctionOf p f r → r.funcref ≡ c → ValueFits p.types.definitions w c (Func f ∷ [])
    at r function e =
        let own : IsSignature p r = entries.is_signature p r linked.complete (linked.entry function.number r function.entry) in
        let leaf : ScalarsFit p.types.definitions w (r.funcref ∷ []) (Func f ∷ []) = (function_scalar p w f r same own function, tt) in
        let fits : ValueFits p.types.definitions w r.funcref (Func f ∷ []) = subst (λ (cs : List ℕ). ScalarsFit p.types.definitions w cs (Func f ∷ [])) (sym own.funcref.leaf) leaf in
        subst (λ (x : ℕ). ValueFits p.types.definitions w x (Func f ∷ [])) e fits

    by : (o : Option ℕ) → slice_get p.functions f ≡ o → funcref_of (signature_in p o) ≡ Some c → ValueFits p.types.definitions w c (Func f ∷ [])
    by None e k = cc
    by (Some s) e k =
        let function = function_at p f s linked e in
        let told : Some function.0.funcref ≡ Some c = ap funcref_of (sym function.1.entry) ∙ ap (λ (n : ℕ). funcref_of (slice_get p.signatures n)) (number_is function.1.number s function.1.there e) ∙ k in
        at function.0 function.1 (some_is function.0.funcref c told)
      where
        number_is : (a b : ℕ) → slice_get p.functions f ≡ Some a → slice_get p.functions f ≡ Some b → a ≡ b
        number_is a b x y = cc

-- ---- the functions of the code are there

pub both_there : (bundle : List Item) (f : ℕ) → is_some (slice_get (bundle_tables bundle).functions f) ≡ is_some (slice_get (bundle_functions bundle) f)
both_there bundle f = by (slice_get (bundle_tables bundle).functions f) (slice_get (bundle_functions bundle) f) (definition_same bundle f)
  where
    by : (s : Option ℕ) (o : Option Function) → with_some s (λ g. Some (definition_from (globals_of bundle) f 0 bundle)) ≡ with_some o (λ x. Some x.first) → is_some s ≡ is_some o
    by None None e = refl
    by None (Some x) e = cc
    by (Some s) None e = cc
    by (Some s) (Some x) e = refl
