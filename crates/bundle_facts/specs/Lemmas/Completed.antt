-- The tables of an accepted bundle: the graph of its types is finite, and has a reference to each type and to each signature.
use Rattle.std.proofs.Common.{◌≡◌, ℕ, zero, suc, ◌+◌, ◌<◌, ◌≤◌, Bool, true, false, List, [], ◌∷◌, ◌++◌, Option, Some, None, nat_lt, slice_get, length, if◌then◌else◌, refl, sym, ◌∙◌, ap, subst, append_assoc, arith}
use Rattle.std.proofs.lemmas.List.{length-append}
use Rattle.demands.specs.Demands.{first_unmet}
use Rattle.demands.specs.Lemmas.Meeting.{both_met}
use Rattle.ir_tree.specs.declared.items.Item.{Item}
use Rattle.type_definitions.specs.declared.definition.TypeDef.{TypeDef}
use Rattle.type_definitions.specs.declared.definition.TypeDef.TheVariants.{Int, Struct, Array, Hybrid, Void, Ref, Iref, FuncRef, StackRef, ThreadRef, Sig}
use Rattle.type_definitions.specs.Same.{IsGraph}
use Rattle.type_definitions.specs.Laws.{IsFinite}
use Rattle.mu_types.specs.Graph.{Table}
use Rattle.mu_types.specs.Implied.{references, references_from, complete}
use Rattle.mu_types.specs.CompleteLaws.{headed}
use Rattle.check_tables.specs.Laws.{AreDefined}
use Rattle.check_tables.specs.Lemmas.Defined.{are_defined}
use Rattle.mu_values.specs.Constants.{width_of}
use Rattle.check_tables.specs.Types.{definition_at, is_type_there, is_sig}
use Rattle.bundle_names.specs.Globals.{globals_of}
use Rattle.checked_code.specs.Graph.{graph_of}
use Rattle.checked_code.specs.Entries.{tables_of}
use Rattle.checked_code.specs.Rules.{item_demands}
use Rattle.checked_code.specs.Constants.{constants_of}
use Rattle.checked_code.specs.ConstantMembers.{Lawful}
use Rattle.checked_code.specs.Lemmas.ConstantsAccepted.{accepted}
use Rattle.checked_code.specs.Checking.{bundle_tables, check_demands}
use Rattle.checked_code.specs.Functions.{functions_demands}

-- ---- lists

pub get_left : {T : Type 0} (xs ys : List T) (n : ℕ) → n < length xs → slice_get (xs ++ ys) n ≡ slice_get xs n
get_left [] ys n l = absurd (omega (arith, l))
get_left (x ∷ xs) ys zero l = refl
get_left (x ∷ xs) ys (suc n) l = get_left xs ys n (omega (arith, l))

-- there is a type with this definition
pub record StandsIn (g : List TypeDef) (d : TypeDef) : Type 0 where
  pub at : ℕ
  pub there : slice_get g at ≡ Some d

before : (xs ys : List TypeDef) (d : TypeDef) → StandsIn xs d → StandsIn (xs ++ ys) d
before xs ys d s = by xs s.at s.there
  where
    by : (xs : List TypeDef) (n : ℕ) → slice_get xs n ≡ Some d → StandsIn (xs ++ ys) d
    by [] n h = cc
    by (x ∷ xs) zero h = record { at = 0; there = h }
    by (x ∷ xs) (suc n) h = let more : StandsIn (xs ++ ys) d = by xs n h in record { at = suc more.at; there = more.there }

behind : (xs ys : List TypeDef) (d : TypeDef) → StandsIn ys d → StandsIn (xs ++ ys) d
behind [] ys d s = s
behind (x ∷ xs) ys d s = let more : StandsIn (xs ++ ys) d = behind xs ys d s in record { at = suc more.at; there = more.there }

-- ---- references

reference_from : (from : ℕ) (ds : List TypeDef) (n : ℕ) (d r : TypeDef) → slice_get ds n ≡ Some d → StandsIn (references (from + n) d) r → StandsIn (references_from from ds) r
reference_from from [] n d r e s = cc
reference_from from (x ∷ ds) zero d r e s =
    let z : from + 0 ≡ from = omega arith in
    let same : d ≡ x = cc in
    before (references from x) (references_from (suc from) ds) r (subst (λ (k : ℕ). StandsIn (references k x) r) z (subst (λ (y : TypeDef). StandsIn (references (from + 0) y) r) same s))
reference_from from (x ∷ ds) (suc n) d r e s =
    let z : from + suc n ≡ suc from + n = omega arith in
    behind (references from x) (references_from (suc from) ds) r (reference_from (suc from) ds n d r e (subst (λ (k : ℕ). StandsIn (references k d) r) z s))

pub reference_in : (w : List TypeDef) (n : ℕ) (d r : TypeDef) → n < length w → slice_get (complete w) n ≡ Some d → StandsIn (references n d) r → StandsIn (complete w) r
reference_in w n d r l e s =
    let four = Int 1 ∷ Int 32 ∷ StackRef ∷ ThreadRef ∷ [] in
    let refs = references_from 0 (w ++ Void ∷ []) in
    let z : n ≡ 0 + n = omega arith in
    let first : slice_get (w ++ Void ∷ []) n ≡ Some d =
    sym (get_left (w ++ Void ∷ []) (four ++ refs) n (omega (arith, l, length-append w (Void ∷ []))))
    ∙ sym (ap (λ (xs : List TypeDef). slice_get xs n) (append_assoc (w ++ Void ∷ []) four refs)) ∙ e in
    behind (w ++ Void ∷ [] ++ four) refs r (reference_from 0 (w ++ Void ∷ []) n d r first (subst (λ (k : ℕ). StandsIn (references k d) r) z s))

void_behind : (w : List TypeDef) → slice_get (w ++ Void ∷ []) (length w) ≡ Some Void
void_behind [] = refl
void_behind (d ∷ w) = void_behind w

pub void_in : (w : List TypeDef) → StandsIn (complete w) (Ref (length w))
void_in w =
    let four = Int 1 ∷ Int 32 ∷ StackRef ∷ ThreadRef ∷ [] in
    let z : 0 + length w ≡ length w = omega arith in
    behind (w ++ Void ∷ [] ++ four) (references_from 0 (w ++ Void ∷ [])) (Ref (length w))
    (reference_from 0 (w ++ Void ∷ []) (length w) Void (Ref (length w)) (void_behind w) (record { at = 0; there = ap (λ (n : ℕ). Some (Ref n)) z }))

pub is_below : (n many : ℕ) → nat_lt n many ≡ true → n < many
is_below n many e = grind (arith, e)

-- what is written under a number where a test is passed that nothing passes
pub written_there : (p : Table) (t : ℕ) (test : Option TypeDef → Bool) → test None ≡ false → test (definition_at p t) ≡ true →
    (d : TypeDef) × (t < p.written) × (slice_get p.definitions t ≡ Some d) × (test (Some d) ≡ true)
written_there p t test none h = by (nat_lt t p.written) (slice_get p.definitions t) refl refl h
  where
    by : (b : Bool) (o : Option TypeDef) → nat_lt t p.written ≡ b → slice_get p.definitions t ≡ o → test (if b then o else None) ≡ true →
        (d : TypeDef) × (t < p.written) × (slice_get p.definitions t ≡ Some d) × (test (Some d) ≡ true)
    by false o e f k = let z : false ≡ true = sym none ∙ k in cc
    by true None e f k = let z : false ≡ true = sym none ∙ k in cc
    by true (Some d) e f k = (d, is_below t p.written e, f, k)

pub ref_stands : (t : ℕ) (d : TypeDef) → is_type_there (Some d) ≡ true → StandsIn (references t d) (Ref t) × StandsIn (references t d) (Iref t)
ref_stands t (Sig takes gives) h = cc
ref_stands t (Int w) h = (record { at = 0; there = refl }, record { at = 1; there = refl })
ref_stands t (Struct fields) h = (record { at = 0; there = refl }, record { at = 1; there = refl })
ref_stands t (Array element size) h = (record { at = 0; there = refl }, record { at = 1; there = refl })
ref_stands t (Hybrid fixed element) h = (record { at = 0; there = refl }, record { at = 1; there = refl })
ref_stands t Void h = (record { at = 0; there = refl }, record { at = 1; there = refl })
ref_stands t (Ref x) h = (record { at = 0; there = refl }, record { at = 1; there = refl })
ref_stands t (Iref x) h = (record { at = 0; there = refl }, record { at = 1; there = refl })
ref_stands t (FuncRef x) h = (record { at = 0; there = refl }, record { at = 1; there = refl })
ref_stands t StackRef h = (record { at = 0; there = refl }, record { at = 1; there = refl })
ref_stands t ThreadRef h = (record { at = 0; there = refl }, record { at = 1; there = refl })

pub funcref_stands : (t : ℕ) (d : TypeDef) → is_sig (Some d) ≡ true → StandsIn (references t d) (FuncRef t)
funcref_stands t (Sig takes gives) h = record { at = 0; there = refl }
funcref_stands t (Int w) h = cc
funcref_stands t (Struct fields) h = cc
funcref_stands t (Array element size) h = cc
funcref_stands t (Hybrid fixed element) h = cc
funcref_stands t Void h = cc
funcref_stands t (Ref x) h = cc
funcref_stands t (Iref x) h = cc
funcref_stands t (FuncRef x) h = cc
funcref_stands t StackRef h = cc
funcref_stands t ThreadRef h = cc

-- ---- tables

pub record IsComplete (p : Table) : Type 0 where
  pub graph : IsGraph p.definitions
  pub finite : IsFinite p.definitions
  pub widths : (t w : ℕ) → width_of (slice_get p.definitions t) ≡ Some w → (1 ≤ w) × (w ≤ 128)
  pub written : p.written ≤ length p.definitions
  pub ref : (t : ℕ) → is_type_there (definition_at p t) ≡ true → StandsIn p.definitions (Ref t)
  pub iref : (t : ℕ) → is_type_there (definition_at p t) ≡ true → StandsIn p.definitions (Iref t)
  pub funcref : (t : ℕ) → is_sig (definition_at p t) ≡ true → StandsIn p.definitions (FuncRef t)
  pub defined : AreDefined p
  pub nothing : slice_get p.definitions p.written ≡ Some Void
  pub void : StandsIn p.definitions (Ref p.written)

abbrev table : List TypeDef → Table
table w = record { definitions = complete w; written = length w }

completed : (w : List TypeDef) → IsGraph (complete w) → IsFinite (complete w) → ((t v : ℕ) → width_of (slice_get (complete w) t) ≡ Some v → (1 ≤ v) × (v ≤ 128)) → IsComplete (table w)
completed w i f v = record {
  graph = i;
  finite = f;
  widths = v;
  written = omega (arith, long);
  ref = λ t h. let there = written_there (table w) t is_type_there refl h in reference_in w t there.0 (Ref t) there.1 there.2 (ref_stands t there.0 there.3).0;
  iref = λ t h. let there = written_there (table w) t is_type_there refl h in reference_in w t there.0 (Iref t) there.1 there.2 (ref_stands t there.0 there.3).1;
  funcref = λ t h. let there = written_there (table w) t is_sig refl h in reference_in w t there.0 (FuncRef t) there.1 there.2 (funcref_stands t there.0 there.3);
  defined = are_defined w i;
  nothing = (headed w).nothing;
  void = void_in w;
}
  where
    long : length w ≤ length (complete w)
    long =
        let four = Int 1 ∷ Int 32 ∷ StackRef ∷ ThreadRef ∷ [] in
        let refs = references_from 0 (w ++ Void ∷ []) in
        omega (arith, length-append (w ++ Void ∷ [] ++ four) refs, length-append (w ++ Void ∷ []) four, length-append w (Void ∷ []))

-- what is known of the graph and of the constants of an accepted bundle
pub lawful : (bundle : List Item) → first_unmet (check_demands bundle) ≡ None → Lawful (bundle_tables bundle).types.definitions (constants_of (globals_of bundle) bundle)
unfolding check_demands
lawful bundle checked =
    accepted (globals_of bundle) bundle refl (both_met (first_unmet (item_demands (globals_of bundle) bundle)) (first_unmet (functions_demands (bundle_tables bundle) 0 bundle)) checked).0

pub is_complete : (bundle : List Item) → first_unmet (check_demands bundle) ≡ None → IsComplete (bundle_tables bundle).types
unfolding tables_of
is_complete bundle checked =
    let law = lawful bundle checked in
    completed (graph_of (globals_of bundle) bundle) law.graph law.finite law.widths
