-- What is known of the types and the constants of a bundle whose items meet their demands.
use Rattle.std.proofs.Common.{◌≡◌, ℕ, zero, suc, ◌+◌, ◌<◌, ◌≤◌, ◌==◌, Bool, true, false, not, List, [], ◌∷◌, ◌++◌, length, map, Option, Some, None, slice_get, nat_lt, cond, if◌then◌else◌, refl, sym, ◌∙◌, ap, subst, append_assoc, inl, inr, arith}
use Rattle.std.specs.List.{All, list_any}
use Rattle.std.proofs.lemmas.Bool.{false≢true, cases_lt, eqb-true}
use Rattle.std.proofs.lemmas.List.{length-append, length-map}
use Rattle.std.proofs.lemmas.List.Elements.{All-nil, All-cons, All-append}
use Rattle.name_scopes.specs.Names.{found}
use Rattle.demands.specs.declared.fault.Fault.{Fault}
use Rattle.demands.specs.declared.fault.Fault.TheVariants.{Memory, At}
use Rattle.demands.specs.Demands.{Demands, ◌⨾◌, first_unmet, AllMet, as_kind}
use Rattle.demands.specs.Laws.{fault_as}
use Rattle.demands.specs.Lemmas.Meeting.{all_met, both_met, carried}
use Rattle.ir_lex.specs.declared.name.Name.{Name}
use Rattle.ir_tree.specs.declared.definitions.TypeForm.{TypeForm}
use Rattle.ir_tree.specs.declared.definitions.TypeForm.TheVariants as written
use Rattle.ir_tree.specs.declared.definitions.Literal.{Literal as WrittenLiteral}
use Rattle.ir_tree.specs.declared.definitions.Literal.TheVariants as literals
use Rattle.ir_tree.specs.declared.items.Item.{Item}
use Rattle.ir_tree.specs.declared.items.Item.TheVariants as items
use Rattle.type_definitions.specs.declared.definition.TypeDef.{TypeDef}
use Rattle.type_definitions.specs.declared.definition.TypeDef.TheVariants.{Int, Void, Ref, Iref, FuncRef, StackRef, ThreadRef, Sig}
use Rattle.type_definitions.specs.Definition.{arguments}
use Rattle.type_definitions.specs.Same.{IsGraph}
use Rattle.type_definitions.specs.Laws.{IsFinite}
use Rattle.type_definitions.specs.Parts.{parts, parts_at, leads, contains_itself}
use Rattle.mu_types.specs.declared.limits.TheConstants.{WIDTHS}
use Rattle.mu_types.specs.Implied.{is_signature, references, references_from, complete}
use Rattle.mu_types.specs.declared.faults.TypeKind.{TypeKind}
use Rattle.mu_types.specs.TypeDemands.{each, passes, wrong_arguments, wrong_arguments_of, endless_type}
use Rattle.mu_values.specs.Constants.{width_of, constant_demands, HasMembers}
use Rattle.bundle_names.specs.declared.globals.Globals.{Globals}
use Rattle.bundle_names.specs.Globals.{globals_of}
use Rattle.check_tables.specs.declared.fault.CheckKind.TheVariants.{Types, Const}
use Rattle.check_tables.specs.declared.tables.Tables.{Tables}
use Rattle.check_tables.specs.Lookups.{written_number, signature_number}
use Rattle.checked_code.specs.Graph.{within, type_id, type_ids, signature_id, type_definition, types_of, signatures_of, graph_of, places_of, type_demands}
use Rattle.checked_code.specs.Entries.{tables_of}
use Rattle.checked_code.specs.Rules.{constant_number, constant_id, literal_of, constant_types, constants_demands, signatures_demands, globals_demands, item_demands}
use Rattle.checked_code.specs.Lemmas.Counted.{constants_counted, graph_counted}
use Rattle.checked_code.specs.declared.constants.Constant.{Constant}
use Rattle.checked_code.specs.Constants.{constants_of}
use Rattle.checked_code.specs.ConstantMembers.{Lawful}
use Rattle.checked_code.specs.ConstantMembers as members
use Rattle.type_definitions.specs.Lemmas.Descents.{hit}
use Rattle.checked_code.specs.Lemmas.ConstantMembers.{holds_at}

-- ---- the types that every graph has behind the written ones

abbrev implied : List TypeDef → List TypeDef
implied w = Void ∷ Int 1 ∷ Int 32 ∷ StackRef ∷ ThreadRef ∷ references_from 0 (w ++ Void ∷ [])

complete_is : (w : List TypeDef) → complete w ≡ w ++ implied w
complete_is w =
    let four = Int 1 ∷ Int 32 ∷ StackRef ∷ ThreadRef ∷ [] in
    let refs = references_from 0 (w ++ Void ∷ []) in
    append_assoc (w ++ Void ∷ []) four refs ∙ append_assoc w (Void ∷ []) (four ++ refs)

pub complete_long : (w : List TypeDef) → length w + 5 ≤ length (complete w)
complete_long w =
    let all : length (complete w) ≡ length (w ++ implied w) = ap (λ (ds : List TypeDef). length ds) (complete_is w) in
    omega (arith, all, length-append w (implied w))

-- what holds of each of them, where references lead to less than so many
record OfImplied (P : TypeDef → Type 0) (many : ℕ) : Type 0 where
  pub void : P Void
  pub bit : P (Int 1)
  pub word : P (Int 32)
  pub stack : P StackRef
  pub thread : P ThreadRef
  pub func : (t : ℕ) → t < many → P (FuncRef t)
  pub ref : (t : ℕ) → t < many → P (Ref t)
  pub iref : (t : ℕ) → t < many → P (Iref t)

references_all : (P : TypeDef → Type 0) (many : ℕ) → OfImplied P many → (t : ℕ) (d : TypeDef) → t < many → All P (references t d)
references_all P many of t d l = go (is_signature d)
  where
    go : (b : Bool) → All P (cond b (FuncRef t ∷ []) (Ref t ∷ Iref t ∷ []))
    go true = All-cons P (FuncRef t) [] (of.func t l) (All-nil P)
    go false = All-cons P (Ref t) (Iref t ∷ []) (of.ref t l) (All-cons P (Iref t) [] (of.iref t l) (All-nil P))

all_references : (P : TypeDef → Type 0) (many : ℕ) → OfImplied P many → (t : ℕ) (ds : List TypeDef) → t + length ds ≤ many → All P (references_from t ds)
all_references P many of t [] l = All-nil P
all_references P many of t (d ∷ ds) l = All-append P (references t d) (references_from (suc t) ds) (references_all P many of t d (omega arith)) (all_references P many of (suc t) ds (omega arith))

all_implied : (P : TypeDef → Type 0) (many : ℕ) → OfImplied P many → (w : List TypeDef) → length w + 1 ≤ many → All P (implied w)
all_implied P many of w l =
    let refs = references_from 0 (w ++ Void ∷ []) in
    All-cons P Void (Int 1 ∷ Int 32 ∷ StackRef ∷ ThreadRef ∷ refs) of.void
    (All-cons P (Int 1) (Int 32 ∷ StackRef ∷ ThreadRef ∷ refs) of.bit
    (All-cons P (Int 32) (StackRef ∷ ThreadRef ∷ refs) of.word
    (All-cons P StackRef (ThreadRef ∷ refs) of.stack
    (All-cons P ThreadRef refs of.thread
    (all_references P many of 0 (w ++ Void ∷ []) (omega (arith, length-append w (Void ∷ []), l)))))))

-- ---- numbers are below what there is

is_below : (n many : ℕ) → nat_lt n many ≡ true → n < many
is_below n many e = grind (arith, e)

within_below : (many least : ℕ) (o : Option ℕ) → many ≤ least → 0 < least → within many o < least
within_below many least None l m = m
within_below many least (Some n) l m = by (nat_lt n many) refl
  where
    by : (b : Bool) → nat_lt n many ≡ b → (if b then n else 0) < least
    by true e = omega (arith, is_below n many e, l)
    by false e = m

type_low : (g : Globals) (n : Name) (many : ℕ) → g.counts.written < many → type_id g n < many
type_low g n many l = within_below g.counts.written many (written_number (found g.names n.text)) (omega arith) (omega arith)

types_low : (g : Globals) (ns : List Name) (many : ℕ) → g.counts.written < many → All (λ y. y < many) (type_ids g ns)
types_low g [] many l = All-nil (λ y. y < many)
types_low g (n ∷ ns) many l = All-cons (λ y. y < many) (type_id g n) (type_ids g ns) (type_low g n many l) (types_low g ns many l)

signature_low : (g : Globals) (n : Name) (many : ℕ) → g.counts.written + g.counts.signatures < many → signature_id g n < many
signature_low g n many l =
    let below : within g.counts.signatures (signature_number (found g.names n.text)) < suc g.counts.signatures =
    within_below g.counts.signatures (suc g.counts.signatures) (signature_number (found g.names n.text)) (omega arith) (omega arith) in
    omega (arith, below)

-- ---- what a definition names is in the graph

abbrev IsBelow : ℕ → TypeDef → Type 0
IsBelow many d = All (λ y. y < many) (arguments d)

one_low : (many n : ℕ) → n < many → All (λ y. y < many) (n ∷ [])
one_low many n l = All-cons (λ y. y < many) n [] l (All-nil (λ y. y < many))

form_low : (g : Globals) (form : TypeForm) (many : ℕ) → g.counts.written + g.counts.signatures < many → IsBelow many (type_definition g form)
form_low g (written.Int w) many l = All-nil (λ y. y < many)
form_low g (written.Struct fields) many l = types_low g fields many (omega arith)
form_low g (written.Array element size) many l = one_low many (type_id g element) (type_low g element many (omega arith))
form_low g (written.Hybrid fixed element) many l =
    All-append (λ y. y < many) (type_ids g fixed) (type_id g element ∷ []) (types_low g fixed many (omega arith)) (one_low many (type_id g element) (type_low g element many (omega arith)))
form_low g written.Void many l = All-nil (λ y. y < many)
form_low g (written.Ref t) many l = one_low many (type_id g t) (type_low g t many (omega arith))
form_low g (written.Iref t) many l = one_low many (type_id g t) (type_low g t many (omega arith))
form_low g (written.Funcref s) many l = one_low many (signature_id g s) (signature_low g s many l)
form_low g written.Stackref many l = All-nil (λ y. y < many)
form_low g written.Threadref many l = All-nil (λ y. y < many)

all_types_low : (g : Globals) (is : List Item) (many : ℕ) → g.counts.written + g.counts.signatures < many → All (IsBelow many) (types_of g is)
all_types_low g [] many l = All-nil (IsBelow many)
all_types_low g (items.Typedef d ∷ is) many l = All-cons (IsBelow many) (type_definition g d.form) (types_of g is) (form_low g d.form many l) (all_types_low g is many l)
all_types_low g (items.Funcsig d ∷ is) many l = all_types_low g is many l
all_types_low g (items.Const d ∷ is) many l = all_types_low g is many l
all_types_low g (items.GlobalCell d ∷ is) many l = all_types_low g is many l
all_types_low g (items.Funcdecl d ∷ is) many l = all_types_low g is many l
all_types_low g (items.Funcdef d ∷ is) many l = all_types_low g is many l

all_signatures_low : (g : Globals) (is : List Item) (many : ℕ) → g.counts.written + g.counts.signatures < many → All (IsBelow many) (signatures_of g is)
all_signatures_low g [] many l = All-nil (IsBelow many)
all_signatures_low g (items.Typedef d ∷ is) many l = all_signatures_low g is many l
all_signatures_low g (items.Funcsig d ∷ is) many l =
    All-cons (IsBelow many) (Sig (type_ids g d.takes) (type_ids g d.gives)) (signatures_of g is)
    (All-append (λ y. y < many) (type_ids g d.takes) (type_ids g d.gives) (types_low g d.takes many (omega arith)) (types_low g d.gives many (omega arith)))
    (all_signatures_low g is many l)
all_signatures_low g (items.Const d ∷ is) many l = all_signatures_low g is many l
all_signatures_low g (items.GlobalCell d ∷ is) many l = all_signatures_low g is many l
all_signatures_low g (items.Funcdecl d ∷ is) many l = all_signatures_low g is many l
all_signatures_low g (items.Funcdef d ∷ is) many l = all_signatures_low g is many l

below_implied : (many : ℕ) → OfImplied (IsBelow many) many
below_implied many = record {
  void = All-nil (λ y. y < many);
  bit = All-nil (λ y. y < many);
  word = All-nil (λ y. y < many);
  stack = All-nil (λ y. y < many);
  thread = All-nil (λ y. y < many);
  func = λ t l. one_low many t l;
  ref = λ t l. one_low many t l;
  iref = λ t l. one_low many t l;
}

graph_is : (g : Globals) (is : List Item) → g ≡ globals_of is → IsGraph (complete (graph_of g is))
graph_is g is e =
    let w = graph_of g is in
    let many = length (complete w) in
    let long = complete_long w in
    let count = graph_counted g is e in
    let low : All (IsBelow many) w =
    All-append (IsBelow many) (types_of g is) (signatures_of g is) (all_types_low g is many (omega (arith, long, count))) (all_signatures_low g is many (omega (arith, long, count))) in
    subst (λ (ds : List TypeDef). All (IsBelow many) ds) (sym (complete_is w))
    (All-append (IsBelow many) w (implied w) low (all_implied (IsBelow many) many (below_implied many) w (omega (arith, long))))

-- ---- the demands on types

none_kept : {K L : Type 0} (f : K → L) (o : Option (Fault K)) → fault_as f o ≡ None → o ≡ None
none_kept f None h = refl
none_kept f (Some Memory) h = cc
none_kept f (Some (At kind place)) h = cc

kind_met : {K L : Type 0} (f : K → L) (ds : Demands K) → first_unmet (as_kind f ds) ≡ None → first_unmet ds ≡ None
kind_met f ds h = none_kept f (first_unmet ds) (sym (carried f ds) ∙ h)

each_met : (f : ℕ → Demands TypeKind) (many first k : ℕ) → AllMet (each f many first) → k < many → AllMet (f (first + k))
each_met f zero first k h l = absurd (omega arith)
each_met f (suc many) first zero h l =
    let e : first ≡ first + 0 = omega arith in
    subst (λ (n : ℕ). AllMet (f n)) e h.0
each_met f (suc many) first (suc k) h l =
    let e : suc first + k ≡ first + suc k = omega arith in
    subst (λ (n : ℕ). AllMet (f n)) e (each_met f many (suc first) k h.1 (omega arith))

-- a definition without parts, and of no width that is not allowed
record IsModest (d : TypeDef) : Type 0 where
  pub parts : parts d ≡ []
  pub widths : (w : ℕ) → width_of (Some d) ≡ Some w → (1 ≤ w) × (w ≤ 128)

modest_int : (v : ℕ) → 1 ≤ v → v ≤ 128 → IsModest (Int v)
modest_int v l m = record { parts = refl; widths = λ w e. let same : v ≡ w = cc in (omega (arith, l, same), omega (arith, m, same)) }

modest_implied : (many : ℕ) → OfImplied IsModest many
modest_implied many = record {
  void = record { parts = refl; widths = λ w e. cc };
  bit = modest_int 1 (omega arith) (omega arith);
  word = modest_int 32 (omega arith) (omega arith);
  stack = record { parts = refl; widths = λ w e. cc };
  thread = record { parts = refl; widths = λ w e. cc };
  func = λ t l. record { parts = refl; widths = λ w e. cc };
  ref = λ t l. record { parts = refl; widths = λ w e. cc };
  iref = λ t l. record { parts = refl; widths = λ w e. cc };
}

behind : (P : TypeDef → Type 0) (w tail : List TypeDef) → All P tail → (t : ℕ) (d : TypeDef) → length w ≤ t → slice_get (w ++ tail) t ≡ Some d → P d
behind P [] tail a t d l e = holds_at P tail t d a e
behind P (x ∷ w) tail a zero d l e = absurd (omega arith)
behind P (x ∷ w) tail a (suc t) d l e = behind P w tail a t d (omega arith) e

modest_at : (w : List TypeDef) (t : ℕ) (d : TypeDef) → length w ≤ t → slice_get (complete w) t ≡ Some d → IsModest d
modest_at w t d l e =
    behind IsModest w (implied w) (all_implied IsModest (length w + 1) (modest_implied (length w + 1)) w (omega arith)) t d l
    (subst (λ (ds : List TypeDef). slice_get ds t ≡ Some d) (complete_is w) e)

stays : (g : List TypeDef) (k b a : ℕ) → parts_at (slice_get g a) ≡ [] → leads g k b a ≡ false
unfolding leads
stays g zero b a h = refl
stays g (suc k) b a h = rw h refl

not_true : (b : Bool) → not b ≡ true → b ≡ false
not_true true h = absurd (false≢true h)
not_true false h = refl

finite : (w : List TypeDef) (places : List (List ℕ)) → AllMet (passes (complete w) places (length w)) → IsFinite (complete w)
finite w places met = λ t l. elim (cases_lt t (length w)) [ inl m ↦ tested_finite t m | inr m ↦ implied_finite t m ]
  where
    tested_finite : (t : ℕ) → t < length w → contains_itself (complete w) t ≡ false
    tested_finite t m =
        let e : 0 + t ≡ t = omega arith in
        let one : AllMet (endless_type (complete w) places t) = subst (λ (n : ℕ). AllMet (endless_type (complete w) places n)) e (each_met (endless_type (complete w) places) (length w) 0 t met.1.0 m) in
        not_true (contains_itself (complete w) t) one

    implied_finite : (t : ℕ) → length w ≤ t → contains_itself (complete w) t ≡ false
    implied_finite t m = go (slice_get (complete w) t) refl
      where
        go : (o : Option TypeDef) → slice_get (complete w) t ≡ o → contains_itself (complete w) t ≡ false
        go None e = stays (complete w) (length (complete w)) t t (rw e refl)
        go (Some d) e = stays (complete w) (length (complete w)) t t (rw e (modest_at w t d m e).parts)

allowed_low : (w : ℕ) → list_any (λ allowed. allowed == w) WIDTHS ≡ true → (1 ≤ w) × (w ≤ 128)
allowed_low w h =
    let P : ℕ → Type 0 = λ v. (1 ≤ v) × (v ≤ 128) in
    let all : All P WIDTHS = All-cons P 1 (8 ∷ 16 ∷ 32 ∷ 64 ∷ 128 ∷ []) (omega arith, omega arith) (All-cons P 8 (16 ∷ 32 ∷ 64 ∷ 128 ∷ []) (omega arith, omega arith)
    (All-cons P 16 (32 ∷ 64 ∷ 128 ∷ []) (omega arith, omega arith) (All-cons P 32 (64 ∷ 128 ∷ []) (omega arith, omega arith) (All-cons P 64 (128 ∷ []) (omega arith, omega arith)
    (All-cons P 128 [] (omega arith, omega arith) (All-nil P)))))) in
    let one = hit P (λ allowed. allowed == w) WIDTHS all h in
    let same : one.is ≡ w = eqb-true one.is w one.passes in
    subst P same one.holds

width_is : (d : TypeDef) (w : ℕ) → width_of (Some d) ≡ Some w → d ≡ Int w
width_is (Int v) w e = let same : v ≡ w = cc in ap Int same
width_is d w e = cc

widths : (w : List TypeDef) (places : List (List ℕ)) → AllMet (passes (complete w) places (length w)) → (t v : ℕ) → width_of (slice_get (complete w) t) ≡ Some v → (1 ≤ v) × (v ≤ 128)
widths w places met t v h = go (slice_get (complete w) t) refl h
  where
    written_low : (d : TypeDef) → slice_get (complete w) t ≡ Some d → d ≡ Int v → t < length w → (1 ≤ v) × (v ≤ 128)
    written_low d e i m =
        let n : 0 + t ≡ t = omega arith in
        let one : AllMet (wrong_arguments (complete w) places t) = subst (λ (k : ℕ). AllMet (wrong_arguments (complete w) places k)) n (each_met (wrong_arguments (complete w) places) (length w) 0 t met.0 m) in
        let int : AllMet (wrong_arguments_of (complete w) places t (Some (Int v))) = subst (λ (o : Option TypeDef). AllMet (wrong_arguments_of (complete w) places t o)) (e ∙ ap Some i) one in
        allowed_low v int.0

    go : (o : Option TypeDef) → slice_get (complete w) t ≡ o → width_of o ≡ Some v → (1 ≤ v) × (v ≤ 128)
    go None e k = cc
    go (Some d) e k = elim (cases_lt t (length w)) [ inl m ↦ written_low d e (width_is d v k) m | inr m ↦ (modest_at w t d m e).widths v k ]

-- ---- constants

pub types_are : (g : Globals) (is : List Item) → constant_types g is ≡ members.types_of (constants_of g is)
types_are g [] = refl
types_are g (items.Typedef d ∷ is) = types_are g is
types_are g (items.Funcsig d ∷ is) = types_are g is
types_are g (items.Const d ∷ is) = ap (λ (ts : List ℕ). type_id g d.of_type ∷ ts) (types_are g is)
types_are g (items.GlobalCell d ∷ is) = types_are g is
types_are g (items.Funcdecl d ∷ is) = types_are g is
types_are g (items.Funcdef d ∷ is) = types_are g is

typed : (g : Globals) (is : List Item) (many : ℕ) → g.counts.written < many → All (λ (c : Constant). c.of_type < many) (constants_of g is)
typed g [] many l = All-nil (λ (c : Constant). c.of_type < many)
typed g (items.Typedef d ∷ is) many l = typed g is many l
typed g (items.Funcsig d ∷ is) many l = typed g is many l
typed g (items.Const d ∷ is) many l =
    All-cons (λ (c : Constant). c.of_type < many) (record { of_type = type_id g d.of_type; literal = literal_of g d.literal }) (constants_of g is) (type_low g d.of_type many l) (typed g is many l)
typed g (items.GlobalCell d ∷ is) many l = typed g is many l
typed g (items.Funcdecl d ∷ is) many l = typed g is many l
typed g (items.Funcdef d ∷ is) many l = typed g is many l

members_low : (g : Globals) (ns : List Name) (many : ℕ) → g.counts.constants ≤ many → 0 < many → All (λ n. n < many) (map (constant_id g) ns)
members_low g [] many l m = All-nil (λ n. n < many)
members_low g (n ∷ ns) many l m =
    All-cons (λ n. n < many) (constant_id g n) (map (constant_id g) ns) (within_below g.counts.constants many (constant_number (found g.names n.text)) l m) (members_low g ns many l m)

literal_low : (g : Globals) (l : WrittenLiteral) (many : ℕ) → g.counts.constants ≤ many → 0 < many → HasMembers many (literal_of g l).kind
literal_low g (literals.Number n) many l m = tt
literal_low g (literals.Null place) many l m = tt
literal_low g (literals.Members place cs) many l m = members_low g cs many l m

has_members : (g : Globals) (is : List Item) (many : ℕ) → g.counts.constants ≤ many → length (constants_of g is) ≤ many → All (λ (c : Constant). HasMembers many c.literal.kind) (constants_of g is)
has_members g [] many l m = All-nil (λ (c : Constant). HasMembers many c.literal.kind)
has_members g (items.Typedef d ∷ is) many l m = has_members g is many l m
has_members g (items.Funcsig d ∷ is) many l m = has_members g is many l m
has_members g (items.Const d ∷ is) many l m =
    All-cons (λ (c : Constant). HasMembers many c.literal.kind) (record { of_type = type_id g d.of_type; literal = literal_of g d.literal }) (constants_of g is)
    (literal_low g d.literal many l (omega (arith, m))) (has_members g is many l (omega (arith, m)))
has_members g (items.GlobalCell d ∷ is) many l m = has_members g is many l m
has_members g (items.Funcdecl d ∷ is) many l m = has_members g is many l m
has_members g (items.Funcdef d ∷ is) many l m = has_members g is many l m

each_judged : (p : Tables) (types : List ℕ) (is : List Item) → first_unmet (constants_demands p types is) ≡ None → (n : ℕ) (c : Constant) → slice_get (constants_of p.globals is) n ≡ Some c →
    first_unmet (constant_demands p.types.definitions types c.of_type c.literal) ≡ None
each_judged p types [] h n c e = cc
each_judged p types (items.Typedef d ∷ is) h n c e = each_judged p types is h n c e
each_judged p types (items.Funcsig d ∷ is) h n c e = each_judged p types is h n c e
each_judged p types (items.Const d ∷ is) h n c e =
    let one = constant_demands p.types.definitions types (type_id p.globals d.of_type) (literal_of p.globals d.literal) in
    let both = both_met (first_unmet (as_kind Const one)) (first_unmet (constants_demands p types is)) h in
    go n e (kind_met Const one both.0) (λ (m : ℕ) (there : slice_get (constants_of p.globals is) m ≡ Some c). each_judged p types is both.1 m c there)
  where
    go : (n : ℕ) → slice_get (constants_of p.globals (items.Const d ∷ is)) n ≡ Some c
        → first_unmet (constant_demands p.types.definitions types (type_id p.globals d.of_type) (literal_of p.globals d.literal)) ≡ None
        → ((m : ℕ) → slice_get (constants_of p.globals is) m ≡ Some c → first_unmet (constant_demands p.types.definitions types c.of_type c.literal) ≡ None)
        → first_unmet (constant_demands p.types.definitions types c.of_type c.literal) ≡ None
    go zero e now later =
        let same : record { of_type = type_id p.globals d.of_type; literal = literal_of p.globals d.literal } ≡ c = cc in
        subst (λ (x : Constant). first_unmet (constant_demands p.types.definitions types x.of_type x.literal) ≡ None) same now
    go (suc m) e now later = later m e
each_judged p types (items.GlobalCell d ∷ is) h n c e = each_judged p types is h n c e
each_judged p types (items.Funcdecl d ∷ is) h n c e = each_judged p types is h n c e
each_judged p types (items.Funcdef d ∷ is) h n c e = each_judged p types is h n c e

-- ---- all of it

pub accepted : (g : Globals) (is : List Item) → g ≡ globals_of is → first_unmet (item_demands g is) ≡ None → Lawful (tables_of g is).types.definitions (constants_of g is)
unfolding tables_of
accepted g is e h =
    let w = graph_of g is in
    let long = complete_long w in
    let count = graph_counted g is e in
    let types_and_more = both_met (first_unmet (type_demands g is))
    (first_unmet (constants_demands (tables_of g is) (constant_types g is) is ⨾ signatures_demands (tables_of g is) is ⨾ globals_demands (tables_of g is) 0 is)) h in
    let constants_and_more = both_met (first_unmet (constants_demands (tables_of g is) (constant_types g is) is))
    (first_unmet (signatures_demands (tables_of g is) is ⨾ globals_demands (tables_of g is) 0 is)) types_and_more.1 in
    let tests = passes (complete w) (places_of is) (length w) in
    let met : AllMet tests = all_met tests (kind_met Types tests types_and_more.0) in
    let many : g.counts.constants ≡ length (constants_of g is) =
    constants_counted g is e ∙ ap (λ (ts : List ℕ). length ts) (types_are g is) ∙ length-map (constants_of g is) (λ (c : Constant). c.of_type) in
    record {
      graph = graph_is g is e;
      some = omega (arith, long);
      finite = finite w (places_of is) met;
      widths = widths w (places_of is) met;
      typed = typed g is (length (complete w)) (omega (arith, long, count));
      members = has_members g is (length (constants_of g is)) (omega (arith, many)) (omega arith);
      judged = λ n c there. subst (λ (ts : List ℕ). first_unmet (constant_demands (complete w) ts c.of_type c.literal) ≡ None) (types_are g is)
          (each_judged (tables_of g is) (constant_types g is) is constants_and_more.0 n c there);
    }
