-- The graph of an accepted bundle: what a definition names is in it, and what a type is made of is a type.
use Rattle.std.proofs.Common.{◌≡◌, ℕ, zero, suc, ◌+◌, ◌<◌, ◌≤◌, Bool, true, false, List, [], ◌∷◌, ◌++◌, ◌⊎◌, inl, inr, Option, Some, None, nat_lt, slice_get, length, if◌then◌else◌, refl, sym, ◌∙◌, ap, subst, append_assoc, arith}
use Rattle.std.specs.List.{All}
use Rattle.std.proofs.lemmas.List.{length-append}
use Rattle.std.proofs.lemmas.List.Elements.{All-nil, All-cons, All-append}
use Rattle.name_scopes.specs.Names.{Names, found, added}
use Rattle.demands.specs.Demands.{AllMet}
use Rattle.ir_lex.specs.declared.name.Name.{Name}
use Rattle.ir_tree.specs.declared.definitions.TypeForm.{TypeForm}
use Rattle.ir_tree.specs.declared.definitions.TypeForm.TheVariants as written
use Rattle.ir_tree.specs.declared.items.Item.{Item}
use Rattle.ir_tree.specs.declared.items.Item.TheVariants as items
use Rattle.type_definitions.specs.declared.definition.TypeDef.{TypeDef}
use Rattle.type_definitions.specs.declared.definition.TypeDef.TheVariants.{Int, Void, StackRef, ThreadRef, Sig}
use Rattle.type_definitions.specs.Definition.{arguments}
use Rattle.type_definitions.specs.Parts.{parts_at}
use Rattle.type_definitions.specs.Same.{IsGraph}
use Rattle.mu_types.specs.Implied.{complete, references_from}
use Rattle.mu_types.specs.CompleteLaws.{complete_is_graph}
use Rattle.bundle_names.specs.declared.globals.Sort.{Sort}
use Rattle.bundle_names.specs.declared.globals.Sort.TheVariants as sorts
use Rattle.bundle_names.specs.declared.globals.Globals.{Globals}
use Rattle.bundle_names.specs.Globals.{with_item, with_items, no_globals, globals_of}
use Rattle.bundle_names.specs.Uses.{is_signature}
use Rattle.bundle_names.specs.ItemUses.{form_use, item_uses}
use Rattle.check_tables.specs.Types.{definition_at, is_type_there, is_sig}
use Rattle.check_tables.specs.Lookups.{written_number, signature_number}
use Rattle.checked_code.specs.Graph.{within, type_id, type_ids, signature_id, type_definition, types_of, signatures_of, graph_of, table_of}
use Rattle.bundle_laws.specs.Lemmas.Bodies.{some_is, found_added}

-- ---- lists

get_left : {T : Type 0} (xs ys : List T) (n : ℕ) → n < length xs → slice_get (xs ++ ys) n ≡ slice_get xs n
get_left [] ys n l = absurd (omega (arith, l))
get_left (x ∷ xs) ys zero l = refl
get_left (x ∷ xs) ys (suc n) l = get_left xs ys n (omega (arith, l))

pub get_right : {T : Type 0} (xs ys : List T) (n : ℕ) → slice_get (xs ++ ys) (length xs + n) ≡ slice_get ys n
get_right [] ys n = let e : 0 + n ≡ n = omega arith in ap (λ (k : ℕ). slice_get ys k) e
get_right (x ∷ xs) ys n = let e : suc (length xs) + n ≡ suc (length xs + n) = omega arith in ap (λ (k : ℕ). slice_get (x ∷ (xs ++ ys)) k) e ∙ get_right xs ys n

-- ---- how many types and signatures there are

written_counted : (g h : Globals) (is : List Item) → (with_items g is).counts.written ≡ g.counts.written + length (types_of h is)
written_counted g h [] = omega arith
written_counted g h (items.Typedef d ∷ is) = omega (arith, written_counted (with_item g (items.Typedef d)) h is)
written_counted g h (items.Funcsig d ∷ is) = written_counted (with_item g (items.Funcsig d)) h is
written_counted g h (items.Const d ∷ is) = written_counted (with_item g (items.Const d)) h is
written_counted g h (items.GlobalCell d ∷ is) = written_counted (with_item g (items.GlobalCell d)) h is
written_counted g h (items.Funcdecl d ∷ is) = written_counted (with_item g (items.Funcdecl d)) h is
written_counted g h (items.Funcdef d ∷ is) = written_counted (with_item g (items.Funcdef d)) h is

signatures_counted : (g h : Globals) (is : List Item) → (with_items g is).counts.signatures ≡ g.counts.signatures + length (signatures_of h is)
signatures_counted g h [] = omega arith
signatures_counted g h (items.Typedef d ∷ is) = signatures_counted (with_item g (items.Typedef d)) h is
signatures_counted g h (items.Funcsig d ∷ is) = omega (arith, signatures_counted (with_item g (items.Funcsig d)) h is)
signatures_counted g h (items.Const d ∷ is) = signatures_counted (with_item g (items.Const d)) h is
signatures_counted g h (items.GlobalCell d ∷ is) = signatures_counted (with_item g (items.GlobalCell d)) h is
signatures_counted g h (items.Funcdecl d ∷ is) = signatures_counted (with_item g (items.Funcdecl d)) h is
signatures_counted g h (items.Funcdef d ∷ is) = signatures_counted (with_item g (items.Funcdef d)) h is

-- the numbers of types and of signatures are those of the graph
pub record Counted (g : Globals) (bundle : List Item) : Type 0 where
  pub types : g.counts.written ≡ length (types_of g bundle)
  pub signatures : g.counts.signatures ≡ length (signatures_of g bundle)

pub counted : (bundle : List Item) → Counted (globals_of bundle) bundle
counted bundle = record {
  types = let all : (globals_of bundle).counts.written ≡ 0 + length (types_of (globals_of bundle) bundle) = written_counted no_globals (globals_of bundle) bundle in omega (arith, all);
  signatures = let all : (globals_of bundle).counts.signatures ≡ 0 + length (signatures_of (globals_of bundle) bundle) = signatures_counted no_globals (globals_of bundle) bundle in omega (arith, all);
}

-- ---- numbers are below what there is

is_below : (n many : ℕ) → nat_lt n many ≡ true → n < many
is_below n many e = grind (arith, e)

within_below : (many least : ℕ) (o : Option ℕ) → many ≤ least → 0 < least → within many o < least
within_below many least None l m = m
within_below many least (Some n) l m = by (nat_lt n many) refl
  where
    by : (b : Bool) → nat_lt n many ≡ b → (if b then n else 0) < least
    by true e = omega (arith, is_below n many e, l)
    by false e = m

type_id_below : (g : Globals) (n : Name) (many : ℕ) → g.counts.written ≤ many → 0 < many → type_id g n < many
type_id_below g n many l m = within_below g.counts.written many (written_number (found g.names n.text)) l m

ids_below : (g : Globals) (ns : List Name) (many : ℕ) → g.counts.written ≤ many → 0 < many → All (λ y. y < many) (type_ids g ns)
ids_below g [] many l m = All-nil (λ y. y < many)
ids_below g (n ∷ ns) many l m = All-cons (λ y. y < many) (type_id g n) (type_ids g ns) (type_id_below g n many l m) (ids_below g ns many l m)

pub signature_id_below : (g : Globals) (n : Name) → 0 < g.counts.signatures → signature_id g n < g.counts.written + g.counts.signatures
signature_id_below g n m =
    let below : within g.counts.signatures (signature_number (found g.names n.text)) < g.counts.signatures =
    within_below g.counts.signatures g.counts.signatures (signature_number (found g.names n.text)) (omega arith) m in
    omega (arith, below)

-- ---- where a name is that of a signature, there is one

sort_added : (es : Names Sort) (n name : List ℕ) (x : Sort) → is_signature (found (added es n x) name) ≡ true → (is_signature (Some x) ≡ true) ⊎ (is_signature (found es name) ≡ true)
sort_added es n name x h = by (found (added es n x) name) refl h
  where
    by : (o : Option Sort) → found (added es n x) name ≡ o → is_signature o ≡ true → (is_signature (Some x) ≡ true) ⊎ (is_signature (found es name) ≡ true)
    by None e h = cc
    by (Some v) e h = elim (found_added es n name x v e) [
      | inl same ↦ inl (subst (λ (w : Sort). is_signature (Some w) ≡ true) same h)
      | inr old ↦ inr (subst (λ (o : Option Sort). is_signature o ≡ true) (sym old) h)
    ]

pub record SomeSignature (g : Globals) : Type 0 where
  pub each : (name : List ℕ) → is_signature (found g.names name) ≡ true → 0 < g.counts.signatures

item_some : (g : Globals) (i : Item) → SomeSignature g → SomeSignature (with_item g i)
item_some g (items.Typedef d) some = record {
  each = λ name h. elim (sort_added g.names d.name.text name (sorts.Written g.counts.written) h) [ inl new ↦ cc | inr old ↦ some.each name old ];
}
item_some g (items.Funcsig d) some = record { each = λ name h. omega arith }
item_some g (items.Const d) some = record {
  each = λ name h. elim (sort_added g.names d.name.text name (sorts.Constant g.counts.constants) h) [ inl new ↦ cc | inr old ↦ some.each name old ];
}
item_some g (items.GlobalCell d) some = record {
  each = λ name h. elim (sort_added g.names d.name.text name (sorts.GlobalCell g.counts.global_cells) h) [ inl new ↦ cc | inr old ↦ some.each name old ];
}
item_some g (items.Funcdecl d) some = record {
  each = λ name h. elim (sort_added g.names d.name.text name (sorts.Function g.counts.functions) h) [ inl new ↦ cc | inr old ↦ some.each name old ];
}
item_some g (items.Funcdef d) some = record {
  each = λ name h. elim (sort_added g.names d.name.text name (sorts.Function g.counts.functions) h) [ inl new ↦ cc | inr old ↦ some.each name old ];
}

items_some : (g : Globals) (is : List Item) → SomeSignature g → SomeSignature (with_items g is)
items_some g [] some = some
items_some g (i ∷ is) some = items_some (with_item g i) is (item_some g i some)

pub bundle_some : (bundle : List Item) → SomeSignature (globals_of bundle)
bundle_some bundle = items_some no_globals bundle (record { each = λ name h. cc })

-- ---- what a definition names is in the graph

abbrev IsBelow : ℕ → TypeDef → Type 0
IsBelow many d = All (λ y. y < many) (arguments d)

one_below : (many n : ℕ) → n < many → All (λ y. y < many) (n ∷ [])
one_below many n l = All-cons (λ y. y < many) n [] l (All-nil (λ y. y < many))

form_below : (g : Globals) (form : TypeForm) → SomeSignature g → 0 < g.counts.written + g.counts.signatures → AllMet (form_use g.names form) →
    IsBelow (g.counts.written + g.counts.signatures) (type_definition g form)
form_below g (written.Int w) some m met = All-nil (λ y. y < g.counts.written + g.counts.signatures)
form_below g (written.Struct fields) some m met = ids_below g fields (g.counts.written + g.counts.signatures) (omega arith) m
form_below g (written.Array element size) some m met =
    one_below (g.counts.written + g.counts.signatures) (type_id g element) (type_id_below g element (g.counts.written + g.counts.signatures) (omega arith) m)
form_below g (written.Hybrid fixed element) some m met =
    All-append (λ y. y < g.counts.written + g.counts.signatures) (type_ids g fixed) (type_id g element ∷ [])
    (ids_below g fixed (g.counts.written + g.counts.signatures) (omega arith) m)
    (one_below (g.counts.written + g.counts.signatures) (type_id g element) (type_id_below g element (g.counts.written + g.counts.signatures) (omega arith) m))
form_below g written.Void some m met = All-nil (λ y. y < g.counts.written + g.counts.signatures)
form_below g (written.Ref t) some m met =
    one_below (g.counts.written + g.counts.signatures) (type_id g t) (type_id_below g t (g.counts.written + g.counts.signatures) (omega arith) m)
form_below g (written.Iref t) some m met =
    one_below (g.counts.written + g.counts.signatures) (type_id g t) (type_id_below g t (g.counts.written + g.counts.signatures) (omega arith) m)
form_below g (written.Funcref s) some m met =
    one_below (g.counts.written + g.counts.signatures) (signature_id g s) (signature_id_below g s (some.each s.text met.1))
form_below g written.Stackref some m met = All-nil (λ y. y < g.counts.written + g.counts.signatures)
form_below g written.Threadref some m met = All-nil (λ y. y < g.counts.written + g.counts.signatures)

types_below : (g : Globals) (is : List Item) → SomeSignature g → length (types_of g is) ≤ g.counts.written → AllMet (item_uses g.names is) →
    All (IsBelow (g.counts.written + g.counts.signatures)) (types_of g is)
types_below g [] some l met = All-nil (IsBelow (g.counts.written + g.counts.signatures))
types_below g (items.Typedef d ∷ is) some l met =
    All-cons (IsBelow (g.counts.written + g.counts.signatures)) (type_definition g d.form) (types_of g is)
    (form_below g d.form some (omega (arith, l)) met.0)
    (types_below g is some (omega (arith, l)) met.1)
types_below g (items.Funcsig d ∷ is) some l met = types_below g is some l met.1
types_below g (items.Const d ∷ is) some l met = types_below g is some l met.1
types_below g (items.GlobalCell d ∷ is) some l met = types_below g is some l met.1
types_below g (items.Funcdecl d ∷ is) some l met = types_below g is some l met.1
types_below g (items.Funcdef d ∷ is) some l met = types_below g is some l met.1

signatures_below : (g : Globals) (is : List Item) → length (signatures_of g is) ≤ g.counts.signatures →
    All (IsBelow (g.counts.written + g.counts.signatures)) (signatures_of g is)
signatures_below g [] l = All-nil (IsBelow (g.counts.written + g.counts.signatures))
signatures_below g (items.Typedef d ∷ is) l = signatures_below g is l
signatures_below g (items.Funcsig d ∷ is) l =
    All-cons (IsBelow (g.counts.written + g.counts.signatures)) (Sig (type_ids g d.takes) (type_ids g d.gives)) (signatures_of g is)
    (All-append (λ y. y < g.counts.written + g.counts.signatures) (type_ids g d.takes) (type_ids g d.gives)
    (ids_below g d.takes (g.counts.written + g.counts.signatures) (omega arith) (omega (arith, l)))
    (ids_below g d.gives (g.counts.written + g.counts.signatures) (omega arith) (omega (arith, l))))
    (signatures_below g is (omega (arith, l)))
signatures_below g (items.Const d ∷ is) l = signatures_below g is l
signatures_below g (items.GlobalCell d ∷ is) l = signatures_below g is l
signatures_below g (items.Funcdecl d ∷ is) l = signatures_below g is l
signatures_below g (items.Funcdef d ∷ is) l = signatures_below g is l

pub graph_is : (g : Globals) (bundle : List Item) → Counted g bundle → SomeSignature g → AllMet (item_uses g.names bundle) → IsGraph (complete (graph_of g bundle))
graph_is g bundle c some met =
    let many : g.counts.written + g.counts.signatures ≡ length (graph_of g bundle) =
    omega (arith, c.types, c.signatures, length-append (types_of g bundle) (signatures_of g bundle)) in
    let below : All (IsBelow (g.counts.written + g.counts.signatures)) (graph_of g bundle) =
    All-append (IsBelow (g.counts.written + g.counts.signatures)) (types_of g bundle) (signatures_of g bundle)
    (types_below g bundle some (omega (arith, c.types)) met)
    (signatures_below g bundle (omega (arith, c.signatures))) in
    complete_is_graph (graph_of g bundle) (subst (λ (n : ℕ). All (IsBelow n) (graph_of g bundle)) many below)

-- ---- what is written under a number

below_is : (n many : ℕ) → n < many → nat_lt n many ≡ true
below_is n many l = grind (arith, l)

completed : (w : List TypeDef) (n : ℕ) → n < length w → slice_get (complete w) n ≡ slice_get w n
completed w n l =
    let four = Int 1 ∷ Int 32 ∷ StackRef ∷ ThreadRef ∷ [] in
    let refs = references_from 0 (w ++ Void ∷ []) in
    let e : complete w ≡ w ++ (Void ∷ Int 1 ∷ Int 32 ∷ StackRef ∷ ThreadRef ∷ refs) = append_assoc (w ++ Void ∷ []) four refs ∙ append_assoc w (Void ∷ []) (four ++ refs) in
    ap (λ (xs : List TypeDef). slice_get xs n) e ∙ get_left w (Void ∷ Int 1 ∷ Int 32 ∷ StackRef ∷ ThreadRef ∷ refs) n l

pub written_at : (g : Globals) (bundle : List Item) (n : ℕ) → n < length (graph_of g bundle) → definition_at (table_of g bundle) n ≡ slice_get (graph_of g bundle) n
written_at g bundle n l = rw (below_is n (length (graph_of g bundle)) l) (completed (graph_of g bundle) n l)

not_written : (g : Globals) (bundle : List Item) (n : ℕ) → nat_lt n (length (graph_of g bundle)) ≡ false → definition_at (table_of g bundle) n ≡ None
not_written g bundle n l = rw l refl

form_is_type : (g : Globals) (form : TypeForm) → is_type_there (Some (type_definition g form)) ≡ true
form_is_type g (written.Int w) = refl
form_is_type g (written.Struct fields) = refl
form_is_type g (written.Array element size) = refl
form_is_type g (written.Hybrid fixed element) = refl
form_is_type g written.Void = refl
form_is_type g (written.Ref t) = refl
form_is_type g (written.Iref t) = refl
form_is_type g (written.Funcref s) = refl
form_is_type g written.Stackref = refl
form_is_type g written.Threadref = refl

type_there : (g : Globals) (is : List Item) (n : ℕ) → n < length (types_of g is) → is_type_there (slice_get (types_of g is) n) ≡ true
type_there g [] n l = absurd (omega (arith, l))
type_there g (items.Typedef d ∷ is) zero l = form_is_type g d.form
type_there g (items.Typedef d ∷ is) (suc n) l = type_there g is n (omega (arith, l))
type_there g (items.Funcsig d ∷ is) n l = type_there g is n l
type_there g (items.Const d ∷ is) n l = type_there g is n l
type_there g (items.GlobalCell d ∷ is) n l = type_there g is n l
type_there g (items.Funcdecl d ∷ is) n l = type_there g is n l
type_there g (items.Funcdef d ∷ is) n l = type_there g is n l

signature_there : (g : Globals) (is : List Item) (n : ℕ) → n < length (signatures_of g is) → is_sig (slice_get (signatures_of g is) n) ≡ true
signature_there g [] n l = absurd (omega (arith, l))
signature_there g (items.Typedef d ∷ is) n l = signature_there g is n l
signature_there g (items.Funcsig d ∷ is) zero l = refl
signature_there g (items.Funcsig d ∷ is) (suc n) l = signature_there g is n (omega (arith, l))
signature_there g (items.Const d ∷ is) n l = signature_there g is n l
signature_there g (items.GlobalCell d ∷ is) n l = signature_there g is n l
signature_there g (items.Funcdecl d ∷ is) n l = signature_there g is n l
signature_there g (items.Funcdef d ∷ is) n l = signature_there g is n l

-- the number of a type is that of a type, and the number of a signature that of a signature
pub is_type_at : (g : Globals) (bundle : List Item) (n : ℕ) → n < length (types_of g bundle) → is_type_there (definition_at (table_of g bundle) n) ≡ true
is_type_at g bundle n l =
    let inside : n < length (graph_of g bundle) = omega (arith, l, length-append (types_of g bundle) (signatures_of g bundle)) in
    let there : definition_at (table_of g bundle) n ≡ slice_get (types_of g bundle) n = written_at g bundle n inside ∙ get_left (types_of g bundle) (signatures_of g bundle) n l in
    subst (λ (o : Option TypeDef). is_type_there o ≡ true) (sym there) (type_there g bundle n l)

pub is_signature_at : (g : Globals) (bundle : List Item) (n : ℕ) → n < length (signatures_of g bundle) → is_sig (definition_at (table_of g bundle) (length (types_of g bundle) + n)) ≡ true
is_signature_at g bundle n l =
    let inside : length (types_of g bundle) + n < length (graph_of g bundle) = omega (arith, l, length-append (types_of g bundle) (signatures_of g bundle)) in
    let there : definition_at (table_of g bundle) (length (types_of g bundle) + n) ≡ slice_get (signatures_of g bundle) n =
    written_at g bundle (length (types_of g bundle) + n) inside ∙ get_right (types_of g bundle) (signatures_of g bundle) n in
    subst (λ (o : Option TypeDef). is_sig o ≡ true) (sym there) (signature_there g bundle n l)

pub is_signature_id : (g : Globals) (bundle : List Item) (n : Name) → Counted g bundle → 0 < length (signatures_of g bundle) → is_sig (definition_at (table_of g bundle) (signature_id g n)) ≡ true
is_signature_id g bundle n c m =
    let low : within g.counts.signatures (signature_number (found g.names n.text)) < length (signatures_of g bundle) =
    within_below g.counts.signatures (length (signatures_of g bundle)) (signature_number (found g.names n.text)) (omega (arith, c.signatures)) m in
    subst (λ (k : ℕ). is_sig (definition_at (table_of g bundle) (k + within g.counts.signatures (signature_number (found g.names n.text)))) ≡ true) (sym c.types)
    (is_signature_at g bundle (within g.counts.signatures (signature_number (found g.names n.text))) low)

-- ---- the parts of a type

-- the parts are the numbers of types with names
NamesPart : Globals → ℕ → Type 0
NamesPart g k = (n : Name) × (k ≡ type_id g n)

id_of : (g : Globals) (ns : List Name) (n k : ℕ) → slice_get (type_ids g ns) n ≡ Some k → NamesPart g k
unfolding NamesPart
id_of g [] n k h = cc
id_of g (m ∷ ms) zero k h = (m, sym (some_is (type_id g m) k h))
id_of g (m ∷ ms) (suc n) k h = id_of g ms n k h

last_of : (g : Globals) (ns : List Name) (m : Name) (n k : ℕ) → slice_get (type_ids g ns ++ type_id g m ∷ []) n ≡ Some k → NamesPart g k
unfolding NamesPart
last_of g [] m zero k h = (m, sym (some_is (type_id g m) k h))
last_of g [] m (suc n) k h = cc
last_of g (x ∷ xs) m zero k h = (x, sym (some_is (type_id g x) k h))
last_of g (x ∷ xs) m (suc n) k h = last_of g xs m n k h

form_part : (g : Globals) (form : TypeForm) (n k : ℕ) → slice_get (parts_at (Some (type_definition g form))) n ≡ Some k → NamesPart g k
form_part g (written.Int w) n k h = cc
form_part g (written.Struct fields) n k h = id_of g fields n k h
form_part g (written.Array element size) n k h = last_of g [] element n k h
form_part g (written.Hybrid fixed element) n k h = last_of g fixed element n k h
form_part g written.Void n k h = cc
form_part g (written.Ref t) n k h = cc
form_part g (written.Iref t) n k h = cc
form_part g (written.Funcref s) n k h = cc
form_part g written.Stackref n k h = cc
form_part g written.Threadref n k h = cc

no_part : (g : Globals) (is : List Item) (t n k : ℕ) → slice_get (parts_at (slice_get (signatures_of g is) t)) n ≡ Some k → ⊥
no_part g [] t n k h = cc
no_part g (items.Typedef d ∷ is) t n k h = no_part g is t n k h
no_part g (items.Funcsig d ∷ is) zero n k h = cc
no_part g (items.Funcsig d ∷ is) (suc t) n k h = no_part g is t n k h
no_part g (items.Const d ∷ is) t n k h = no_part g is t n k h
no_part g (items.GlobalCell d ∷ is) t n k h = no_part g is t n k h
no_part g (items.Funcdecl d ∷ is) t n k h = no_part g is t n k h
no_part g (items.Funcdef d ∷ is) t n k h = no_part g is t n k h

-- a definition with parts is one of a type that is written, so that there is one
type_part : (g : Globals) (is js : List Item) (t n k : ℕ) → slice_get (parts_at (slice_get (types_of g is ++ signatures_of g js) t)) n ≡ Some k → NamesPart g k × (0 < length (types_of g is))
type_part g [] js t n k h = absurd (no_part g js t n k h)
type_part g (items.Typedef d ∷ is) js zero n k h = (form_part g d.form n k h, omega arith)
type_part g (items.Typedef d ∷ is) js (suc t) n k h = ((type_part g is js t n k h).0, omega arith)
type_part g (items.Funcsig d ∷ is) js t n k h = type_part g is js t n k h
type_part g (items.Const d ∷ is) js t n k h = type_part g is js t n k h
type_part g (items.GlobalCell d ∷ is) js t n k h = type_part g is js t n k h
type_part g (items.Funcdecl d ∷ is) js t n k h = type_part g is js t n k h
type_part g (items.Funcdef d ∷ is) js t n k h = type_part g is js t n k h

pub part_is_type : (g : Globals) (bundle : List Item) (t n k : ℕ) → Counted g bundle → slice_get (parts_at (definition_at (table_of g bundle) t)) n ≡ Some k →
    is_type_there (definition_at (table_of g bundle) k) ≡ true
unfolding NamesPart
part_is_type g bundle t n k c h = by (nat_lt t (length (graph_of g bundle))) refl
  where
    by : (b : Bool) → nat_lt t (length (graph_of g bundle)) ≡ b → is_type_there (definition_at (table_of g bundle) k) ≡ true
    by true e =
        let there : definition_at (table_of g bundle) t ≡ slice_get (graph_of g bundle) t = written_at g bundle t (is_below t (length (graph_of g bundle)) e) in
        let part : NamesPart g k × (0 < length (types_of g bundle)) =
        type_part g bundle bundle t n k (subst (λ (o : Option TypeDef). slice_get (parts_at o) n ≡ Some k) there h) in
        let low : type_id g part.0.0 < length (types_of g bundle) = type_id_below g part.0.0 (length (types_of g bundle)) (omega (arith, c.types)) part.1 in
        subst (λ (x : ℕ). is_type_there (definition_at (table_of g bundle) x) ≡ true) (sym part.0.1) (is_type_at g bundle (type_id g part.0.0) low)
    by false e =
        let none : slice_get (parts_at None) n ≡ Some k = subst (λ (o : Option TypeDef). slice_get (parts_at o) n ≡ Some k) (not_written g bundle t e) h in cc
