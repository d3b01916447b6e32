-- The types of a bundle by name: what a name of a type leads to in the graph.
use Rattle.std.proofs.Common.{◌≡◌, ℕ, suc, ◌+◌, ◌<◌, List, [], ◌∷◌, ◌++◌, length, Some, slice_get, inl, inr, refl, sym, ◌∙◌, ap, subst, append_assoc, arith}
use Rattle.std.proofs.lemmas.List.{length-append}
use Rattle.type_definitions.specs.declared.definition.TypeDef.{TypeDef}
use Rattle.type_definitions.specs.declared.definition.TypeDef.TheVariants.{Int, Void, StackRef, ThreadRef, Sig}
use Rattle.ir_lex.specs.declared.name.Name.{Name}
use Rattle.ir_tree.specs.declared.definitions.Typedef.{Typedef}
use Rattle.ir_tree.specs.declared.definitions.Funcsig.{Funcsig}
use Rattle.ir_tree.specs.declared.items.Item.{Item}
use Rattle.ir_tree.specs.declared.items.Item.TheVariants as items
use Rattle.bundle_names.specs.declared.globals.Sort.TheVariants as sorts
use Rattle.bundle_names.specs.declared.globals.Globals.{Globals}
use Rattle.demands.specs.Demands.{AllMet}
use Rattle.name_scopes.specs.Names.{found}
use Rattle.mu_types.specs.Implied.{complete, references_from}
use Rattle.bundle_names.specs.Globals.{with_item, with_items, no_globals, globals_of}
use Rattle.bundle_names.specs.Definitions.{items_demands}
use Rattle.checked_code.specs.Graph.{type_id, type_ids, signature_id, type_definition, types_of, signatures_of, graph_of}
pub use Rattle.bundle_laws.specs.Lemmas.Graph.{get_right}
pub use Rattle.bundle_facts.specs.Lemmas.Completed.{get_left}
use Rattle.join_laws.proofs.Classes.{below}
use Rattle.join_laws.proofs.Numbers.{name_of, sort_of, FoundAt, leads_to, own}

-- an item stands in a bundle
pub record In (i : Item) (b : List Item) : Type 0 where
  pub before : List Item
  pub behind : List Item
  pub whole : b ≡ before ++ i ∷ behind

-- ---- lists

pub get_at : {T : Type 0} (xs ys : List T) (y : T) → slice_get (xs ++ y ∷ ys) (length xs) ≡ Some y
get_at [] ys y = refl
get_at (x ∷ xs) ys y = get_at xs ys y

types_append : (h : Globals) (is js : List Item) → types_of h (is ++ js) ≡ types_of h is ++ types_of h js
types_append h [] js = refl
types_append h (items.Typedef d ∷ is) js = ap (λ (xs : List TypeDef). type_definition h d.form ∷ xs) (types_append h is js)
types_append h (items.Funcsig d ∷ is) js = types_append h is js
types_append h (items.Const d ∷ is) js = types_append h is js
types_append h (items.GlobalCell d ∷ is) js = types_append h is js
types_append h (items.Funcdecl d ∷ is) js = types_append h is js
types_append h (items.Funcdef d ∷ is) js = types_append h is js

signatures_append : (h : Globals) (is js : List Item) → signatures_of h (is ++ js) ≡ signatures_of h is ++ signatures_of h js
signatures_append h [] js = refl
signatures_append h (items.Typedef d ∷ is) js = signatures_append h is js
signatures_append h (items.Funcsig d ∷ is) js = ap (λ (xs : List TypeDef). Sig (type_ids h d.takes) (type_ids h d.gives) ∷ xs) (signatures_append h is js)
signatures_append h (items.Const d ∷ is) js = signatures_append h is js
signatures_append h (items.GlobalCell d ∷ is) js = signatures_append h is js
signatures_append h (items.Funcdecl d ∷ is) js = signatures_append h is js
signatures_append h (items.Funcdef d ∷ is) js = signatures_append h is js

-- ---- how many there are

written_counted : (g h : Globals) (is : List Item) → (with_items g is).counts.written ≡ g.counts.written + length (types_of h is)
written_counted g h [] = omega arith
written_counted g h (items.Typedef d ∷ is) = omega (arith, written_counted (with_item g (items.Typedef d)) h is)
written_counted g h (items.Funcsig d ∷ is) = written_counted (with_item g (items.Funcsig d)) h is
written_counted g h (items.Const d ∷ is) = written_counted (with_item g (items.Const d)) h is
written_counted g h (items.GlobalCell d ∷ is) = written_counted (with_item g (items.GlobalCell d)) h is
written_counted g h (items.Funcdecl d ∷ is) = written_counted (with_item g (items.Funcdecl d)) h is
written_counted g h (items.Funcdef d ∷ is) = written_counted (with_item g (items.Funcdef d)) h is

signatures_counted : (g h : Globals) (is : List Item) → (with_items g is).counts.signatures ≡ g.counts.signatures + length (signatures_of h is)
signatures_counted g h [] = omega arith
signatures_counted g h (items.Typedef d ∷ is) = signatures_counted (with_item g (items.Typedef d)) h is
signatures_counted g h (items.Funcsig d ∷ is) = omega (arith, signatures_counted (with_item g (items.Funcsig d)) h is)
signatures_counted g h (items.Const d ∷ is) = signatures_counted (with_item g (items.Const d)) h is
signatures_counted g h (items.GlobalCell d ∷ is) = signatures_counted (with_item g (items.GlobalCell d)) h is
signatures_counted g h (items.Funcdecl d ∷ is) = signatures_counted (with_item g (items.Funcdecl d)) h is
signatures_counted g h (items.Funcdef d ∷ is) = signatures_counted (with_item g (items.Funcdef d)) h is

pub many_types : (h : Globals) (is : List Item) → (with_items no_globals is).counts.written ≡ length (types_of h is)
many_types h is = let e : (with_items no_globals is).counts.written ≡ 0 + length (types_of h is) = written_counted no_globals h is in omega (arith, e)

pub many_signatures : (h : Globals) (is : List Item) → (with_items no_globals is).counts.signatures ≡ length (signatures_of h is)
many_signatures h is = let e : (with_items no_globals is).counts.signatures ≡ 0 + length (signatures_of h is) = signatures_counted no_globals h is in omega (arith, e)

-- ---- what stands at a number

pub written_first : (w : List TypeDef) (n : ℕ) → n < length w → slice_get (complete w) n ≡ slice_get w n
written_first w n l =
    let four = Int 1 ∷ Int 32 ∷ StackRef ∷ ThreadRef ∷ [] in
    let refs = references_from 0 (w ++ Void ∷ []) in
    let e : complete w ≡ w ++ (Void ∷ Int 1 ∷ Int 32 ∷ StackRef ∷ ThreadRef ∷ refs) = append_assoc (w ++ Void ∷ []) four refs ∙ append_assoc w (Void ∷ []) (four ++ refs) in
    ap (λ (xs : List TypeDef). slice_get xs n) e ∙ get_left w (Void ∷ Int 1 ∷ Int 32 ∷ StackRef ∷ ThreadRef ∷ refs) n l

-- a type of a bundle: it has a number and a definition
pub record TypeOf (b : List Item) (name : List ℕ) (t : ℕ) : Type 0 where
  pub definition : Typedef
  pub item : In (items.Typedef definition) b
  pub named : name ≡ definition.name.text
  pub low : t < length (types_of (globals_of b) b)
  pub there : slice_get (complete (graph_of (globals_of b) b)) t ≡ Some (type_definition (globals_of b) definition.form)

pub typedef_at : (b before behind : List Item) (d : Typedef) → b ≡ before ++ items.Typedef d ∷ behind →
    (length (types_of (globals_of b) before) < length (types_of (globals_of b) b)) × (slice_get (complete (graph_of (globals_of b) b)) (length (types_of (globals_of b) before)) ≡ Some (type_definition (globals_of b) d.form))
typedef_at b before behind d e =
    let g = globals_of b in
    let k = length (types_of g before) in
    let all : types_of g b ≡ types_of g before ++ type_definition g d.form ∷ types_of g behind = ap (types_of g) e ∙ types_append g before (items.Typedef d ∷ behind) in
    let long : length (types_of g b) ≡ k + suc (length (types_of g behind)) = ap (λ (xs : List TypeDef). length xs) all ∙ length-append (types_of g before) (type_definition g d.form ∷ types_of g behind) in
    let low : k < length (types_of g b) = omega (arith, long) in (
      low,
      written_first (graph_of g b) k (omega (arith, low, length-append (types_of g b) (signatures_of g b)))
          ∙ (get_left (types_of g b) (signatures_of g b) k low ∙ (ap (λ (xs : List TypeDef). slice_get xs k) all ∙ get_at (types_of g before) (types_of g behind) (type_definition g d.form))),
    )

written_one : (m n : ℕ) → sorts.Written m ≡ sorts.Written n → m ≡ n
written_one m n e = cc

type_by : (b : List Item) (name : List ℕ) (t : ℕ) → FoundAt no_globals b name (sorts.Written t) → TypeOf b name t
type_by b name t at = by at.item at.before at.behind at.whole at.same at.sort
  where
    by : (i : Item) (before behind : List Item) → b ≡ before ++ i ∷ behind → name ≡ (name_of i).text → sorts.Written t ≡ sort_of (with_items no_globals before) i → TypeOf b name t
    by (items.Typedef d) before behind e s k =
        let g = globals_of b in
        let there = typedef_at b before behind d e in
        let same : t ≡ length (types_of g before) = written_one t (with_items no_globals before).counts.written k ∙ many_types g before in
        record {
          definition = d;
          item = record { before = before; behind = behind; whole = e };
          named = s;
          low = omega (arith, same, there.0);
          there = ap (λ (n : ℕ). slice_get (complete (graph_of g b)) n) same ∙ there.1;
        }
    by (items.Funcsig d) before behind e s k = cc
    by (items.Const d) before behind e s k = cc
    by (items.GlobalCell d) before behind e s k = cc
    by (items.Funcdecl d) before behind e s k = cc
    by (items.Funcdef d) before behind e s k = cc

pub type_of_name : (b : List Item) (name : List ℕ) (t : ℕ) → found (globals_of b).names name ≡ Some (sorts.Written t) → TypeOf b name t
type_of_name b name t h = elim (leads_to no_globals b name (sorts.Written t) h) [
  | inl none ↦ cc
  | inr at ↦ type_by b name t at
]

-- a type of a bundle has a name, a number and its definition there
pub record TypeIs (b : List Item) (d : Typedef) : Type 0 where
  pub number : ℕ
  pub named : found (globals_of b).names d.name.text ≡ Some (sorts.Written number)
  pub low : number < length (types_of (globals_of b) b)
  pub there : slice_get (complete (graph_of (globals_of b) b)) number ≡ Some (type_definition (globals_of b) d.form)

unfoldable pub type_is : (b : List Item) (d : Typedef) → AllMet (items_demands no_globals b) → In (items.Typedef d) b → TypeIs b d
type_is b d m at =
    let g = globals_of b in
    let there = typedef_at b at.before at.behind d at.whole in
    let many = many_types g at.before in
    record {
      number = length (types_of g at.before);
      named = subst (λ (xs : List Item). found (with_items no_globals xs).names d.name.text ≡ Some (sorts.Written (with_items no_globals at.before).counts.written)) (sym at.whole)
          (own no_globals at.before (items.Typedef d) at.behind refl (subst (λ (xs : List Item). AllMet (items_demands no_globals xs)) at.whole m)) ∙ ap (λ (n : ℕ). Some (sorts.Written n)) many;
      low = there.0;
      there = there.1;
    }

-- ---- the same of signatures

pub record SignatureOf (b : List Item) (name : List ℕ) (s : ℕ) : Type 0 where
  pub definition : Funcsig
  pub item : In (items.Funcsig definition) b
  pub named : name ≡ definition.name.text
  pub low : s < length (signatures_of (globals_of b) b)
  pub there : slice_get (complete (graph_of (globals_of b) b)) (length (types_of (globals_of b) b) + s) ≡ Some (Sig (type_ids (globals_of b) definition.takes) (type_ids (globals_of b) definition.gives))

pub funcsig_at : (b before behind : List Item) (d : Funcsig) → b ≡ before ++ items.Funcsig d ∷ behind →
    (length (signatures_of (globals_of b) before) < length (signatures_of (globals_of b) b))
    × (slice_get (complete (graph_of (globals_of b) b)) (length (types_of (globals_of b) b) + length (signatures_of (globals_of b) before)) ≡ Some (Sig (type_ids (globals_of b) d.takes) (type_ids (globals_of b) d.gives)))
funcsig_at b before behind d e =
    let g = globals_of b in
    let k = length (signatures_of g before) in
    let x : TypeDef = Sig (type_ids g d.takes) (type_ids g d.gives) in
    let all : signatures_of g b ≡ signatures_of g before ++ x ∷ signatures_of g behind = ap (signatures_of g) e ∙ signatures_append g before (items.Funcsig d ∷ behind) in
    let long : length (signatures_of g b) ≡ k + suc (length (signatures_of g behind)) = ap (λ (xs : List TypeDef). length xs) all ∙ length-append (signatures_of g before) (x ∷ signatures_of g behind) in
    let low : k < length (signatures_of g b) = omega (arith, long) in (
      low,
      written_first (graph_of g b) (length (types_of g b) + k) (omega (arith, low, length-append (types_of g b) (signatures_of g b)))
          ∙ (get_right (types_of g b) (signatures_of g b) k ∙ (ap (λ (xs : List TypeDef). slice_get xs k) all ∙ get_at (signatures_of g before) (signatures_of g behind) x)),
    )

signature_one : (m n : ℕ) → sorts.Signature m ≡ sorts.Signature n → m ≡ n
signature_one m n e = cc

signature_by : (b : List Item) (name : List ℕ) (s : ℕ) → FoundAt no_globals b name (sorts.Signature s) → SignatureOf b name s
signature_by b name s at = by at.item at.before at.behind at.whole at.same at.sort
  where
    by : (i : Item) (before behind : List Item) → b ≡ before ++ i ∷ behind → name ≡ (name_of i).text → sorts.Signature s ≡ sort_of (with_items no_globals before) i → SignatureOf b name s
    by (items.Funcsig d) before behind e n k =
        let g = globals_of b in
        let there = funcsig_at b before behind d e in
        let same : s ≡ length (signatures_of g before) = signature_one s (with_items no_globals before).counts.signatures k ∙ many_signatures g before in
        record {
          definition = d;
          item = record { before = before; behind = behind; whole = e };
          named = n;
          low = omega (arith, same, there.0);
          there = ap (λ (n : ℕ). slice_get (complete (graph_of g b)) (length (types_of g b) + n)) same ∙ there.1;
        }
    by (items.Typedef d) before behind e n k = cc
    by (items.Const d) before behind e n k = cc
    by (items.GlobalCell d) before behind e n k = cc
    by (items.Funcdecl d) before behind e n k = cc
    by (items.Funcdef d) before behind e n k = cc

pub signature_of_name : (b : List Item) (name : List ℕ) (s : ℕ) → found (globals_of b).names name ≡ Some (sorts.Signature s) → SignatureOf b name s
signature_of_name b name s h = elim (leads_to no_globals b name (sorts.Signature s) h) [
  | inl none ↦ cc
  | inr at ↦ signature_by b name s at
]

pub record SignatureIs (b : List Item) (d : Funcsig) : Type 0 where
  pub item : In (items.Funcsig d) b
  pub number : ℕ
  pub named : found (globals_of b).names d.name.text ≡ Some (sorts.Signature number)
  pub low : number < length (signatures_of (globals_of b) b)
  pub there : slice_get (complete (graph_of (globals_of b) b)) (length (types_of (globals_of b) b) + number) ≡ Some (Sig (type_ids (globals_of b) d.takes) (type_ids (globals_of b) d.gives))
  pub placed : number ≡ length (signatures_of (globals_of b) item.before)

unfoldable pub signature_is : (b : List Item) (d : Funcsig) → AllMet (items_demands no_globals b) → In (items.Funcsig d) b → SignatureIs b d
signature_is b d m at =
    let g = globals_of b in
    let there = funcsig_at b at.before at.behind d at.whole in
    let many = many_signatures g at.before in
    record {
      item = at;
      placed = refl;
      number = length (signatures_of g at.before);
      named = subst (λ (xs : List Item). found (with_items no_globals xs).names d.name.text ≡ Some (sorts.Signature (with_items no_globals at.before).counts.signatures)) (sym at.whole)
          (own no_globals at.before (items.Funcsig d) at.behind refl (subst (λ (xs : List Item). AllMet (items_demands no_globals xs)) at.whole m)) ∙ ap (λ (n : ℕ). Some (sorts.Signature n)) many;
      low = there.0;
      there = there.1;
    }

-- ---- ids

pub id_of_type : (b : List Item) (n : Name) (t : ℕ) → found (globals_of b).names n.text ≡ Some (sorts.Written t) → type_id (globals_of b) n ≡ t
id_of_type b n t h =
    let low = (type_of_name b n.text t h).low in
    let few : t < (globals_of b).counts.written = omega (arith, low, many_types (globals_of b) b) in
    rw (h, below t (globals_of b).counts.written few) refl

pub id_of_signature : (b : List Item) (n : Name) (s : ℕ) → found (globals_of b).names n.text ≡ Some (sorts.Signature s) → signature_id (globals_of b) n ≡ length (types_of (globals_of b) b) + s
id_of_signature b n s h =
    let low = (signature_of_name b n.text s h).low in
    let few : s < (globals_of b).counts.signatures = omega (arith, low, many_signatures (globals_of b) b) in
    rw (h, below s (globals_of b).counts.signatures few, many_types (globals_of b) b) refl
