-- Functions as operands: what a name of a function stands for in a bundle, it stands for the like in the joined one.
use Rattle.std.proofs.Common.{◌≡◌, ℕ, zero, suc, ◌+◌, ◌<◌, Bool, true, false, List, [], ◌∷◌, ◌++◌, length, Option, Some, None, slice_get, unwrap_or, option_and_then, if◌then◌else◌, ◌⊎◌, inl, inr, refl, sym, ◌∙◌, ap, subst, arith}
use Rattle.std.proofs.lemmas.Bool.{false≢true, and_from}
use Rattle.type_definitions.specs.declared.definition.TypeDef.TheVariants.{FuncRef}
use Rattle.std.proofs.lemmas.Option.{slice_get_within}
use Rattle.type_definitions.specs.Same.{same, agree_at}
use Rattle.type_definitions.specs.Class.{class_of}
use Rattle.type_definitions.specs.Lemmas.Proved.{decided, congruence}
use Rattle.ir_lex.specs.declared.name.Name.{Name}
use Rattle.ir_tree.specs.declared.definitions.Funcdecl.{Funcdecl}
use Rattle.ir_tree.specs.declared.items.Funcdef.{Funcdef}
use Rattle.ir_tree.specs.declared.items.Item.{Item}
use Rattle.ir_tree.specs.declared.items.Item.TheVariants as items
use Rattle.bundle_names.specs.declared.globals.Sort.{Sort}
use Rattle.bundle_names.specs.declared.globals.Sort.TheVariants as sorts
use Rattle.bundle_names.specs.declared.globals.Globals.{Globals}
use Rattle.check_tables.specs.declared.tables.Signature.{Signature}
use Rattle.demands.specs.Demands.{AllMet}
use Rattle.name_scopes.specs.Names.{found}
use Rattle.bundle_names.specs.Globals.{with_item, with_items, no_globals, globals_of}
use Rattle.bundle_names.specs.Uses.{is_signature}
use Rattle.bundle_names.specs.Naming.{name_demands}
use Rattle.check_tables.specs.Types.{class_like}
use Rattle.check_tables.specs.Lookups.{signature_number, signature_in, signature_named, funcref_of, global_class}
use Rattle.checked_code.specs.Graph.{signature_id, type_ids}
use Rattle.bundle_names.specs.Definitions.{items_demands}
use Rattle.bundle_names.specs.ItemUses.{item_use}
use Rattle.checked_code.specs.Entries.{noted_signature, defined_signatures, is_function, declared_entry, function_entries, signature_entry, tables_of}
use Rattle.checked_code.specs.Operands.{is_class}
use Rattle.checked_code.specs.Functions.{class_of_signature}
use Rattle.checked_code.specs.Checking.{bundle_tables}
use Rattle.bundle_join.specs.Joined.{name_of}
use Rattle.join_laws.proofs.Names.{some_is, added_cases}
use Rattle.join_laws.proofs.Classes.{Goes, StandsIn, IsWhole, Pair, below, class_is_like}
use Rattle.join_laws.proofs.Lookups.{funcref_of_goes}
use Rattle.join_laws.proofs.Operands.{nat_eq_is}
use Rattle.join_laws.proofs.Graphs.{get_at, signature_is, id_of_signature}
use Rattle.join_laws.proofs.Alike.{Alike}
use Rattle.join_laws.proofs.Members.{Member, in_of, member_of, ArePair, Once}
use Rattle.join_laws.proofs.Joining.{once_two, pair_back}
use Rattle.join_laws.proofs.Joined.{Represents, uses_in, graph, behind_types, written_signature}
use Rattle.join_laws.proofs.Tables.{table, placed, entry_of_name, sig_there, written_signatures}
use Rattle.join_laws.proofs.Sorts.{sorts_go, alike_named}
use Rattle.join_laws.proofs.Uses.{SortGoes}
use Rattle.join_laws.proofs.Values.{FunctionsGo}
use Rattle.join_laws.proofs.Declared.{by_number, by_text, goes_by}
use Rattle.bundle_facts.specs.Lemmas.Names.{names_low}

-- ---- definitions by number

record DefinedAt (is : List Item) (g : Globals) (name : List ℕ) (n : ℕ) : Type 0 where
  before : List Item
  definition : Funcdef
  behind : List Item
  whole : is ≡ before ++ items.Funcdef definition ∷ behind
  same : name ≡ definition.name.text
  number : n ≡ (with_items g before).counts.definitions

later : (g : Globals) (i : Item) (is : List Item) (name : List ℕ) (n : ℕ) → DefinedAt is (with_item g i) name n → DefinedAt (i ∷ is) g name n
later g i is name n at = record { before = i ∷ at.before; definition = at.definition; behind = at.behind; whole = ap (λ (xs : List Item). i ∷ xs) at.whole; same = at.same; number = at.number }

defined_at : (g : Globals) (is : List Item) (name : List ℕ) (n : ℕ) → found (with_items g is).defined name ≡ Some n → (found g.defined name ≡ Some n) ⊎ DefinedAt is g name n
defined_at g [] name n h = inl h
defined_at g (items.Funcdef d ∷ is) name n h = elim (defined_at (with_item g (items.Funcdef d)) is name n h) [
  | inl here ↦ elim (added_cases g.defined d.name.text name g.counts.definitions n here) [
    | inl old ↦ inl old
    | inr new ↦ inr (record { before = []; definition = d; behind = is; whole = refl; same = new.0; number = new.1 })
  ]
  | inr at ↦ inr (later g (items.Funcdef d) is name n at)
]
defined_at g (i ∷ is) name n h = elim (defined_at (with_item g i) is name n h) [ inl here ↦ inl here | inr at ↦ inr (later g i is name n at) ]

defined_split : (g : Globals) (is js : List Item) → defined_signatures g (is ++ js) ≡ defined_signatures g is ++ defined_signatures g js
defined_split g [] js = refl
defined_split g (items.Funcdef d ∷ is) js = ap (λ (xs : List ℕ). noted_signature g d.signature ∷ xs) (defined_split g is js)
defined_split g (items.Typedef d ∷ is) js = defined_split g is js
defined_split g (items.Funcsig d ∷ is) js = defined_split g is js
defined_split g (items.Const d ∷ is) js = defined_split g is js
defined_split g (items.GlobalCell d ∷ is) js = defined_split g is js
defined_split g (items.Funcdecl d ∷ is) js = defined_split g is js

defined_counted : (g h : Globals) (is : List Item) → (with_items g is).counts.definitions ≡ g.counts.definitions + length (defined_signatures h is)
defined_counted g h [] = omega arith
defined_counted g h (items.Funcdef d ∷ is) = omega (arith, defined_counted (with_item g (items.Funcdef d)) h is)
defined_counted g h (items.Typedef d ∷ is) = defined_counted (with_item g (items.Typedef d)) h is
defined_counted g h (items.Funcsig d ∷ is) = defined_counted (with_item g (items.Funcsig d)) h is
defined_counted g h (items.Const d ∷ is) = defined_counted (with_item g (items.Const d)) h is
defined_counted g h (items.GlobalCell d ∷ is) = defined_counted (with_item g (items.GlobalCell d)) h is
defined_counted g h (items.Funcdecl d ∷ is) = defined_counted (with_item g (items.Funcdecl d)) h is

-- ---- the entry of a function is the signature that an item of its name has

abbrev pub Signs : Item → Name → Type 0
Signs (items.Funcdecl d) n = d.signature ≡ n
Signs (items.Funcdef d) n = d.signature ≡ n
Signs _ n = ⊥

record Entry (b : List Item) (n s : ℕ) : Type 0 where
  name : List ℕ
  item : Item
  signature : Name
  found : found (globals_of b).names name ≡ Some (sorts.Function n)
  member : Member item b
  named : name ≡ (name_of item).text
  signs : Signs item signature
  is : s ≡ noted_signature (globals_of b) signature

function_found : (o : Option Sort) (k : ℕ) → is_function o k ≡ true → o ≡ Some (sorts.Function k)
function_found (Some (sorts.Function n)) k h = ap (λ (m : ℕ). Some (sorts.Function m)) (nat_eq_is n k h)
function_found o k h = absurd (false≢true h)

declared_by : (b : List Item) (d : Funcdecl) (n : ℕ) → Member (items.Funcdecl d) b → found (globals_of b).names d.name.text ≡ Some (sorts.Function n) → Entry b n (declared_entry (globals_of b) (defined_signatures (globals_of b) b) d)
declared_by b d n m h = by (found (globals_of b).defined d.name.text) refl
  where
    g : Globals
    g = globals_of b

    own : Entry b n (noted_signature (globals_of b) d.signature)
    own = record { name = d.name.text; item = items.Funcdecl d; signature = d.signature; found = h; member = m; named = refl; signs = refl; is = refl }

    there : (k : ℕ) (o : Option ℕ) → found (globals_of b).defined d.name.text ≡ Some k → slice_get (defined_signatures (globals_of b) b) k ≡ o → Entry b n (unwrap_or o (noted_signature (globals_of b) d.signature))
    there k None e f = own
    there k (Some s) e f = elim (defined_at no_globals b d.name.text k e) [
      | inl nothing ↦ cc
      | inr at ↦
          let x = at.definition in
          let many : (with_items no_globals at.before).counts.definitions ≡ 0 + length (defined_signatures (globals_of b) at.before) = defined_counted no_globals (globals_of b) at.before in
          let same : k ≡ length (defined_signatures (globals_of b) at.before) = omega (arith, many, at.number) in
          let is : slice_get (defined_signatures (globals_of b) b) k ≡ Some (noted_signature (globals_of b) x.signature) =
          ap (λ (n : ℕ). slice_get (defined_signatures (globals_of b) b) n) same
          ∙ (ap (λ (xs : List ℕ). slice_get xs (length (defined_signatures (globals_of b) at.before))) (ap (defined_signatures (globals_of b)) at.whole ∙ defined_split (globals_of b) at.before (items.Funcdef x ∷ at.behind))
          ∙ get_at (defined_signatures (globals_of b) at.before) (defined_signatures (globals_of b) at.behind) (noted_signature (globals_of b) x.signature)) in
          record {
            name = d.name.text;
            item = items.Funcdef x;
            signature = x.signature;
            found = h;
            member = member_of (items.Funcdef x) b (record { before = at.before; behind = at.behind; whole = at.whole });
            named = at.same;
            signs = refl;
            is = some_is s (noted_signature (globals_of b) x.signature) (sym f ∙ is);
          }
    ]

    by : (o : Option ℕ) → found (globals_of b).defined d.name.text ≡ o → Entry b n (unwrap_or (option_and_then (slice_get (defined_signatures (globals_of b) b)) o) (noted_signature (globals_of b) d.signature))
    by None e = own
    by (Some k) e = there k (slice_get (defined_signatures (globals_of b) b) k) e refl

entry_next : (b : List Item) (t : Bool) (first : ℕ) (more : ℕ → List ℕ) (k n s : ℕ) → (t ≡ true → Entry b k first) → ((m i : ℕ) → slice_get (more m) i ≡ Some s → Entry b (m + i) s) → slice_get (if t then first ∷ more (suc k) else more k) n ≡ Some s → Entry b (k + n) s
entry_next b false first more k n s own rest h = rest k n h
entry_next b true first more k zero s own rest h =
    let z : k ≡ k + 0 = omega arith in
    subst (λ (m : ℕ). Entry b m s) z (subst (λ (x : ℕ). Entry b k x) (some_is first s h) (own refl))
entry_next b true first more k (suc n) s own rest h = let z : suc k + n ≡ k + suc n = omega arith in subst (λ (m : ℕ). Entry b m s) z (rest (suc k) n h)

entries_from : (b is : List Item) (k n s : ℕ) → ((i : Item) → Member i is → Member i b) → slice_get (function_entries (globals_of b) (defined_signatures (globals_of b) b) k is) n ≡ Some s → Entry b (k + n) s
entries_from b [] k n s sub h = cc
entries_from b (items.Typedef d ∷ is) k n s sub h = entries_from b is k n s (λ i m. sub i (inr m)) h
entries_from b (items.Funcsig d ∷ is) k n s sub h = entries_from b is k n s (λ i m. sub i (inr m)) h
entries_from b (items.Const d ∷ is) k n s sub h = entries_from b is k n s (λ i m. sub i (inr m)) h
entries_from b (items.GlobalCell d ∷ is) k n s sub h = entries_from b is k n s (λ i m. sub i (inr m)) h
entries_from b (items.Funcdecl d ∷ is) k n s sub h =
    let g = globals_of b in
    entry_next b (is_function (found g.names d.name.text) k) (declared_entry g (defined_signatures g b) d) (λ m. function_entries g (defined_signatures g b) m is) k n s
    (λ e. declared_by b d k (sub (items.Funcdecl d) (inl refl)) (function_found (found g.names d.name.text) k e)) (λ m i e. entries_from b is m i s (λ i m. sub i (inr m)) e) h
entries_from b (items.Funcdef d ∷ is) k n s sub h =
    let g = globals_of b in
    entry_next b (is_function (found g.names d.name.text) k) (noted_signature g d.signature) (λ m. function_entries g (defined_signatures g b) m is) k n s
    (λ e. record { name = d.name.text; item = items.Funcdef d; signature = d.signature; found = function_found (found g.names d.name.text) k e; member = sub (items.Funcdef d) (inl refl); named = refl; signs = refl; is = refl })
    (λ m i e. entries_from b is m i s (λ i m. sub i (inr m)) e) h

entry_of : (b : List Item) (n s : ℕ) → slice_get (function_entries (globals_of b) (defined_signatures (globals_of b) b) 0 b) n ≡ Some s → Entry b n s
entry_of b n s h = let z : 0 + n ≡ n = omega arith in subst (λ (m : ℕ). Entry b m s) z (entries_from b b 0 n s (λ i m. m) h)

-- ---- signatures of one class have references of one class

like_same : (j : List Item) → IsWhole (table j) → (a b : ℕ) → same (graph j) a b ≡ true → StandsIn (graph j) (FuncRef a) → StandsIn (graph j) (FuncRef b) → class_like (graph j) (FuncRef a) ≡ class_like (graph j) (FuncRef b)
like_same j whole a b e x y =
    let g = graph j in
    let law = congruence g whole.graph in
    let la : x.at < length g = slice_get_within g x.at (FuncRef a) x.there in
    let lb : y.at < length g = slice_get_within g y.at (FuncRef b) y.there in
    let agreed : agree_at (same g) (slice_get g x.at) (slice_get g y.at) ≡ true = rw (x.there, y.there) (and_from (same g a b) true e refl) in
    sym (class_is_like g law x.at (FuncRef a) x.there) ∙ (((decided g whole.graph).equal x.at y.at la lb).1 ((law x.at y.at la lb).1 agreed) ∙ class_is_like g law y.at (FuncRef b) y.there)

-- what the name of a signature leads to, by its id
record Signed (j : List Item) (n : Name) : Type 0 where
  entry : Signature
  id : ℕ
  low : id < length (graph j)
  is : signature_named (bundle_tables j) n ≡ Some entry
  class : entry.class ≡ class_of (graph j) id
  funcref : entry.funcref ≡ class_like (graph j) (FuncRef id)
  stands : StandsIn (graph j) (FuncRef id)

signed : (j : List Item) → IsWhole (table j) → AllMet (items_demands no_globals j) → (n : Name) → is_signature (found (globals_of j).names n.text) ≡ true → Signed j n
unfolding tables_of
signed j whole once n h =
    let s = written_signature (found (globals_of j).names n.text) h in
    let p = placed j n.text s.0 s.1 in
    let is = signature_is j p.definition once p.item in
    let k : ℕ = behind_types j is.number in
    let low : k < (table j).written = written_signatures j is.number is.low in
    let sig = sig_there j is.number (type_ids (globals_of j) p.definition.takes) (type_ids (globals_of j) p.definition.gives) low is.there in
    let id : signature_id (globals_of j) p.definition.name ≡ k = id_of_signature j p.definition.name is.number is.named in
    record {
      entry = signature_entry (table j) (globals_of j) p.definition;
      id = k;
      low = omega (arith, low, whole.written);
      is = ap (λ (o : Option Sort). signature_in (bundle_tables j) (signature_number o)) s.1 ∙ entry_of_name j n.text s.0 p;
      class = rw (id, below k (table j).written low) refl;
      funcref = rw (id, sig) refl;
      stands = whole.funcref k sig;
    }

pub one_funcref : (j : List Item) → IsWhole (table j) → AllMet (items_demands no_globals j) → (x y : Name) → is_signature (found (globals_of j).names x.text) ≡ true → is_signature (found (globals_of j).names y.text) ≡ true →
    is_class (class_of_signature (signature_named (bundle_tables j) x)) (class_of_signature (signature_named (bundle_tables j) y)) ≡ true → funcref_of (signature_named (bundle_tables j) x) ≡ funcref_of (signature_named (bundle_tables j) y)
one_funcref j whole once x y hx hy h =
    let a = signed j whole once x hx in
    let b = signed j whole once y hy in
    let both : is_class (class_of_signature (Some a.entry)) (class_of_signature (Some b.entry)) ≡ true = moved (signature_named (bundle_tables j) x) (signature_named (bundle_tables j) y) a.entry b.entry a.is b.is h in
    let classes : class_of (graph j) a.id ≡ class_of (graph j) b.id = sym a.class ∙ (nat_eq_is a.entry.class b.entry.class both ∙ b.class) in
    let alike = ((decided (graph j) whole.graph).equal a.id b.id a.low b.low).0 classes in
    ap funcref_of a.is ∙ (ap (λ (n : ℕ). Some n) (a.funcref ∙ (like_same j whole a.id b.id alike a.stands b.stands ∙ sym b.funcref)) ∙ sym (ap funcref_of b.is))
  where
    moved : (o p : Option Signature) (a b : Signature) → o ≡ Some a → p ≡ Some b → is_class (class_of_signature o) (class_of_signature p) ≡ true → is_class (class_of_signature (Some a)) (class_of_signature (Some b)) ≡ true
    moved o p a b e f h = rw (e, f) at h

-- ---- functions

signs_used : (b : List Item) (i : Item) (n : Name) → AllMet (item_use (globals_of b).names i) → Signs i n → is_signature (found (globals_of b).names n.text) ≡ true
signs_used b (items.Funcdecl d) n m e = subst (λ (x : Name). is_signature (found (globals_of b).names x.text) ≡ true) e m.1
signs_used b (items.Funcdef d) n m e = subst (λ (x : Name). is_signature (found (globals_of b).names x.text) ≡ true) e m.0.1
signs_used b (items.Typedef d) n m e = absurd e
signs_used b (items.Funcsig d) n m e = absurd e
signs_used b (items.Const d) n m e = absurd e
signs_used b (items.GlobalCell d) n m e = absurd e

-- an item that is alike names the same signature
record SignsLike (i : Item) (n : Name) : Type 0 where
  signature : Name
  signs : Signs i signature
  text : n.text ≡ signature.text

signs_like : (i k : Item) (n : Name) → Signs i n → Alike i k → SignsLike k n
signs_like (items.Funcdecl d) (items.Funcdecl e) n s a = record { signature = e.signature; signs = refl; text = ap (λ (x : Name). x.text) (sym s) ∙ a.1 }
signs_like (items.Funcdef d) (items.Funcdef e) n s a = record { signature = e.signature; signs = refl; text = ap (λ (x : Name). x.text) (sym s) ∙ ap (λ (x : Funcdef). x.signature.text) a }
signs_like (items.Funcdecl d) k n s a = absurd a
signs_like (items.Funcdef d) k n s a = absurd a
signs_like i k n s a = absurd s

-- what two functions of one name in a joined bundle refer to has one class
abbrev pub OneSignature : List Item → Type 0
OneSignature j = (d : Funcdef) (e : Funcdecl) → Member (items.Funcdef d) j → Member (items.Funcdecl e) j → e.name.text ≡ d.name.text →
    is_class (class_of_signature (signature_named (bundle_tables j) e.signature)) (class_of_signature (signature_named (bundle_tables j) d.signature)) ≡ true

two_signs : (j : List Item) → IsWhole (table j) → AllMet (name_demands j) → Once j → OneSignature j → (k i : Item) (x y : Name) → Member k j → Member i j → (name_of k).text ≡ (name_of i).text → Signs k x → Signs i y →
    funcref_of (signature_named (bundle_tables j) x) ≡ funcref_of (signature_named (bundle_tables j) y)
two_signs j whole here once one k i x y m n e s t = elim (once_two j once k i m n e) [
  | inl same ↦ ap (λ (z : Name). funcref_of (signature_named (bundle_tables j) z)) (signs_one i x y (subst (λ (z : Item). Signs z x) same s) t)
  | inr two ↦
      let p : ArePair k i = elim two [ inl p ↦ p | inr p ↦ pair_back i k p ] in
      by k i m n e s t p
]
  where
    signs_one : (i : Item) (x y : Name) → Signs i x → Signs i y → x ≡ y
    signs_one (items.Funcdecl d) x y s t = sym s ∙ t
    signs_one (items.Funcdef d) x y s t = sym s ∙ t
    signs_one (items.Typedef d) x y s t = absurd s
    signs_one (items.Funcsig d) x y s t = absurd s
    signs_one (items.Const d) x y s t = absurd s
    signs_one (items.GlobalCell d) x y s t = absurd s

    used : (i : Item) (n : Name) → Member i j → Signs i n → is_signature (found (globals_of j).names n.text) ≡ true
    used i n m s = signs_used j i n (uses_in j i here.1 (in_of i j m)) s

    by : (k i : Item) → Member k j → Member i j → (name_of k).text ≡ (name_of i).text → Signs k x → Signs i y → ArePair k i → funcref_of (signature_named (bundle_tables j) x) ≡ funcref_of (signature_named (bundle_tables j) y)
    by (items.Funcdecl d) (items.Funcdef c) m n e s t p =
        one_funcref j whole here.0 x y (used (items.Funcdecl d) x m s) (used (items.Funcdef c) y n t)
        (subst (λ (z : Name). is_class (class_of_signature (signature_named (bundle_tables j) z)) (class_of_signature (signature_named (bundle_tables j) y)) ≡ true) s
        (subst (λ (z : Name). is_class (class_of_signature (signature_named (bundle_tables j) d.signature)) (class_of_signature (signature_named (bundle_tables j) z)) ≡ true) t (one c d n m e)))
    by (items.Funcdef c) (items.Funcdecl d) m n e s t p =
        sym (one_funcref j whole here.0 y x (used (items.Funcdecl d) y n t) (used (items.Funcdef c) x m s)
        (subst (λ (z : Name). is_class (class_of_signature (signature_named (bundle_tables j) z)) (class_of_signature (signature_named (bundle_tables j) x)) ≡ true) t
        (subst (λ (z : Name). is_class (class_of_signature (signature_named (bundle_tables j) d.signature)) (class_of_signature (signature_named (bundle_tables j) z)) ≡ true) s (one c d m n (sym e)))))
    by k i m n e s t p = absurd p

-- each function of a bundle has an entry
abbrev pub HasEntries : List Item → Type 0
HasEntries j = (name : List ℕ) (n : ℕ) → found (globals_of j).names name ≡ Some (sorts.Function n) → (s : ℕ) × (slice_get (bundle_tables j).functions n ≡ Some s)

function_sort : (o : Option Sort) (n : ℕ) → SortGoes (Some (sorts.Function n)) o → (m : ℕ) × (o ≡ Some (sorts.Function m))
function_sort (Some (sorts.Function m)) n g = (m, refl)
function_sort o n g = absurd g

pub functions_go : (b j : List Item) → Represents b j → Pair (table b) (table j) → AllMet (name_demands j) → Once j → OneSignature j → HasEntries j → FunctionsGo b j
unfolding tables_of
functions_go b j r pair here once one entries name n h = by (slice_get (bundle_tables b).functions n) refl
  where
    by : (o : Option ℕ) → slice_get (bundle_tables b).functions n ≡ o → Goes (table b) (table j) (funcref_of (signature_in (bundle_tables b) o)) (global_class (bundle_tables j) (found (globals_of j).names name))
    by None e = tt
    by (Some s) e =
        let x = entry_of b n s e in
        let own : x.name ≡ name = (names_low b).one x.name name (sorts.Function n) x.found h in
        let like = r.each x.item (in_of x.item b x.member) in
        let k = signs_like x.item like.item x.signature x.signs like.alike in
        let m = function_sort (found (globals_of j).names name) n (subst (λ (o : Option Sort). SortGoes o (found (globals_of j).names name)) h ((sorts_go b j r.once r.each).each name)) in
        let t = entries name m.0 m.1 in
        let y = entry_of j m.0 t.0 t.1 in
        let other : y.name ≡ name = (names_low j).one y.name name (sorts.Function m.0) y.found m.1 in
        let named : (name_of like.item).text ≡ (name_of y.item).text = sym (alike_named x.item like.item like.alike) ∙ (sym x.named ∙ (own ∙ (sym other ∙ y.named))) in
        let used_b = signs_used b x.item x.signature (uses_in b x.item r.used (in_of x.item b x.member)) x.signs in
        let used_j = signs_used j y.item y.signature (uses_in j y.item here.1 (in_of y.item j y.member)) y.signs in
        let equal = two_signs j pair.other here once one like.item y.item k.signature y.signature (member_of like.item j like.there) y.member named k.signs y.signs in
        let goes = funcref_of_goes (table b) (table j) (signature_named (bundle_tables b) x.signature) (signature_named (bundle_tables j) x.signature) (goes_by b j r pair x.signature) in
        let left : signature_in (bundle_tables b) (Some s) ≡ signature_named (bundle_tables b) x.signature = ap (λ (z : ℕ). signature_in (bundle_tables b) (Some z)) x.is ∙ by_number b x.signature used_b in
        let right : global_class (bundle_tables j) (found (globals_of j).names name) ≡ funcref_of (signature_named (bundle_tables j) y.signature) =
        ap (global_class (bundle_tables j)) m.1 ∙ (ap (λ (z : Option ℕ). funcref_of (signature_in (bundle_tables j) z)) (t.1 ∙ ap (λ (z : ℕ). Some z) y.is) ∙ ap funcref_of (by_number j y.signature used_j)) in
        let middle : funcref_of (signature_named (bundle_tables j) x.signature) ≡ global_class (bundle_tables j) (found (globals_of j).names name) =
        ap funcref_of (by_text (bundle_tables j) x.signature k.signature k.text) ∙ (equal ∙ sym right) in
        subst (λ (z : Option Signature). Goes (table b) (table j) (funcref_of z) (global_class (bundle_tables j) (found (globals_of j).names name))) (sym left)
        (subst (λ (z : Option ℕ). Goes (table b) (table j) (funcref_of (signature_named (bundle_tables b) x.signature)) z) middle goes)
