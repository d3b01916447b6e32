-- In a joined bundle a definition of a function is as its declaration says.
use Rattle.std.proofs.Common.{◌≡◌, ℕ, ◌+◌, true, List, [], ◌∷◌, ◌++◌, length, Option, Some, None, slice_get, ◌⊎◌, inl, inr, refl, sym, ◌∙◌, ap, subst, arith}
use Rattle.ir_lex.specs.declared.name.Name.{Name}
use Rattle.ir_tree.specs.declared.definitions.Funcdecl.{Funcdecl}
use Rattle.ir_tree.specs.declared.items.Funcdef.{Funcdef}
use Rattle.ir_tree.specs.declared.items.Item.{Item}
use Rattle.ir_tree.specs.declared.items.Item.TheVariants as items
use Rattle.bundle_names.specs.declared.globals.Sort.{Sort}
use Rattle.bundle_names.specs.declared.globals.Globals.{Globals}
use Rattle.check_tables.specs.declared.tables.Signature.{Signature}
use Rattle.check_tables.specs.declared.tables.Tables.{Tables}
use Rattle.mu_types.specs.Graph.{Table}
use Rattle.demands.specs.Demands.{AllMet}
use Rattle.name_scopes.specs.Names.{found}
use Rattle.bundle_names.specs.Globals.{with_item, with_items, no_globals, globals_of}
use Rattle.bundle_names.specs.Uses.{is_signature}
use Rattle.bundle_names.specs.Naming.{name_demands}
use Rattle.check_tables.specs.Lookups.{signature_number, signature_in, signature_named}
use Rattle.checked_code.specs.Entries.{noted_signature, declared_signatures, signature_entry, tables_of}
use Rattle.checked_code.specs.Operands.{is_class}
use Rattle.checked_code.specs.Functions.{class_of_signature, is_as_declared}
use Rattle.checked_code.specs.Checking.{bundle_tables, check_demands}
use Rattle.join_laws.proofs.Names.{added_cases}
use Rattle.join_laws.proofs.Classes.{Goes, Pair}
use Rattle.join_laws.proofs.Lookups.{SignatureGoes}
use Rattle.join_laws.proofs.Operands.{same_class, nat_same}
use Rattle.join_laws.proofs.Graphs.{In, get_at}
use Rattle.join_laws.proofs.Members.{Member, in_of, member_of, met_once, some_added, declared_stands}
use Rattle.join_laws.proofs.Joining.{Among, once_two}
use Rattle.join_laws.proofs.Joined.{Represents, uses_in, written_signature}
use Rattle.join_laws.proofs.Tables.{table, placed, entry_of_name}
use Rattle.join_laws.proofs.Values.{signed_goes}
use Rattle.join_laws.proofs.Linked.{Linked}
use Rattle.join_laws.proofs.Checks.{function_of}

-- ---- declarations by number

record DeclaredAt (g : Globals) (is : List Item) (name : List ℕ) (n : ℕ) : Type 0 where
  before : List Item
  declaration : Funcdecl
  behind : List Item
  whole : is ≡ before ++ items.Funcdecl declaration ∷ behind
  same : name ≡ declaration.name.text
  number : n ≡ (with_items g before).counts.declarations

later : (g : Globals) (i : Item) (is : List Item) (name : List ℕ) (n : ℕ) → DeclaredAt (with_item g i) is name n → DeclaredAt g (i ∷ is) name n
later g i is name n at = record { before = i ∷ at.before; declaration = at.declaration; behind = at.behind; whole = ap (λ (xs : List Item). i ∷ xs) at.whole; same = at.same; number = at.number }

declared_at : (g : Globals) (is : List Item) (name : List ℕ) (n : ℕ) → found (with_items g is).declared name ≡ Some n → (found g.declared name ≡ Some n) ⊎ DeclaredAt g is name n
declared_at g [] name n h = inl h
declared_at g (items.Funcdecl d ∷ is) name n h = elim (declared_at (with_item g (items.Funcdecl d)) is name n h) [
  | inl here ↦ elim (added_cases g.declared d.name.text name g.counts.declarations n here) [
    | inl old ↦ inl old
    | inr new ↦ inr (record { before = []; declaration = d; behind = is; whole = refl; same = new.0; number = new.1 })
  ]
  | inr at ↦ inr (later g (items.Funcdecl d) is name n at)
]
declared_at g (i ∷ is) name n h = elim (declared_at (with_item g i) is name n h) [ inl here ↦ inl here | inr at ↦ inr (later g i is name n at) ]

declared_split : (g : Globals) (is js : List Item) → declared_signatures g (is ++ js) ≡ declared_signatures g is ++ declared_signatures g js
declared_split g [] js = refl
declared_split g (items.Funcdecl d ∷ is) js = ap (λ (xs : List ℕ). noted_signature g d.signature ∷ xs) (declared_split g is js)
declared_split g (items.Typedef d ∷ is) js = declared_split g is js
declared_split g (items.Funcsig d ∷ is) js = declared_split g is js
declared_split g (items.Const d ∷ is) js = declared_split g is js
declared_split g (items.GlobalCell d ∷ is) js = declared_split g is js
declared_split g (items.Funcdef d ∷ is) js = declared_split g is js

declared_counted : (g h : Globals) (is : List Item) → (with_items g is).counts.declarations ≡ g.counts.declarations + length (declared_signatures h is)
declared_counted g h [] = omega arith
declared_counted g h (items.Funcdecl d ∷ is) = omega (arith, declared_counted (with_item g (items.Funcdecl d)) h is)
declared_counted g h (items.Typedef d ∷ is) = declared_counted (with_item g (items.Typedef d)) h is
declared_counted g h (items.Funcsig d ∷ is) = declared_counted (with_item g (items.Funcsig d)) h is
declared_counted g h (items.Const d ∷ is) = declared_counted (with_item g (items.Const d)) h is
declared_counted g h (items.GlobalCell d ∷ is) = declared_counted (with_item g (items.GlobalCell d)) h is
declared_counted g h (items.Funcdef d ∷ is) = declared_counted (with_item g (items.Funcdef d)) h is

-- the number of a signature leads to what its name leads to
pub by_number : (b : List Item) (n : Name) → is_signature (found (globals_of b).names n.text) ≡ true → signature_in (bundle_tables b) (Some (noted_signature (globals_of b) n)) ≡ signature_named (bundle_tables b) n
unfolding tables_of
by_number b n h = let s = written_signature (found (globals_of b).names n.text) h in rw (s.1) refl

-- what a declaration's number leads to
record DeclaredIs (b : List Item) (name : List ℕ) (k : ℕ) : Type 0 where
  declaration : Funcdecl
  member : Member (items.Funcdecl declaration) b
  same : name ≡ declaration.name.text
  signature : signature_in (bundle_tables b) (slice_get (bundle_tables b).declarations k) ≡ signature_named (bundle_tables b) declaration.signature

declared_is : (b : List Item) → AllMet (name_demands b) → (name : List ℕ) (k : ℕ) → found (globals_of b).declared name ≡ Some k → DeclaredIs b name k
unfolding tables_of
declared_is b m name k h = elim (declared_at no_globals b name k h) [
  | inl nothing ↦ cc
  | inr at ↦
      let g = globals_of b in
      let e = at.declaration in
      let here : In (items.Funcdecl e) b = record { before = at.before; behind = at.behind; whole = at.whole } in
      let many : (with_items no_globals at.before).counts.declarations ≡ 0 + length (declared_signatures g at.before) = declared_counted no_globals g at.before in
      let same : k ≡ length (declared_signatures g at.before) = omega (arith, many, at.number) in
      let there : slice_get (declared_signatures g b) k ≡ Some (noted_signature g e.signature) =
      ap (λ (n : ℕ). slice_get (declared_signatures g b) n) same
      ∙ (ap (λ (xs : List ℕ). slice_get xs (length (declared_signatures g at.before))) (ap (declared_signatures g) at.whole ∙ declared_split g at.before (items.Funcdecl e ∷ at.behind))
      ∙ get_at (declared_signatures g at.before) (declared_signatures g at.behind) (noted_signature g e.signature)) in
      record {
        declaration = e;
        member = member_of (items.Funcdecl e) b here;
        same = at.same;
        signature = ap (λ (o : Option ℕ). signature_in (bundle_tables b) o) there ∙ by_number b e.signature (uses_in b (items.Funcdecl e) m.1 here).1;
      }
]

all_stand : (g : Globals) (is : List Item) (name : List ℕ) (n : ℕ) → found g.declared name ≡ Some n → found (with_items g is).declared name ≡ Some n
all_stand g [] name n h = h
all_stand g (i ∷ is) name n h = all_stand (with_item g i) is name n (declared_stands g i name n h)

declared_there : (g : Globals) (is : List Item) (e : Funcdecl) → Member (items.Funcdecl e) is → (k : ℕ) × (found (with_items g is).declared e.name.text ≡ Some k)
declared_there g [] e m = absurd m
declared_there g (i ∷ is) e (inr m) = declared_there (with_item g i) is e m
declared_there g (i ∷ is) e (inl same) =
    let k = some_added g.declared e.name.text g.counts.declarations in
    (k.0, subst (λ (x : Item). found (with_items g (x ∷ is)).declared e.name.text ≡ Some k.0) same (all_stand (with_item g (items.Funcdecl e)) is e.name.text k.0 k.1))

-- ---- classes of signatures

class_stands : (p q : Table) (s r : Option Signature) → SignatureGoes p q s r → Goes p q (class_of_signature s) (class_of_signature r)
class_stands p q None r g = tt
class_stands p q (Some s) None g = absurd g
class_stands p q (Some s) (Some r) g = g.class

pub signature_there : (b : List Item) (n : Name) → is_signature (found (globals_of b).names n.text) ≡ true → (s : Signature) × (signature_named (bundle_tables b) n ≡ Some s)
unfolding tables_of
signature_there b n h =
    let s = written_signature (found (globals_of b).names n.text) h in
    let p = placed b n.text s.0 s.1 in
    (signature_entry (table b) (globals_of b) p.definition, ap (λ (o : Option Sort). signature_in (bundle_tables b) (signature_number o)) s.1 ∙ entry_of_name b n.text s.0 p)

own_class : (o : Option Signature) (s : Signature) → o ≡ Some s → is_class (class_of_signature o) (class_of_signature o) ≡ true
own_class o s e = subst (λ (x : Option Signature). is_class (class_of_signature x) (class_of_signature x) ≡ true) (sym e) (nat_same s.class)

pub by_text : (p : Tables) (n m : Name) → n.text ≡ m.text → signature_named p n ≡ signature_named p m
by_text p n m e = ap (λ (x : List ℕ). signature_in p (signature_number (found p.globals.names x))) e

one_declaration : (c d : Funcdecl) → items.Funcdecl c ≡ items.Funcdecl d → c ≡ d
one_declaration c d e = cc

-- ---- as declared

-- in a bundle a definition is as its declaration, by the names of the signatures
pub told_in : (b : List Item) → AllMet (name_demands b) → AllMet (check_demands b) → (d : Funcdef) (e : Funcdecl) → Member (items.Funcdef d) b → Member (items.Funcdecl e) b → e.name.text ≡ d.name.text →
    is_class (class_of_signature (signature_named (bundle_tables b) e.signature)) (class_of_signature (signature_named (bundle_tables b) d.signature)) ≡ true
unfolding check_demands tables_of
told_in b named checked d e m n same =
    let one = function_of (bundle_tables b) 0 b d checked.1 m in
    let k = declared_there no_globals b e n in
    let found_there : found (globals_of b).declared d.name.text ≡ Some k.0 = ap (found (globals_of b).declared) (sym same) ∙ k.1 in
    let is = declared_is b named d.name.text k.0 found_there in
    let equal : is.declaration ≡ e = elim (once_two b (met_once no_globals b named.0) (items.Funcdecl is.declaration) (items.Funcdecl e) is.member n (sym is.same ∙ sym same)) [
      | inl x ↦ one_declaration is.declaration e x
      | inr x ↦ elim x [ inl y ↦ absurd y | inr y ↦ absurd y ]
    ] in
    let told : is_as_declared (bundle_tables b) (Some k.0) d.signature ≡ true = subst (λ (o : Option ℕ). is_as_declared (bundle_tables b) o d.signature ≡ true) found_there one.1.0 in
    subst (λ (x : Funcdecl). is_class (class_of_signature (signature_named (bundle_tables b) x.signature)) (class_of_signature (signature_named (bundle_tables b) d.signature)) ≡ true) equal
    (subst (λ (o : Option Signature). is_class (class_of_signature o) (class_of_signature (signature_named (bundle_tables b) d.signature)) ≡ true) is.signature told)

pub goes_by : (b j : List Item) → Represents b j → Pair (table b) (table j) → (n : Name) → SignatureGoes (table b) (table j) (signature_named (bundle_tables b) n) (signature_named (bundle_tables j) n)
unfolding tables_of
goes_by b j r pair n = signed_goes b j r pair n.text

-- in a joined bundle a declaration and a definition of one name have signatures of one class
pub same_signature : (bundles : List (List Item)) (j : List Item) → ((b : List Item) → Among b bundles → AllMet (name_demands b)) → ((b : List Item) → Among b bundles → AllMet (check_demands b)) → AllMet (name_demands j) → Linked bundles j →
    ((b : List Item) → Among b bundles → Represents b j × Pair (table b) (table j)) → (d : Funcdef) (e : Funcdecl) → Member (items.Funcdef d) j → Member (items.Funcdecl e) j → e.name.text ≡ d.name.text →
    is_class (class_of_signature (signature_named (bundle_tables j) e.signature)) (class_of_signature (signature_named (bundle_tables j) d.signature)) ≡ true
same_signature bundles j named checked here linked go d e m n same = elim (linked (items.Funcdecl e) (items.Funcdef d) n m tt same) [
  | inl agree ↦
      let s = signature_there j d.signature (uses_in j (items.Funcdef d) here.1 (in_of (items.Funcdef d) j m)).0.1 in
      subst (λ (o : Option Signature). is_class (class_of_signature o) (class_of_signature (signature_named (bundle_tables j) d.signature)) ≡ true) (sym (by_text (bundle_tables j) e.signature d.signature agree))
      (own_class (signature_named (bundle_tables j) d.signature) s.0 s.1)
  | inr both ↦
      let b = both.bundle in
      let r = go b both.among in
      let told = told_in b (named b both.among) (checked b both.among) d e both.other both.one same in
      same_class (table b) (table j) r.1 (class_of_signature (signature_named (bundle_tables b) e.signature)) (class_of_signature (signature_named (bundle_tables j) e.signature))
      (class_of_signature (signature_named (bundle_tables b) d.signature)) (class_of_signature (signature_named (bundle_tables j) d.signature))
      (class_stands (table b) (table j) (signature_named (bundle_tables b) e.signature) (signature_named (bundle_tables j) e.signature) (goes_by b j r.0 r.1 e.signature))
      (class_stands (table b) (table j) (signature_named (bundle_tables b) d.signature) (signature_named (bundle_tables j) d.signature) (goes_by b j r.0 r.1 d.signature)) told
]

pub join_declared : (bundles : List (List Item)) (j : List Item) → ((b : List Item) → Among b bundles → AllMet (name_demands b)) → ((b : List Item) → Among b bundles → AllMet (check_demands b)) → AllMet (name_demands j) → Linked bundles j →
    ((b : List Item) → Among b bundles → Represents b j × Pair (table b) (table j)) → (d : Funcdef) → Member (items.Funcdef d) j → is_as_declared (bundle_tables j) (found (globals_of j).declared d.name.text) d.signature ≡ true
join_declared bundles j named checked here linked go d m = by (found (globals_of j).declared d.name.text) refl
  where
    by : (o : Option ℕ) → found (globals_of j).declared d.name.text ≡ o → is_as_declared (bundle_tables j) o d.signature ≡ true
    by None e = refl
    by (Some k) e =
        let is = declared_is j here d.name.text k e in
        subst (λ (o : Option Signature). is_class (class_of_signature o) (class_of_signature (signature_named (bundle_tables j) d.signature)) ≡ true) (sym is.signature)
        (same_signature bundles j named checked here linked go d is.declaration m is.member (sym is.same))
