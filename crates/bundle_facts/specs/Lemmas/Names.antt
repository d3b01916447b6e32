-- The global names of a bundle: their numbers are below the counts, each number is that of one name, and each item has its own.
use Rattle.std.proofs.Common.{◌≡◌, ℕ, zero, suc, ◌+◌, ◌<◌, ◌≤◌, Bool, true, false, not, List, [], ◌∷◌, ◌++◌, ◌⊎◌, inl, inr, Option, Some, None, is_some, slice_get, if◌then◌else◌, refl, sym, ◌∙◌, ap, subst, arith}
use Rattle.std.proofs.lemmas.Slice.Eq.{bytes_eq-Decides}
use Rattle.std.specs.Str.{bytes_eq}
use Rattle.demands.specs.Demands.{AllMet, or_else}
use Rattle.name_scopes.specs.Names.{Names, found, added}
use Rattle.ir_lex.specs.declared.name.Name.{Name}
use Rattle.ir_tree.specs.declared.definitions.Funcsig.{Funcsig}
use Rattle.ir_tree.specs.declared.items.Funcdef.{Funcdef}
use Rattle.ir_tree.specs.declared.items.Item.{Item}
use Rattle.ir_tree.specs.declared.items.Item.TheVariants as items
use Rattle.bundle_names.specs.declared.globals.Counts.{Counts}
use Rattle.bundle_names.specs.declared.globals.Sort.{Sort}
use Rattle.bundle_names.specs.declared.globals.Sort.TheVariants as sorts
use Rattle.bundle_names.specs.declared.globals.Globals.{Globals}
use Rattle.bundle_names.specs.Globals.{with_function, with_item, with_items, no_globals, globals_of}
use Rattle.bundle_names.specs.Definitions.{items_demands}
use Rattle.model_numbers.specs.Lemmas.Names.{found_added}
use Rattle.bundle_laws.specs.Lemmas.Bodies.{some_is}

-- ---- one more name

-- what a name stands for goes on to stand
stays : {T : Type 0} (es : Names T) (n name : List ℕ) (x v : T) → found es name ≡ Some v → found (added es n x) name ≡ Some v
stays es n name x v h = found_added es n name x ∙ ap (λ o. or_else o (if bytes_eq name n then Some x else None)) h

-- a new name stands for what was added
pub added_own : {T : Type 0} (es : Names T) (n : List ℕ) (x : T) → not (is_some (found es n)) ≡ true → found (added es n x) n ≡ Some x
added_own {T} es n x h = found_added es n n x ∙ by (found es n) h
  where
    own : bytes_eq n n ≡ true
    own = (bytes_eq-Decides n n).1 refl

    by : (o : Option T) → not (is_some o) ≡ true → or_else o (if bytes_eq n n then Some x else None) ≡ Some x
    by None k = rw own refl
    by (Some w) k = cc

-- what is found stood there before, or is what was added
record IsAdded {T : Type 0} (es : Names T) (n name : List ℕ) (x v : T) : Type 0 where
  same : name ≡ n
  value : v ≡ x
  new : found es n ≡ None

cases : {T : Type 0} (es : Names T) (n name : List ℕ) (x v : T) → found (added es n x) name ≡ Some v → (found es name ≡ Some v) ⊎ IsAdded es n name x v
cases {T} es n name x v h = by (found es n) refl h
  where
    last : (o : Option T) (b : Bool) → found es n ≡ None → found es name ≡ o → bytes_eq name n ≡ b → or_else o (if b then Some x else None) ≡ Some v → (found es name ≡ Some v) ⊎ IsAdded es n name x v
    last (Some w) b none e t k = inl (e ∙ k)
    last None true none e t k = inr (record { same = (bytes_eq-Decides name n).0 t; value = sym (some_is x v k); new = none })
    last None false none e t k = cc

    by : (o : Option T) → found es n ≡ o → found (if is_some o then es else es ++ (n, x) ∷ []) name ≡ Some v → (found es name ≡ Some v) ⊎ IsAdded es n name x v
    by (Some w) e k = inl k
    by None e k = last (found es name) (bytes_eq name n) e refl refl (sym (found_added es n name x) ∙ h)

-- ---- numbers are below the counts, and each is that of one name

abbrev pub IsLow : Counts → Sort → Type 0
IsLow c (sorts.Written n) = n < c.written
IsLow c (sorts.Signature n) = n < c.signatures
IsLow c (sorts.Constant n) = n < c.constants
IsLow c (sorts.GlobalCell n) = n < c.global_cells
IsLow c (sorts.Function n) = n < c.functions

pub record AreLow (g : Globals) : Type 0 where
  pub low : (name : List ℕ) (v : Sort) → found g.names name ≡ Some v → IsLow g.counts v
  pub one : (a b : List ℕ) (v : Sort) → found g.names a ≡ Some v → found g.names b ≡ Some v → a ≡ b

record IsMore (c d : Counts) : Type 0 where
  written : c.written ≤ d.written
  signatures : c.signatures ≤ d.signatures
  constants : c.constants ≤ d.constants
  global_cells : c.global_cells ≤ d.global_cells
  functions : c.functions ≤ d.functions

low_more : (c d : Counts) (v : Sort) → IsMore c d → IsLow c v → IsLow d v
low_more c d (sorts.Written n) m l = omega (arith, m.written, l)
low_more c d (sorts.Signature n) m l = omega (arith, m.signatures, l)
low_more c d (sorts.Constant n) m l = omega (arith, m.constants, l)
low_more c d (sorts.GlobalCell n) m l = omega (arith, m.global_cells, l)
low_more c d (sorts.Function n) m l = omega (arith, m.functions, l)

-- one more name with a number that is not below the counts before, and is behind
added_low : (es : Names Sort) (c d : Counts) (y : List ℕ) (x : Sort) → ((name : List ℕ) (v : Sort) → found es name ≡ Some v → IsLow c v) → IsMore c d → (found es y ≡ None → IsLow d x) →
    (name : List ℕ) (v : Sort) → found (added es y x) name ≡ Some v → IsLow d v
added_low es c d y x low more new name v h = elim (cases es y name x v h) [
  | inl old ↦ low_more c d v more (low name v old)
  | inr now ↦ subst (λ (s : Sort). IsLow d s) (sym now.value) (new now.new)
]

added_one : (es : Names Sort) (c : Counts) (y : List ℕ) (x : Sort) → ((name : List ℕ) (v : Sort) → found es name ≡ Some v → IsLow c v) → (IsLow c x → ⊥) →
    ((a b : List ℕ) (v : Sort) → found es a ≡ Some v → found es b ≡ Some v → a ≡ b) → (a b : List ℕ) (v : Sort) → found (added es y x) a ≡ Some v → found (added es y x) b ≡ Some v → a ≡ b
added_one es c y x low high one a b v h k = elim (cases es y a x v h) [
  | inl old ↦ elim (cases es y b x v k) [
    | inl other ↦ one a b v old other
    | inr now ↦ absurd (high (low a x (subst (λ (s : Sort). found es a ≡ Some s) now.value old)))
  ]
  | inr now ↦ elim (cases es y b x v k) [
    | inl other ↦ absurd (high (low b x (subst (λ (s : Sort). found es b ≡ Some s) now.value other)))
    | inr both ↦ now.same ∙ sym both.same
  ]
]

one_more : (k : ℕ) (b : Bool) → k ≤ (if b then k else k + 1)
one_more k true = omega arith
one_more k false = omega arith

function_low : (g : Globals) (n : Name) → AreLow g → AreLow (with_function g n)
function_low g n a =
    let d = (with_function g n).counts in
    record {
      low = added_low g.names g.counts d n.text (sorts.Function g.counts.functions) a.low
          (record { written = omega arith; signatures = omega arith; constants = omega arith; global_cells = omega arith; functions = one_more g.counts.functions (is_some (found g.names n.text)) })
          (λ new. rw new (omega arith));
      one = added_one g.names g.counts n.text (sorts.Function g.counts.functions) a.low (λ l. omega (arith, l)) a.one;
    }

-- the same with other counts of declarations and definitions
counted_low : (f h : Globals) → h.names ≡ f.names → h.counts.written ≡ f.counts.written → h.counts.signatures ≡ f.counts.signatures → h.counts.constants ≡ f.counts.constants →
    h.counts.global_cells ≡ f.counts.global_cells → h.counts.functions ≡ f.counts.functions → AreLow f → AreLow h
counted_low f h names written signatures constants cells functions a = record {
  low = λ name v e. low_more f.counts h.counts v
      (record { written = omega (arith, written); signatures = omega (arith, signatures); constants = omega (arith, constants); global_cells = omega (arith, cells); functions = omega (arith, functions) })
      (a.low name v (subst (λ (es : Names Sort). found es name ≡ Some v) names e));
  one = λ x y v e k. a.one x y v (subst (λ (es : Names Sort). found es x ≡ Some v) names e) (subst (λ (es : Names Sort). found es y ≡ Some v) names k);
}

pub item_low : (g : Globals) (i : Item) → AreLow g → AreLow (with_item g i)
item_low g (items.Typedef d) a = record {
  low = added_low g.names g.counts (with_item g (items.Typedef d)).counts d.name.text (sorts.Written g.counts.written) a.low
      (record { written = omega arith; signatures = omega arith; constants = omega arith; global_cells = omega arith; functions = omega arith }) (λ new. omega arith);
  one = added_one g.names g.counts d.name.text (sorts.Written g.counts.written) a.low (λ l. omega (arith, l)) a.one;
}
item_low g (items.Funcsig d) a = record {
  low = added_low g.names g.counts (with_item g (items.Funcsig d)).counts d.name.text (sorts.Signature g.counts.signatures) a.low
      (record { written = omega arith; signatures = omega arith; constants = omega arith; global_cells = omega arith; functions = omega arith }) (λ new. omega arith);
  one = added_one g.names g.counts d.name.text (sorts.Signature g.counts.signatures) a.low (λ l. omega (arith, l)) a.one;
}
item_low g (items.Const d) a = record {
  low = added_low g.names g.counts (with_item g (items.Const d)).counts d.name.text (sorts.Constant g.counts.constants) a.low
      (record { written = omega arith; signatures = omega arith; constants = omega arith; global_cells = omega arith; functions = omega arith }) (λ new. omega arith);
  one = added_one g.names g.counts d.name.text (sorts.Constant g.counts.constants) a.low (λ l. omega (arith, l)) a.one;
}
item_low g (items.GlobalCell d) a = record {
  low = added_low g.names g.counts (with_item g (items.GlobalCell d)).counts d.name.text (sorts.GlobalCell g.counts.global_cells) a.low
      (record { written = omega arith; signatures = omega arith; constants = omega arith; global_cells = omega arith; functions = omega arith }) (λ new. omega arith);
  one = added_one g.names g.counts d.name.text (sorts.GlobalCell g.counts.global_cells) a.low (λ l. omega (arith, l)) a.one;
}
item_low g (items.Funcdecl d) a = counted_low (with_function g d.name) (with_item g (items.Funcdecl d)) refl refl refl refl refl refl (function_low g d.name a)
item_low g (items.Funcdef d) a = counted_low (with_function g d.name) (with_item g (items.Funcdef d)) refl refl refl refl refl refl (function_low g d.name a)

items_low : (g : Globals) (is : List Item) → AreLow g → AreLow (with_items g is)
items_low g [] a = a
items_low g (i ∷ is) a = items_low (with_item g i) is (item_low g i a)

pub names_low : (bundle : List Item) → AreLow (globals_of bundle)
names_low bundle = items_low no_globals bundle (record { low = λ name v e. cc; one = λ a b v e k. cc })

-- ---- names go on to stand

item_stands : (g : Globals) (i : Item) (a : List ℕ) (v : Sort) → found g.names a ≡ Some v → found (with_item g i).names a ≡ Some v
item_stands g (items.Typedef d) a v h = stays g.names d.name.text a (sorts.Written g.counts.written) v h
item_stands g (items.Funcsig d) a v h = stays g.names d.name.text a (sorts.Signature g.counts.signatures) v h
item_stands g (items.Const d) a v h = stays g.names d.name.text a (sorts.Constant g.counts.constants) v h
item_stands g (items.GlobalCell d) a v h = stays g.names d.name.text a (sorts.GlobalCell g.counts.global_cells) v h
item_stands g (items.Funcdecl d) a v h = stays g.names d.name.text a (sorts.Function g.counts.functions) v h
item_stands g (items.Funcdef d) a v h = stays g.names d.name.text a (sorts.Function g.counts.functions) v h

pub stands : (g : Globals) (is : List Item) (a : List ℕ) (v : Sort) → found g.names a ≡ Some v → found (with_items g is).names a ≡ Some v
stands g [] a v h = h
stands g (i ∷ is) a v h = stands (with_item g i) is a v (item_stands g i a v h)

item_defined : (g : Globals) (i : Item) (a : List ℕ) (n : ℕ) → found g.defined a ≡ Some n → found (with_item g i).defined a ≡ Some n
item_defined g (items.Typedef d) a n h = h
item_defined g (items.Funcsig d) a n h = h
item_defined g (items.Const d) a n h = h
item_defined g (items.GlobalCell d) a n h = h
item_defined g (items.Funcdecl d) a n h = h
item_defined g (items.Funcdef d) a n h = stays g.defined d.name.text a g.counts.definitions n h

defined_stands : (g : Globals) (is : List Item) (a : List ℕ) (n : ℕ) → found g.defined a ≡ Some n → found (with_items g is).defined a ≡ Some n
defined_stands g [] a n h = h
defined_stands g (i ∷ is) a n h = defined_stands (with_item g i) is a n (item_defined g i a n h)

-- ---- the signatures, and the definitions of functions, in text order

abbrev pub funcsigs : List Item → List Funcsig
funcsigs [] = []
funcsigs (items.Funcsig d ∷ is) = d ∷ funcsigs is
funcsigs (items.Typedef d ∷ is) = funcsigs is
funcsigs (items.Const d ∷ is) = funcsigs is
funcsigs (items.GlobalCell d ∷ is) = funcsigs is
funcsigs (items.Funcdecl d ∷ is) = funcsigs is
funcsigs (items.Funcdef d ∷ is) = funcsigs is

abbrev pub funcdefs : List Item → List Funcdef
funcdefs [] = []
funcdefs (items.Funcdef d ∷ is) = d ∷ funcdefs is
funcdefs (items.Typedef d ∷ is) = funcdefs is
funcdefs (items.Funcsig d ∷ is) = funcdefs is
funcdefs (items.Const d ∷ is) = funcdefs is
funcdefs (items.GlobalCell d ∷ is) = funcdefs is
funcdefs (items.Funcdecl d ∷ is) = funcdefs is

-- each signature has the number of its place
own_signature : (g : Globals) (is : List Item) (m : ℕ) (d : Funcsig) → AllMet (items_demands g is) → slice_get (funcsigs is) m ≡ Some d →
    found (with_items g is).names d.name.text ≡ Some (sorts.Signature (g.counts.signatures + m))
own_signature g [] m d met h = cc
own_signature g (items.Typedef x ∷ is) m d met h = own_signature (with_item g (items.Typedef x)) is m d met.1 h
own_signature g (items.Const x ∷ is) m d met h = own_signature (with_item g (items.Const x)) is m d met.1 h
own_signature g (items.GlobalCell x ∷ is) m d met h = own_signature (with_item g (items.GlobalCell x)) is m d met.1 h
own_signature g (items.Funcdecl x ∷ is) m d met h = own_signature (with_item g (items.Funcdecl x)) is m d met.1 h
own_signature g (items.Funcdef x ∷ is) m d met h = own_signature (with_item g (items.Funcdef x)) is m d met.1 h
own_signature g (items.Funcsig x ∷ is) zero d met h =
    let z : g.counts.signatures ≡ g.counts.signatures + 0 = omega arith in
    subst (λ (y : Funcsig). found (with_items g (items.Funcsig x ∷ is)).names y.name.text ≡ Some (sorts.Signature (g.counts.signatures + 0))) (some_is x d h)
    (stands (with_item g (items.Funcsig x)) is x.name.text (sorts.Signature (g.counts.signatures + 0))
    (added_own g.names x.name.text (sorts.Signature g.counts.signatures) met.0 ∙ ap (λ (n : ℕ). Some (sorts.Signature n)) z))
own_signature g (items.Funcsig x ∷ is) (suc m) d met h =
    let z : g.counts.signatures + 1 + m ≡ g.counts.signatures + suc m = omega arith in
    own_signature (with_item g (items.Funcsig x)) is m d met.1 h ∙ ap (λ (n : ℕ). Some (sorts.Signature n)) z

-- each definition of a function has the number of its place
own_definition : (g : Globals) (is : List Item) (m : ℕ) (d : Funcdef) → AllMet (items_demands g is) → slice_get (funcdefs is) m ≡ Some d →
    found (with_items g is).defined d.name.text ≡ Some (g.counts.definitions + m)
own_definition g [] m d met h = cc
own_definition g (items.Typedef x ∷ is) m d met h = own_definition (with_item g (items.Typedef x)) is m d met.1 h
own_definition g (items.Funcsig x ∷ is) m d met h = own_definition (with_item g (items.Funcsig x)) is m d met.1 h
own_definition g (items.Const x ∷ is) m d met h = own_definition (with_item g (items.Const x)) is m d met.1 h
own_definition g (items.GlobalCell x ∷ is) m d met h = own_definition (with_item g (items.GlobalCell x)) is m d met.1 h
own_definition g (items.Funcdecl x ∷ is) m d met h = own_definition (with_item g (items.Funcdecl x)) is m d met.1 h
own_definition g (items.Funcdef x ∷ is) zero d met h =
    let z : g.counts.definitions ≡ g.counts.definitions + 0 = omega arith in
    subst (λ (y : Funcdef). found (with_items g (items.Funcdef x ∷ is)).defined y.name.text ≡ Some (g.counts.definitions + 0)) (some_is x d h)
    (defined_stands (with_item g (items.Funcdef x)) is x.name.text (g.counts.definitions + 0)
    (added_own g.defined x.name.text g.counts.definitions met.0.1.0 ∙ ap (λ (n : ℕ). Some n) z))
own_definition g (items.Funcdef x ∷ is) (suc m) d met h =
    let z : g.counts.definitions + 1 + m ≡ g.counts.definitions + suc m = omega arith in
    own_definition (with_item g (items.Funcdef x)) is m d met.1 h ∙ ap (λ (n : ℕ). Some n) z

pub signature_number_is : (bundle : List Item) (m : ℕ) (d : Funcsig) → AllMet (items_demands no_globals bundle) → slice_get (funcsigs bundle) m ≡ Some d →
    found (globals_of bundle).names d.name.text ≡ Some (sorts.Signature m)
signature_number_is bundle m d met h = let z : 0 + m ≡ m = omega arith in own_signature no_globals bundle m d met h ∙ ap (λ (n : ℕ). Some (sorts.Signature n)) z

pub definition_number_is : (bundle : List Item) (m : ℕ) (d : Funcdef) → AllMet (items_demands no_globals bundle) → slice_get (funcdefs bundle) m ≡ Some d →
    found (globals_of bundle).defined d.name.text ≡ Some m
definition_number_is bundle m d met h = let z : 0 + m ≡ m = omega arith in own_definition no_globals bundle m d met h ∙ ap (λ (n : ℕ). Some n) z
