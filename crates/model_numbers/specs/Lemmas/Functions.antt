-- The first block of a function by its number is that of its definition.
use Rattle.std.proofs.Common.{◌≡◌, ℕ, zero, suc, ◌+◌, ◌<◌, Bool, true, false, List, [], ◌∷◌, ◌++◌, ◌⊎◌, inl, inr, Option, Some, None, length, slice_get, nat_eq, is_some, option_map, if◌then◌else◌, refl, sym, ◌∙◌, ap, subst, arith}
use Rattle.std.proofs.lemmas.Slice.Eq.{bytes_eq-Decides}
use Rattle.std.specs.Str.{bytes_eq}
use Rattle.demands.specs.Demands.{or_else}
use Rattle.name_scopes.specs.Names.{Names, found, added}
use Rattle.ir_lex.specs.declared.name.Name.{Name}
use Rattle.ir_tree.specs.declared.items.Item.{Item}
use Rattle.ir_tree.specs.declared.items.Item.TheVariants as items
use Rattle.bundle_names.specs.declared.globals.Sort.{Sort}
use Rattle.bundle_names.specs.declared.globals.Sort.TheVariants as sorts
use Rattle.bundle_names.specs.declared.globals.Globals.{Globals}
use Rattle.bundle_names.specs.Globals.{with_function, with_item, with_items, no_globals, globals_of}
use Rattle.check_tables.specs.declared.tables.Tables.{Tables}
use Rattle.bundle_laws.specs.Lemmas.TypedOperands.{nat_eq_is}
use Rattle.checked_code.specs.Entries.{noted_signature, defined_signatures, is_function, declared_entry, function_entries, tables_of}
use Rattle.checked_code.specs.declared.blocks.Function.{Function}
use Rattle.checked_code.specs.Functions.{first_blocks, first_of, function_named, functions_behind, functions_from}
use Rattle.checked_code.specs.Checking.{bundle_tables, bundle_functions}
use Rattle.typed_heap.specs.Places.{with_some}
use Rattle.model_numbers.specs.Laws.{definition_from}
use Rattle.model_numbers.specs.Lemmas.Names.{some_is, found_added, stays, or_assoc, or_none}

-- ---- one more name

-- what is found stood there before, or is what was added
record IsAdded {T : Type 0} (es : Names T) (n name : List ℕ) (x v : T) : Type 0 where
  same : name ≡ n
  value : v ≡ x
  new : is_some (found es n) ≡ false

cases : {T : Type 0} (es : Names T) (n name : List ℕ) (x v : T) → found (added es n x) name ≡ Some v → (found es name ≡ Some v) ⊎ IsAdded es n name x v
cases {T} es n name x v h = by (found es n) refl h
  where
    last : (o : Option T) (b : Bool) → found es n ≡ None → found es name ≡ o → bytes_eq name n ≡ b → or_else o (if b then Some x else None) ≡ Some v → (found es name ≡ Some v) ⊎ IsAdded es n name x v
    last (Some w) b none e t k = inl (e ∙ k)
    last None true none e t k = inr (record { same = (bytes_eq-Decides name n).0 t; value = sym (some_is x v k); new = ap is_some none })
    last None false none e t k = cc

    by : (o : Option T) → found es n ≡ o → found (if is_some o then es else es ++ (n, x) ∷ []) name ≡ Some v → (found es name ≡ Some v) ⊎ IsAdded es n name x v
    by (Some w) e k = inl k
    by None e k = last (found es name) (bytes_eq name n) e refl refl (sym (found_added es n name x) ∙ h)

-- ---- the numbers of functions are below their count, and each is that of one name

record AreNumbered (g : Globals) : Type 0 where
  below : (a : List ℕ) (n : ℕ) → found g.names a ≡ Some (sorts.Function n) → n < g.counts.functions
  one : (a b : List ℕ) (n : ℕ) → found g.names a ≡ Some (sorts.Function n) → found g.names b ≡ Some (sorts.Function n) → a ≡ b

none_numbered : AreNumbered no_globals
none_numbered = record { below = λ a n e. cc; one = λ a b n e f. cc }

old : (es : Names Sort) (y a : List ℕ) (x : Sort) (n : ℕ) → (sorts.Function n ≡ x → ⊥) → found (added es y x) a ≡ Some (sorts.Function n) → found es a ≡ Some (sorts.Function n)
old es y a x n other h = elim (cases es y a x (sorts.Function n) h) [
  | inl there ↦ there
  | inr new ↦ absurd (other new.value)
]

same_function : (m n : ℕ) → sorts.Function m ≡ sorts.Function n → m ≡ n
same_function m n e = cc

still_below : (n k : ℕ) (b : Bool) → n < k → n < (if b then k else k + 1)
still_below n k true l = l
still_below n k false l = omega (arith, l)

now_below : (n k : ℕ) (b : Bool) → n ≡ k → b ≡ false → n < (if b then k else k + 1)
now_below n k true e f = cc
now_below n k false e f = omega (arith, e)

function_numbered : (g : Globals) (nm : Name) → AreNumbered g → AreNumbered (with_function g nm)
function_numbered g nm a = record {
  below = λ x n e. elim (cases g.names nm.text x (sorts.Function g.counts.functions) (sorts.Function n) e) [
    | inl there ↦ still_below n g.counts.functions (is_some (found g.names nm.text)) (a.below x n there)
    | inr new ↦ now_below n g.counts.functions (is_some (found g.names nm.text)) (same_function n g.counts.functions new.value) new.new
  ];
  one = λ x y n e f. elim (cases g.names nm.text x (sorts.Function g.counts.functions) (sorts.Function n) e) [
    | inl there ↦ elim (cases g.names nm.text y (sorts.Function g.counts.functions) (sorts.Function n) f) [
      | inl other ↦ a.one x y n there other
      | inr new ↦ absurd (omega (arith, a.below x n there, same_function n g.counts.functions new.value))
    ]
    | inr new ↦ elim (cases g.names nm.text y (sorts.Function g.counts.functions) (sorts.Function n) f) [
      | inl other ↦ absurd (omega (arith, a.below y n other, same_function n g.counts.functions new.value))
      | inr both ↦ new.same ∙ sym both.same
    ]
  ];
}

item_numbered : (g : Globals) (i : Item) → AreNumbered g → AreNumbered (with_item g i)
item_numbered g (items.Typedef d) a = record {
  below = λ x n e. a.below x n (old g.names d.name.text x (sorts.Written g.counts.written) n (λ z. cc) e);
  one = λ x y n e f. a.one x y n (old g.names d.name.text x (sorts.Written g.counts.written) n (λ z. cc) e) (old g.names d.name.text y (sorts.Written g.counts.written) n (λ z. cc) f);
}
item_numbered g (items.Funcsig d) a = record {
  below = λ x n e. a.below x n (old g.names d.name.text x (sorts.Signature g.counts.signatures) n (λ z. cc) e);
  one = λ x y n e f. a.one x y n (old g.names d.name.text x (sorts.Signature g.counts.signatures) n (λ z. cc) e) (old g.names d.name.text y (sorts.Signature g.counts.signatures) n (λ z. cc) f);
}
item_numbered g (items.Const d) a = record {
  below = λ x n e. a.below x n (old g.names d.name.text x (sorts.Constant g.counts.constants) n (λ z. cc) e);
  one = λ x y n e f. a.one x y n (old g.names d.name.text x (sorts.Constant g.counts.constants) n (λ z. cc) e) (old g.names d.name.text y (sorts.Constant g.counts.constants) n (λ z. cc) f);
}
item_numbered g (items.GlobalCell d) a = record {
  below = λ x n e. a.below x n (old g.names d.name.text x (sorts.GlobalCell g.counts.global_cells) n (λ z. cc) e);
  one = λ x y n e f. a.one x y n (old g.names d.name.text x (sorts.GlobalCell g.counts.global_cells) n (λ z. cc) e) (old g.names d.name.text y (sorts.GlobalCell g.counts.global_cells) n (λ z. cc) f);
}
item_numbered g (items.Funcdecl d) a = let f : AreNumbered (with_function g d.name) = function_numbered g d.name a in record { below = f.below; one = f.one }
item_numbered g (items.Funcdef d) a = let f : AreNumbered (with_function g d.name) = function_numbered g d.name a in record { below = f.below; one = f.one }

all_numbered : (g : Globals) (is : List Item) → AreNumbered g → AreNumbered (with_items g is)
all_numbered g [] a = a
all_numbered g (i ∷ is) a = all_numbered (with_item g i) is (item_numbered g i a)

item_stands : (g : Globals) (i : Item) (a : List ℕ) (v : Sort) → found g.names a ≡ Some v → found (with_item g i).names a ≡ Some v
item_stands g (items.Typedef d) a v h = stays g.names d.name.text a (sorts.Written g.counts.written) v h
item_stands g (items.Funcsig d) a v h = stays g.names d.name.text a (sorts.Signature g.counts.signatures) v h
item_stands g (items.Const d) a v h = stays g.names d.name.text a (sorts.Constant g.counts.constants) v h
item_stands g (items.GlobalCell d) a v h = stays g.names d.name.text a (sorts.GlobalCell g.counts.global_cells) v h
item_stands g (items.Funcdecl d) a v h = stays g.names d.name.text a (sorts.Function g.counts.functions) v h
item_stands g (items.Funcdef d) a v h = stays g.names d.name.text a (sorts.Function g.counts.functions) v h

stands : (g : Globals) (is : List Item) (a : List ℕ) (v : Sort) → found g.names a ≡ Some v → found (with_items g is).names a ≡ Some v
stands g [] a v h = h
stands g (i ∷ is) a v h = stands (with_item g i) is a v (item_stands g i a v h)

-- ---- the test of a number is that of a name

same_number : (n : ℕ) → nat_eq n n ≡ true
same_number n = grind (arith)

function_is : (o : Option Sort) (n : ℕ) → is_function o n ≡ true → o ≡ Some (sorts.Function n)
function_is None n h = cc
function_is (Some (sorts.Written m)) n h = cc
function_is (Some (sorts.Signature m)) n h = cc
function_is (Some (sorts.Constant m)) n h = cc
function_is (Some (sorts.GlobalCell m)) n h = cc
function_is (Some (sorts.Function m)) n h = ap (λ (k : ℕ). Some (sorts.Function k)) (nat_eq_is m n h)

its_test : (g : Globals) (nm a : List ℕ) (n : ℕ) → AreNumbered g → found g.names nm ≡ Some (sorts.Function n) → is_function (found g.names a) n ≡ bytes_eq nm a
its_test g nm a n numbers there = by (is_function (found g.names a) n) (bytes_eq nm a) refl refl
  where
    by : (b c : Bool) → is_function (found g.names a) n ≡ b → bytes_eq nm a ≡ c → b ≡ c
    by true true e f = refl
    by false false e f = refl
    by true false e f = let same : bytes_eq nm a ≡ true = (bytes_eq-Decides nm a).1 (numbers.one nm a n there (function_is (found g.names a) n e)) in let z : true ≡ false = sym same ∙ f in cc
    by false true e f =
        let same : found g.names a ≡ Some (sorts.Function n) = ap (found g.names) (sym ((bytes_eq-Decides nm a).0 f)) ∙ there in
        let z : true ≡ false = sym (ap (λ o. is_function o n) same ∙ same_number n) ∙ e in cc

-- ---- definitions

abbrev index : List ℕ → List Item → Option ℕ
index a [] = None
index a (items.Funcdef d ∷ is) = if bytes_eq a d.name.text then Some 0 else option_map suc (index a is)
index a (_ ∷ is) = index a is

-- behind so many
abbrev moved : ℕ → Option ℕ → Option ℕ
moved c o = option_map (λ k. c + k) o

moved_one : (c : ℕ) (o : Option ℕ) → moved (c + 1) o ≡ moved c (option_map suc o)
moved_one c None = refl
moved_one c (Some k) = let e : (c + 1) + k ≡ c + suc k = omega arith in ap (λ (n : ℕ). Some n) e

moved_none : (o : Option ℕ) → moved 0 o ≡ o
moved_none None = refl
moved_none (Some k) = let e : 0 + k ≡ k = omega arith in ap (λ (n : ℕ). Some n) e

defined_is : (g : Globals) (is : List Item) (a : List ℕ) → found (with_items g is).defined a ≡ or_else (found g.defined a) (moved g.counts.definitions (index a is))
defined_is g [] a = sym (or_none (found g.defined a))
defined_is g (items.Typedef d ∷ is) a = defined_is (with_item g (items.Typedef d)) is a
defined_is g (items.Funcsig d ∷ is) a = defined_is (with_item g (items.Funcsig d)) is a
defined_is g (items.Const d ∷ is) a = defined_is (with_item g (items.Const d)) is a
defined_is g (items.GlobalCell d ∷ is) a = defined_is (with_item g (items.GlobalCell d)) is a
defined_is g (items.Funcdecl d ∷ is) a = defined_is (with_item g (items.Funcdecl d)) is a
defined_is g (items.Funcdef d ∷ is) a =
    defined_is (with_item g (items.Funcdef d)) is a
    ∙ ap (λ o. or_else o (moved (g.counts.definitions + 1) (index a is))) (found_added g.defined d.name.text a g.counts.definitions)
    ∙ or_assoc (found g.defined a) (if bytes_eq a d.name.text then Some g.counts.definitions else None) (moved (g.counts.definitions + 1) (index a is))
    ∙ ap (or_else (found g.defined a)) (by (bytes_eq a d.name.text))
  where
    by : (b : Bool) → or_else (if b then Some g.counts.definitions else None) (moved (g.counts.definitions + 1) (index a is))
        ≡ moved g.counts.definitions (if b then Some 0 else option_map suc (index a is))
    by true = let e : g.counts.definitions ≡ g.counts.definitions + 0 = omega arith in ap (λ (n : ℕ). Some n) e
    by false = moved_one g.counts.definitions (index a is)

first_raised : (x : ℕ) (xs : List ℕ) (o : Option ℕ) → first_of (x ∷ xs) (option_map suc o) ≡ first_of xs o
first_raised x xs None = refl
first_raised x xs (Some k) = refl

first_is : (g : Globals) (a : List ℕ) (n first : ℕ) (is : List Item) → ((x : List ℕ) → is_function (found g.names x) n ≡ bytes_eq a x) →
    first_of (first_blocks first is) (index a is) ≡ definition_from g n first is
first_is g a n first [] test = refl
first_is g a n first (items.Typedef d ∷ is) test = first_is g a n first is test
first_is g a n first (items.Funcsig d ∷ is) test = first_is g a n first is test
first_is g a n first (items.Const d ∷ is) test = first_is g a n first is test
first_is g a n first (items.GlobalCell d ∷ is) test = first_is g a n first is test
first_is g a n first (items.Funcdecl d ∷ is) test = first_is g a n first is test
first_is g a n first (items.Funcdef d ∷ is) test = by (bytes_eq a d.name.text) (is_function (found g.names d.name.text) n) (test d.name.text) (first_is g a n (first + length d.blocks) is test)
  where
    by : (b c : Bool) → c ≡ b → first_of (first_blocks (first + length d.blocks) is) (index a is) ≡ definition_from g n (first + length d.blocks) is →
        first_of (first ∷ first_blocks (first + length d.blocks) is) (if b then Some 0 else option_map suc (index a is)) ≡ (if c then Some first else definition_from g n (first + length d.blocks) is)
    by true true e more = refl
    by true false e more = cc
    by false true e more = cc
    by false false e more = first_raised first (first_blocks (first + length d.blocks) is) (index a is) ∙ more

-- ---- functions that are there

record Known (p : Tables) (firsts : List ℕ) (n : ℕ) (f : Function) : Type 0 where
  name : List ℕ
  there : found p.globals.names name ≡ Some (sorts.Function n)
  first : f.first ≡ first_of firsts (found p.globals.defined name)

known_next : (p : Tables) (firsts : List ℕ) (k item : ℕ) (nm : Name) (more : ℕ → List Function) (j : ℕ) (f : Function) (b : Bool) → is_function (found p.globals.names nm.text) k ≡ b →
    ((n i : ℕ) → slice_get (more n) i ≡ Some f → Known p firsts (n + i) f) →
    slice_get (functions_behind more k (if b then Some (function_named p firsts k item nm) else None)) j ≡ Some f → Known p firsts (k + j) f
known_next p firsts k item nm more j f false e rest h = rest k j h
known_next p firsts k item nm more zero f true e rest h =
    let z : k ≡ k + 0 = omega arith in
    record {
      name = nm.text;
      there = function_is (found p.globals.names nm.text) k e ∙ ap (λ (n : ℕ). Some (sorts.Function n)) z;
      first = ap (λ (x : Function). x.first) (sym (some_is (function_named p firsts k item nm) f h));
    }
known_next p firsts k item nm more (suc j) f true e rest h = let z : suc k + j ≡ k + suc j = omega arith in subst (λ (n : ℕ). Known p firsts n f) z (rest (suc k) j h)

known_at : (p : Tables) (firsts : List ℕ) (k item : ℕ) (is : List Item) (j : ℕ) (f : Function) → slice_get (functions_from p firsts k item is) j ≡ Some f → Known p firsts (k + j) f
known_at p firsts k item [] j f h = cc
known_at p firsts k item (items.Typedef d ∷ is) j f h = known_at p firsts k (suc item) is j f h
known_at p firsts k item (items.Funcsig d ∷ is) j f h = known_at p firsts k (suc item) is j f h
known_at p firsts k item (items.Const d ∷ is) j f h = known_at p firsts k (suc item) is j f h
known_at p firsts k item (items.GlobalCell d ∷ is) j f h = known_at p firsts k (suc item) is j f h
known_at p firsts k item (items.Funcdecl d ∷ is) j f h =
    known_next p firsts k item d.name (λ n. functions_from p firsts n (suc item) is) j f (is_function (found p.globals.names d.name.text) k) refl
    (λ n i there. known_at p firsts n (suc item) is i f there) h
known_at p firsts k item (items.Funcdef d ∷ is) j f h =
    known_next p firsts k item d.name (λ n. functions_from p firsts n (suc item) is) j f (is_function (found p.globals.names d.name.text) k) refl
    (λ n i there. known_at p firsts n (suc item) is i f there) h

-- ---- equally many

one_more : (s : ℕ) (entries : ℕ → List ℕ) (f : Function) (functions : ℕ → List Function) (k : ℕ) (b : Bool) (j : ℕ) →
    ((n i : ℕ) → is_some (slice_get (entries n) i) ≡ is_some (slice_get (functions n) i)) →
    is_some (slice_get (if b then s ∷ entries (suc k) else entries k) j) ≡ is_some (slice_get (functions_behind functions k (if b then Some f else None)) j)
one_more s entries f functions k true zero more = refl
one_more s entries f functions k true (suc j) more = more (suc k) j
one_more s entries f functions k false j more = more k j

-- there is a function with a number where there is a signature for it
as_many : (p : Tables) (defined firsts : List ℕ) (k item : ℕ) (is : List Item) (j : ℕ) →
    is_some (slice_get (function_entries p.globals defined k is) j) ≡ is_some (slice_get (functions_from p firsts k item is) j)
as_many p defined firsts k item [] j = refl
as_many p defined firsts k item (items.Typedef d ∷ is) j = as_many p defined firsts k (suc item) is j
as_many p defined firsts k item (items.Funcsig d ∷ is) j = as_many p defined firsts k (suc item) is j
as_many p defined firsts k item (items.Const d ∷ is) j = as_many p defined firsts k (suc item) is j
as_many p defined firsts k item (items.GlobalCell d ∷ is) j = as_many p defined firsts k (suc item) is j
as_many p defined firsts k item (items.Funcdecl d ∷ is) j =
    one_more (declared_entry p.globals defined d) (λ n. function_entries p.globals defined n is) (function_named p firsts k item d.name) (λ n. functions_from p firsts n (suc item) is) k
    (is_function (found p.globals.names d.name.text) k) j (λ n i. as_many p defined firsts n (suc item) is i)
as_many p defined firsts k item (items.Funcdef d ∷ is) j =
    one_more (noted_signature p.globals d.signature) (λ n. function_entries p.globals defined n is) (function_named p firsts k item d.name) (λ n. functions_from p firsts n (suc item) is) k
    (is_function (found p.globals.names d.name.text) k) j (λ n i. as_many p defined firsts n (suc item) is i)

-- ---- both

first_same : (bundle : List Item) (n : ℕ) (f : Function) → slice_get (bundle_functions bundle) n ≡ Some f → definition_from (globals_of bundle) n 0 bundle ≡ f.first
unfolding tables_of
first_same bundle n f e =
    let z : 0 + n ≡ n = omega arith in
    let numbers : AreNumbered (globals_of bundle) = all_numbered no_globals bundle none_numbered in
    let k : Known (bundle_tables bundle) (first_blocks 0 bundle) n f =
    subst (λ (m : ℕ). Known (bundle_tables bundle) (first_blocks 0 bundle) m f) z (known_at (bundle_tables bundle) (first_blocks 0 bundle) 0 0 bundle n f e) in
    sym (first_is (globals_of bundle) k.name n 0 bundle (λ x. its_test (globals_of bundle) k.name x n numbers k.there))
    ∙ ap (first_of (first_blocks 0 bundle)) (sym (defined_is no_globals bundle k.name ∙ moved_none (index k.name bundle)))
    ∙ sym k.first

both_there : (bundle : List Item) (n : ℕ) → is_some (slice_get (bundle_tables bundle).functions n) ≡ is_some (slice_get (bundle_functions bundle) n)
unfolding tables_of
both_there bundle n = as_many (bundle_tables bundle) (defined_signatures (globals_of bundle) bundle) (first_blocks 0 bundle) 0 0 bundle n

pub definition_same : (bundle : List Item) (n : ℕ) →
    with_some (slice_get (bundle_tables bundle).functions n) (λ g. Some (definition_from (globals_of bundle) n 0 bundle)) ≡ with_some (slice_get (bundle_functions bundle) n) (λ f. Some f.first)
definition_same bundle n = by (slice_get (bundle_tables bundle).functions n) (slice_get (bundle_functions bundle) n) (both_there bundle n) (λ f e. first_same bundle n f e)
  where
    by : (s : Option ℕ) (o : Option Function) → is_some s ≡ is_some o → ((f : Function) → o ≡ Some f → definition_from (globals_of bundle) n 0 bundle ≡ f.first) →
        with_some s (λ g. Some (definition_from (globals_of bundle) n 0 bundle)) ≡ with_some o (λ f. Some f.first)
    by None None e first = refl
    by None (Some f) e first = cc
    by (Some s) None e first = cc
    by (Some s) (Some f) e first = ap (λ (x : Option ℕ). Some x) (first f refl)
