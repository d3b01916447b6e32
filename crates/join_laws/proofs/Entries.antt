-- Each function of a bundle has an entry among the signatures of functions.
use Rattle.std.proofs.Common.{◌≡◌, ℕ, zero, suc, ◌+◌, ◌<◌, Bool, true, false, List, [], ◌∷◌, length, Option, Some, None, slice_get, nat_eq, if◌then◌else◌, refl, sym, subst, arith}
use Rattle.ir_lex.specs.declared.name.Name.{Name}
use Rattle.ir_tree.specs.declared.items.Item.{Item}
use Rattle.ir_tree.specs.declared.items.Item.TheVariants as items
use Rattle.bundle_names.specs.declared.globals.Sort.{Sort}
use Rattle.bundle_names.specs.declared.globals.Sort.TheVariants as sorts
use Rattle.bundle_names.specs.declared.globals.Counts.{Counts}
use Rattle.bundle_names.specs.declared.globals.Globals.{Globals}
use Rattle.name_scopes.specs.Names.{found}
use Rattle.bundle_names.specs.Globals.{with_function, with_item, with_items, no_globals, globals_of}
use Rattle.checked_code.specs.Entries.{is_function, noted_signature, declared_entry, defined_signatures, function_entries, tables_of}
use Rattle.join_laws.proofs.Names.{added_own, stays}
use Rattle.join_laws.proofs.Numbers.{stands}
use Rattle.bundle_facts.specs.Lemmas.Names.{AreLow, IsLow, item_low, names_low}
use Rattle.join_laws.proofs.Functions.{HasEntries}

number_same : (c : ℕ) → nat_eq c c ≡ true
number_same c = grind (arith)

number_less : (m c : ℕ) → m < c → nat_eq m c ≡ false
number_less m c l = grind (arith, l)

old_function : (v : Sort) (counts : Counts) → IsLow counts v → is_function (Some v) counts.functions ≡ false
old_function (sorts.Function m) counts l = number_less m counts.functions l
old_function (sorts.Written m) counts l = refl
old_function (sorts.Signature m) counts l = refl
old_function (sorts.Constant m) counts l = refl
old_function (sorts.GlobalCell m) counts l = refl

-- whether a name is new tells whether its function is the next one
record Next (h g : Globals) (n : Name) : Type 0 where
  counted : (if is_function (found g.names n.text) h.counts.functions then h.counts.functions + 1 else h.counts.functions) ≡ (with_function h n).counts.functions

next_of : (h g : Globals) (n : Name) → AreLow h → ((name : List ℕ) (v : Sort) → found (with_function h n).names name ≡ Some v → found g.names name ≡ Some v) → Next h g n
next_of h g n low all = by (found h.names n.text) refl
  where
    by : (o : Option Sort) → found h.names n.text ≡ o → Next h g n
    by None e =
        let here = all n.text (sorts.Function h.counts.functions) (added_own h.names n.text (sorts.Function h.counts.functions) e) in
        record { counted = rw (here, e, number_same h.counts.functions) refl }
    by (Some v) e =
        let here = all n.text v (stays h.names n.text n.text (sorts.Function h.counts.functions) v e) in
        let old = old_function v h.counts (low.low n.text v e) in
        record { counted = rw (here, e, old) refl }

-- one more function: the length of what follows
one_more : (t : Bool) (first : ℕ) (more : ℕ → List ℕ) (k l all : ℕ) → (if t then k + 1 else k) ≡ l → l + length (more l) ≡ all → k + length (if t then first ∷ more (suc k) else more k) ≡ all
one_more true first more k l all e h =
    let z : suc k ≡ l = omega (arith, e) in
    let w : l + length (more (suc k)) ≡ all = subst (λ (m : ℕ). l + length (more m) ≡ all) (sym z) h in
    omega (arith, z, w)
one_more false first more k l all e h = subst (λ (m : ℕ). m + length (more m) ≡ all) (sym e) h

entries_many : (h g : Globals) (defined : List ℕ) (is : List Item) → AreLow h → ((name : List ℕ) (v : Sort) → found (with_items h is).names name ≡ Some v → found g.names name ≡ Some v) →
    h.counts.functions + length (function_entries g defined h.counts.functions is) ≡ (with_items h is).counts.functions
entries_many h g defined [] low all = omega arith
entries_many h g defined (items.Typedef d ∷ is) low all = entries_many (with_item h (items.Typedef d)) g defined is (item_low h (items.Typedef d) low) all
entries_many h g defined (items.Funcsig d ∷ is) low all = entries_many (with_item h (items.Funcsig d)) g defined is (item_low h (items.Funcsig d) low) all
entries_many h g defined (items.Const d ∷ is) low all = entries_many (with_item h (items.Const d)) g defined is (item_low h (items.Const d) low) all
entries_many h g defined (items.GlobalCell d ∷ is) low all = entries_many (with_item h (items.GlobalCell d)) g defined is (item_low h (items.GlobalCell d) low) all
entries_many h g defined (items.Funcdecl d ∷ is) low all =
    let next = next_of h g d.name low (λ name v e. all name v (stands (with_item h (items.Funcdecl d)) is name v e)) in
    one_more (is_function (found g.names d.name.text) h.counts.functions) (declared_entry g defined d) (λ m. function_entries g defined m is) h.counts.functions (with_function h d.name).counts.functions
    (with_items (with_item h (items.Funcdecl d)) is).counts.functions next.counted (entries_many (with_item h (items.Funcdecl d)) g defined is (item_low h (items.Funcdecl d) low) all)
entries_many h g defined (items.Funcdef d ∷ is) low all =
    let next = next_of h g d.name low (λ name v e. all name v (stands (with_item h (items.Funcdef d)) is name v e)) in
    one_more (is_function (found g.names d.name.text) h.counts.functions) (noted_signature g d.signature) (λ m. function_entries g defined m is) h.counts.functions (with_function h d.name).counts.functions
    (with_items (with_item h (items.Funcdef d)) is).counts.functions next.counted (entries_many (with_item h (items.Funcdef d)) g defined is (item_low h (items.Funcdef d) low) all)

is_there : (xs : List ℕ) (n : ℕ) → n < length xs → (x : ℕ) × (slice_get xs n ≡ Some x)
is_there [] n l = absurd (omega (arith, l))
is_there (x ∷ xs) zero l = (x, refl)
is_there (x ∷ xs) (suc n) l = is_there xs n (omega (arith, l))

pub has_entries : (b : List Item) → HasEntries b
unfolding tables_of
has_entries b name n h =
    let none : AreLow no_globals = record { low = λ name v e. cc; one = λ a b v e k. cc } in
    let many : 0 + length (function_entries (globals_of b) (defined_signatures (globals_of b) b) 0 b) ≡ (globals_of b).counts.functions = entries_many no_globals (globals_of b) (defined_signatures (globals_of b) b) b none (λ name v e. e) in
    let low : n < (globals_of b).counts.functions = (names_low b).low name (sorts.Function n) h in
    is_there (function_entries (globals_of b) (defined_signatures (globals_of b) b) 0 b) n (omega (arith, many, low))
