-- Which item a name leads to, and which name an item has.
use Rattle.std.proofs.Common.{◌≡◌, ℕ, Bool, true, false, not, List, [], ◌∷◌, ◌++◌, Option, Some, None, is_some, ◌⊎◌, inl, inr, refl, sym, ap, subst}
use Rattle.std.proofs.lemmas.Bool.{false≢true}
use Rattle.ir_tree.specs.declared.items.Item.{Item}
use Rattle.ir_tree.specs.declared.items.Item.TheVariants as items
use Rattle.bundle_names.specs.declared.globals.Sort.{Sort}
use Rattle.bundle_names.specs.declared.globals.Sort.TheVariants as sorts
use Rattle.bundle_names.specs.declared.globals.Globals.{Globals}
use Rattle.demands.specs.Demands.{AllMet}
use Rattle.name_scopes.specs.Names.{Names, found, added}
use Rattle.bundle_names.specs.Globals.{with_item, with_items}
use Rattle.bundle_names.specs.Definitions.{may_be_function, items_demands}
pub use Rattle.bundle_join.specs.Joined.{name_of}
use Rattle.join_laws.proofs.Names.{stays, added_own, added_cases}

-- what its name stands for where it comes first
abbrev pub sort_of : Globals → Item → Sort
sort_of g (items.Typedef d) = sorts.Written g.counts.written
sort_of g (items.Funcsig d) = sorts.Signature g.counts.signatures
sort_of g (items.Const d) = sorts.Constant g.counts.constants
sort_of g (items.GlobalCell d) = sorts.GlobalCell g.counts.global_cells
sort_of g (items.Funcdecl d) = sorts.Function g.counts.functions
sort_of g (items.Funcdef d) = sorts.Function g.counts.functions

abbrev pub is_routine : Item → Bool
is_routine (items.Funcdecl d) = true
is_routine (items.Funcdef d) = true
is_routine i = false

pub names_are : (g : Globals) (i : Item) → (with_item g i).names ≡ added g.names (name_of i).text (sort_of g i)
names_are g (items.Typedef d) = refl
names_are g (items.Funcsig d) = refl
names_are g (items.Const d) = refl
names_are g (items.GlobalCell d) = refl
names_are g (items.Funcdecl d) = refl
names_are g (items.Funcdef d) = refl

-- ---- from a name to an item

pub record FoundAt (g : Globals) (is : List Item) (name : List ℕ) (v : Sort) : Type 0 where
  pub before : List Item
  pub item : Item
  pub behind : List Item
  pub whole : is ≡ before ++ item ∷ behind
  pub same : name ≡ (name_of item).text
  pub sort : v ≡ sort_of (with_items g before) item

pub leads_to : (g : Globals) (is : List Item) (name : List ℕ) (v : Sort) → found (with_items g is).names name ≡ Some v → (found g.names name ≡ Some v) ⊎ FoundAt g is name v
leads_to g [] name v h = inl h
leads_to g (i ∷ is) name v h = elim (leads_to (with_item g i) is name v h) [
  | inl here ↦ elim (added_cases g.names (name_of i).text name (sort_of g i) v (subst (λ (es : Names Sort). found es name ≡ Some v) (names_are g i) here)) [
    | inl old ↦ inl old
    | inr new ↦ inr (record { before = []; item = i; behind = is; whole = refl; same = new.0; sort = new.1 })
  ]
  | inr later ↦ inr (record { before = i ∷ later.before; item = later.item; behind = later.behind; whole = ap (λ (xs : List Item). i ∷ xs) later.whole; same = later.same; sort = later.sort })
]

-- ---- from an item to its name

pub item_stands : (g : Globals) (i : Item) (name : List ℕ) (v : Sort) → found g.names name ≡ Some v → found (with_item g i).names name ≡ Some v
item_stands g i name v h = subst (λ (es : Names Sort). found es name ≡ Some v) (sym (names_are g i)) (stays g.names (name_of i).text name (sort_of g i) v h)

pub stands : (g : Globals) (is : List Item) (name : List ℕ) (v : Sort) → found g.names name ≡ Some v → found (with_items g is).names name ≡ Some v
stands g [] name v h = h
stands g (i ∷ is) name v h = stands (with_item g i) is name v (item_stands g i name v h)

not_there : {T : Type 0} (o : Option T) → not (is_some o) ≡ true → o ≡ None
not_there None h = refl
not_there (Some x) h = absurd (false≢true h)

-- an item that is no function has its own number
first_own : (g : Globals) (i : Item) (is : List Item) → is_routine i ≡ false → AllMet (items_demands g (i ∷ is)) → found g.names (name_of i).text ≡ None
first_own g (items.Typedef d) is r m = not_there (found g.names d.name.text) m.0
first_own g (items.Funcsig d) is r m = not_there (found g.names d.name.text) m.0
first_own g (items.Const d) is r m = not_there (found g.names d.name.text) m.0
first_own g (items.GlobalCell d) is r m = not_there (found g.names d.name.text) m.0
first_own g (items.Funcdecl d) is r m = absurd (false≢true (sym r))
first_own g (items.Funcdef d) is r m = absurd (false≢true (sym r))

pub own : (g : Globals) (before : List Item) (i : Item) (behind : List Item) → is_routine i ≡ false → AllMet (items_demands g (before ++ i ∷ behind)) →
    found (with_items g (before ++ i ∷ behind)).names (name_of i).text ≡ Some (sort_of (with_items g before) i)
own g [] i behind r m =
    stands (with_item g i) behind (name_of i).text (sort_of g i)
    (subst (λ (es : Names Sort). found es (name_of i).text ≡ Some (sort_of g i)) (sym (names_are g i)) (added_own g.names (name_of i).text (sort_of g i) (first_own g i behind r m)))
own g (x ∷ before) i behind r m = own (with_item g x) before i behind r m.1

-- a function has the number of some function
function_own : (g : Globals) (i : Item) (is : List Item) → is_routine i ≡ true → AllMet (items_demands g (i ∷ is)) → (n : ℕ) × (found (with_item g i).names (name_of i).text ≡ Some (sorts.Function n))
function_own g (items.Typedef d) is r m = absurd (false≢true r)
function_own g (items.Funcsig d) is r m = absurd (false≢true r)
function_own g (items.Const d) is r m = absurd (false≢true r)
function_own g (items.GlobalCell d) is r m = absurd (false≢true r)
function_own g (items.Funcdecl d) is r m = by (found g.names d.name.text) refl m.0.0
  where
    by : (o : Option Sort) → found g.names d.name.text ≡ o → may_be_function o ≡ true → (n : ℕ) × (found (added g.names d.name.text (sorts.Function g.counts.functions)) d.name.text ≡ Some (sorts.Function n))
    by None e k = (g.counts.functions, added_own g.names d.name.text (sorts.Function g.counts.functions) e)
    by (Some (sorts.Function n)) e k = (n, stays g.names d.name.text d.name.text (sorts.Function g.counts.functions) (sorts.Function n) e)
    by (Some v) e k = absurd (false≢true k)
function_own g (items.Funcdef d) is r m = by (found g.names d.name.text) refl m.0.0
  where
    by : (o : Option Sort) → found g.names d.name.text ≡ o → may_be_function o ≡ true → (n : ℕ) × (found (added g.names d.name.text (sorts.Function g.counts.functions)) d.name.text ≡ Some (sorts.Function n))
    by None e k = (g.counts.functions, added_own g.names d.name.text (sorts.Function g.counts.functions) e)
    by (Some (sorts.Function n)) e k = (n, stays g.names d.name.text d.name.text (sorts.Function g.counts.functions) (sorts.Function n) e)
    by (Some v) e k = absurd (false≢true k)

pub routine_own : (g : Globals) (before : List Item) (i : Item) (behind : List Item) → is_routine i ≡ true → AllMet (items_demands g (before ++ i ∷ behind)) →
    (n : ℕ) × (found (with_items g (before ++ i ∷ behind)).names (name_of i).text ≡ Some (sorts.Function n))
routine_own g [] i behind r m = let f = function_own g i behind r m in (f.0, stands (with_item g i) behind (name_of i).text (sorts.Function f.0) f.1)
routine_own g (x ∷ before) i behind r m = routine_own (with_item g x) before i behind r m.1
