-- The names of a bundle each of whose items is in another one are of the same sorts there; and a joined bundle meets the demands on names.
use Rattle.std.proofs.Common.{◌≡◌, ℕ, Bool, true, false, List, [], ◌∷◌, Option, Some, None, Ok, inl, inr, refl, sym, ◌∙◌, ap, subst}
use Rattle.std.proofs.lemmas.Bool.{false≢true}
use Rattle.ir_tree.specs.declared.items.Funcdef.{Funcdef}
use Rattle.ir_tree.specs.declared.items.Item.{Item}
use Rattle.ir_tree.specs.declared.items.Item.TheVariants as items
use Rattle.bundle_names.specs.declared.globals.Sort.{Sort}
use Rattle.bundle_names.specs.declared.globals.Sort.TheVariants as sorts
use Rattle.bundle_names.specs.declared.globals.Globals.{Globals}
use Rattle.demands.specs.Demands.{AllMet}
use Rattle.name_scopes.specs.Names.{Names, found}
use Rattle.bundle_names.specs.Globals.{with_items, no_globals, globals_of}
use Rattle.bundle_names.specs.Definitions.{items_demands}
use Rattle.bundle_names.specs.ItemUses.{item_use, item_uses}
use Rattle.bundle_names.specs.Naming.{name_demands}
use Rattle.bundle_join.specs.Joined.{joined}
use Rattle.join_laws.proofs.Numbers.{name_of, sort_of, is_routine, FoundAt, leads_to, own, routine_own}
use Rattle.join_laws.proofs.Graphs.{In}
use Rattle.join_laws.proofs.Alike.{Alike}
use Rattle.join_laws.proofs.Members.{Member, in_of, member_of, Once, met_once, bodies_of, once_met}
use Rattle.join_laws.proofs.Joining.{Among, joined_is}
use Rattle.join_laws.proofs.Joined.{Like, Represents, uses_in}
use Rattle.join_laws.proofs.Uses.{SortGoes, SortsGo, item_used}

-- alike items have one name, and are both functions or none is
pub alike_named : (i k : Item) → Alike i k → (name_of i).text ≡ (name_of k).text
alike_named (items.Typedef d) (items.Typedef e) a = a.0
alike_named (items.Funcsig d) (items.Funcsig e) a = a.0
alike_named (items.Const d) (items.Const e) a = a.0
alike_named (items.GlobalCell d) (items.GlobalCell e) a = a.0
alike_named (items.Funcdecl d) (items.Funcdecl e) a = a.0
alike_named (items.Funcdef d) (items.Funcdef e) a = ap (λ (x : Funcdef). x.name.text) a
alike_named i k a = absurd a

sort_alike : (g h : Globals) (i k : Item) → Alike i k → is_routine k ≡ false → SortGoes (Some (sort_of g i)) (Some (sort_of h k))
sort_alike g h (items.Typedef d) (items.Typedef e) a r = tt
sort_alike g h (items.Funcsig d) (items.Funcsig e) a r = tt
sort_alike g h (items.Const d) (items.Const e) a r = tt
sort_alike g h (items.GlobalCell d) (items.GlobalCell e) a r = tt
sort_alike g h (items.Funcdecl d) (items.Funcdecl e) a r = absurd (false≢true (sym r))
sort_alike g h (items.Funcdef d) (items.Funcdef e) a r = absurd (false≢true (sym r))
sort_alike g h i k a r = absurd a

routine_alike : (g : Globals) (i k : Item) (n : ℕ) → Alike i k → is_routine k ≡ true → SortGoes (Some (sort_of g i)) (Some (sorts.Function n))
routine_alike g (items.Typedef d) (items.Typedef e) n a r = absurd (false≢true r)
routine_alike g (items.Funcsig d) (items.Funcsig e) n a r = absurd (false≢true r)
routine_alike g (items.Const d) (items.Const e) n a r = absurd (false≢true r)
routine_alike g (items.GlobalCell d) (items.GlobalCell e) n a r = absurd (false≢true r)
routine_alike g (items.Funcdecl d) (items.Funcdecl e) n a r = tt
routine_alike g (items.Funcdef d) (items.Funcdef e) n a r = tt
routine_alike g i k n a r = absurd a

-- an item of a bundle in which each name is defined once, by its name
pub named_in : (j : List Item) (k : Item) → AllMet (items_demands no_globals j) → (at : In k j) → is_routine k ≡ false → found (globals_of j).names (name_of k).text ≡ Some (sort_of (with_items no_globals at.before) k)
named_in j k m at r =
    subst (λ (xs : List Item). found (with_items no_globals xs).names (name_of k).text ≡ Some (sort_of (with_items no_globals at.before) k)) (sym at.whole)
    (own no_globals at.before k at.behind r (subst (λ (xs : List Item). AllMet (items_demands no_globals xs)) at.whole m))

pub routine_in : (j : List Item) (k : Item) → AllMet (items_demands no_globals j) → In k j → is_routine k ≡ true → (n : ℕ) × (found (globals_of j).names (name_of k).text ≡ Some (sorts.Function n))
routine_in j k m at r =
    let f = routine_own no_globals at.before k at.behind r (subst (λ (xs : List Item). AllMet (items_demands no_globals xs)) at.whole m) in
    (f.0, subst (λ (xs : List Item). found (with_items no_globals xs).names (name_of k).text ≡ Some (sorts.Function f.0)) (sym at.whole) f.1)

sort_goes : (b j : List Item) → AllMet (items_demands no_globals j) → ((i : Item) → In i b → Like i j) → (name : List ℕ) (v : Sort) → FoundAt no_globals b name v → SortGoes (Some v) (found (globals_of j).names name)
sort_goes b j m each name v at =
    let like = each at.item (record { before = at.before; behind = at.behind; whole = at.whole }) in
    let named : name ≡ (name_of like.item).text = at.same ∙ alike_named at.item like.item like.alike in
    subst (λ (x : Sort). SortGoes (Some x) (found (globals_of j).names name)) (sym at.sort)
    (subst (λ (x : List ℕ). SortGoes (Some (sort_of (with_items no_globals at.before) at.item)) (found (globals_of j).names x)) (sym named)
    (by (is_routine like.item) like refl))
  where
    by : (r : Bool) → (like : Like at.item j) → is_routine like.item ≡ r → SortGoes (Some (sort_of (with_items no_globals at.before) at.item)) (found (globals_of j).names (name_of like.item).text)
    by false like e = rw (named_in j like.item m like.there e) (sort_alike (with_items no_globals at.before) (with_items no_globals like.there.before) at.item like.item like.alike e)
    by true like e = let f = routine_in j like.item m like.there e in rw (f.1) (routine_alike (with_items no_globals at.before) at.item like.item f.0 like.alike e)

pub sorts_go : (b j : List Item) → AllMet (items_demands no_globals j) → ((i : Item) → In i b → Like i j) → SortsGo (globals_of b).names (globals_of j).names
sorts_go b j m each = record { each = λ name. by name (found (globals_of b).names name) refl }
  where
    by : (name : List ℕ) (o : Option Sort) → found (globals_of b).names name ≡ o → SortGoes o (found (globals_of j).names name)
    by name None e = tt
    by name (Some v) e = elim (leads_to no_globals b name v e) [
      | inl none ↦ cc
      | inr at ↦ sort_goes b j m each name v at
    ]

-- ---- the joined bundle

-- each item comes from a bundle
pub record Origin (bundles : List (List Item)) (k : Item) : Type 0 where
  pub bundle : List Item
  pub among : Among bundle bundles
  pub member : Member k bundle

pub record IsJoin (bundles : List (List Item)) (j : List Item) : Type 0 where
  pub once : AllMet (items_demands no_globals j)
  pub single : Once j
  pub each : (b : List Item) → Among b bundles → (i : Item) → In i b → Like i j
  pub origin : (k : Item) → Member k j → Origin bundles k

abbrev pub AllNamed : List (List Item) → Type 0
AllNamed bundles = (b : List Item) → Among b bundles → AllMet (name_demands b)

pub is_join : (bundles : List (List Item)) (j : List Item) → AllNamed bundles → joined bundles ≡ Ok j → IsJoin bundles j
is_join bundles j named h =
    let all = joined_is 0 [] bundles j h tt (λ b a. met_once no_globals b (named b a).0) in
    let origin : (k : Item) → Member k j → Origin bundles k = λ k m. elim (all.comes k m) [ inl none ↦ absurd none | inr from ↦ record { bundle = from.0; among = from.1; member = from.2 } ] in
    record {
      once = once_met j all.once (λ d m. let from = origin (items.Funcdef d) m in bodies_of no_globals from.bundle (named from.bundle from.among).0 d from.member);
      single = all.once;
      each = λ b a i at. let c = all.covers b a i (member_of i b at) in record { item = c.like; there = in_of c.like j c.member; alike = c.alike };
      origin = origin;
    }

pub represents : (bundles : List (List Item)) (j : List Item) → AllNamed bundles → IsJoin bundles j → (b : List Item) → Among b bundles → Represents b j
represents bundles j named join b a = record { fresh = (named b a).0; used = (named b a).1; once = join.once; each = join.each b a }

uses_all : (g : Names Sort) (is : List Item) → ((k : Item) → Member k is → AllMet (item_use g k)) → AllMet (item_uses g is)
uses_all g [] f = tt
uses_all g (i ∷ is) f = (f i (inl refl), uses_all g is (λ k m. f k (inr m)))

-- the joined bundle meets the demands on names
pub join_named : (bundles : List (List Item)) (j : List Item) → AllNamed bundles → IsJoin bundles j → AllMet (name_demands j)
join_named bundles j named join = (
  join.once,
  uses_all (globals_of j).names j (λ k m.
      let from = join.origin k m in
      let r = represents bundles j named join from.bundle from.among in
      item_used (globals_of from.bundle).names (globals_of j).names (sorts_go from.bundle j join.once r.each) k
      (uses_in from.bundle k r.used (in_of k from.bundle from.member))),
)
