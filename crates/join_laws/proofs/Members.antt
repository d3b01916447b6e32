-- Items of bundles, and bundles in which each name is defined once: those meet the demands on definitions.
use Rattle.std.proofs.Common.{◌≡◌, ℕ, true, false, not, List, [], ◌∷◌, ◌++◌, Option, Some, None, is_some, ◌⊎◌, inl, inr, refl, sym, ◌∙◌, ap, subst, append_assoc}
use Rattle.std.proofs.lemmas.Bool.{false≢true}
use Rattle.ir_lex.specs.declared.name.Name.{Name}
use Rattle.ir_tree.specs.declared.items.Funcdef.{Funcdef}
use Rattle.ir_tree.specs.declared.definitions.Funcdecl.{Funcdecl}
use Rattle.ir_tree.specs.declared.items.Item.{Item}
use Rattle.ir_tree.specs.declared.items.Item.TheVariants as items
use Rattle.bundle_names.specs.declared.globals.Sort.{Sort}
use Rattle.bundle_names.specs.declared.globals.Globals.{Globals}
use Rattle.demands.specs.Demands.{AllMet}
use Rattle.name_scopes.specs.Names.{Names, found, added}
use Rattle.bundle_names.specs.Globals.{with_item, with_items, no_globals}
use Rattle.bundle_names.specs.Definitions.{may_be_function, items_demands, item_demands, blocks_demands}
use Rattle.join_laws.proofs.Names.{stays, added_own, added_cases}
use Rattle.join_laws.proofs.Numbers.{name_of, sort_of, is_routine, names_are, item_stands, leads_to, own}
use Rattle.join_laws.proofs.Graphs.{In}

-- ---- membership

abbrev pub Member : Item → List Item → Type 0
Member i [] = ⊥
Member i (x ∷ xs) = (i ≡ x) ⊎ Member i xs

pub member_left : (i : Item) (xs ys : List Item) → Member i xs → Member i (xs ++ ys)
member_left i [] ys m = absurd m
member_left i (x ∷ xs) ys (inl e) = inl e
member_left i (x ∷ xs) ys (inr m) = inr (member_left i xs ys m)

pub member_right : (i : Item) (xs ys : List Item) → Member i ys → Member i (xs ++ ys)
member_right i [] ys m = m
member_right i (x ∷ xs) ys m = inr (member_right i xs ys m)

pub member_cases : (i : Item) (xs ys : List Item) → Member i (xs ++ ys) → Member i xs ⊎ Member i ys
member_cases i [] ys m = inr m
member_cases i (x ∷ xs) ys (inl e) = inl (inl e)
member_cases i (x ∷ xs) ys (inr m) = elim (member_cases i xs ys m) [ inl l ↦ inl (inr l) | inr r ↦ inr r ]

pub in_of : (i : Item) (xs : List Item) → Member i xs → In i xs
in_of i [] m = absurd m
in_of i (x ∷ xs) (inl e) = record { before = []; behind = xs; whole = ap (λ (y : Item). y ∷ xs) (sym e) }
in_of i (x ∷ xs) (inr m) = let more = in_of i xs m in record { before = x ∷ more.before; behind = more.behind; whole = ap (λ (ys : List Item). x ∷ ys) more.whole }

pub member_of : (i : Item) (xs : List Item) → In i xs → Member i xs
member_of i xs at = subst (λ (ys : List Item). Member i ys) (sym at.whole) (member_right i at.before (i ∷ at.behind) (inl refl))

-- ---- one name is defined once, or declared and defined

abbrev pub ArePair : Item → Item → Type 0
ArePair (items.Funcdecl d) (items.Funcdef e) = Unit {0}
ArePair (items.Funcdef d) (items.Funcdecl e) = Unit {0}
ArePair _ _ = ⊥

abbrev pub Apart : Item → Item → Type 0
Apart k i = (name_of k).text ≡ (name_of i).text → ArePair k i

abbrev pub Once : List Item → Type 0
Once [] = Unit {0}
Once (x ∷ xs) = ((k : Item) → Member k xs → Apart x k) × Once xs

pub once_apart : (before : List Item) (i : Item) (behind : List Item) → Once (before ++ i ∷ behind) → (k : Item) → Member k before → Apart k i
once_apart [] i behind o k m = absurd m
once_apart (x ∷ before) i behind o k (inl e) = subst (λ (y : Item). Apart y i) (sym e) (o.0 i (member_right i before (i ∷ behind) (inl refl)))
once_apart (x ∷ before) i behind o k (inr m) = once_apart before i behind o.1 k m

pub once_more : (xs : List Item) (i : Item) → Once xs → ((k : Item) → Member k xs → Apart k i) → Once (xs ++ i ∷ [])
once_more [] i o f = ((λ k m. absurd m), tt)
once_more (x ∷ xs) i o f = (
  (λ k m. elim (member_cases k xs (i ∷ []) m) [
    | inl l ↦ o.0 k l
    | inr r ↦ elim r [ inl e ↦ subst (λ (y : Item). Apart x y) (sym e) (f x (inl refl)) | inr none ↦ absurd none ]
  ]),
  once_more xs i o.1 (λ k m. f k (inr m)),
)

-- what stands inside the functions
abbrev pub BodiesMet : List Item → Type 0
BodiesMet is = (d : Funcdef) → Member (items.Funcdef d) is → AllMet (blocks_demands [] d.blocks)

-- ---- in a bundle that meets the demands each name is defined once

-- the demands of an item come after names that go on to be defined
pub record Later (h : Globals) (k : Item) : Type 0 where
  pub at : Globals
  pub met : AllMet (item_demands at k)
  pub names : (name : List ℕ) (v : Sort) → found h.names name ≡ Some v → found at.names name ≡ Some v
  pub declared : (name : List ℕ) (n : ℕ) → found h.declared name ≡ Some n → found at.declared name ≡ Some n
  pub defined : (name : List ℕ) (n : ℕ) → found h.defined name ≡ Some n → found at.defined name ≡ Some n

pub declared_stands : (g : Globals) (i : Item) (name : List ℕ) (n : ℕ) → found g.declared name ≡ Some n → found (with_item g i).declared name ≡ Some n
declared_stands g (items.Funcdecl d) name n h = stays g.declared d.name.text name g.counts.declarations n h
declared_stands g i name n h = h

defined_stands : (g : Globals) (i : Item) (name : List ℕ) (n : ℕ) → found g.defined name ≡ Some n → found (with_item g i).defined name ≡ Some n
defined_stands g (items.Funcdef d) name n h = stays g.defined d.name.text name g.counts.definitions n h
defined_stands g i name n h = h

later_of : (h : Globals) (k : Item) (xs : List Item) → AllMet (items_demands h xs) → Member k xs → Later h k
later_of h k [] m e = absurd e
later_of h k (x ∷ xs) m (inl e) = record { at = h; met = subst (λ (y : Item). AllMet (item_demands h y)) (sym e) m.0; names = λ name v e. e; declared = λ name n e. e; defined = λ name n e. e }
later_of h k (x ∷ xs) m (inr e) =
    let more = later_of (with_item h x) k xs m.1 e in
    record {
      at = more.at;
      met = more.met;
      names = λ name v f. more.names name v (item_stands h x name v f);
      declared = λ name n f. more.declared name n (declared_stands h x name n f);
      defined = λ name n f. more.defined name n (defined_stands h x name n f);
    }

is_there : {T : Type 0} (o : Option T) (x : T) → o ≡ Some x → not (is_some o) ≡ true → ⊥
is_there None x e h = cc
is_there (Some y) x e h = false≢true h

no_function : (o : Option Sort) (x : Sort) → o ≡ Some x → may_be_function (Some x) ≡ false → may_be_function o ≡ true → ⊥
no_function o x e f h = false≢true (sym f ∙ (ap may_be_function (sym e) ∙ h))

pub some_added : {T : Type 0} (es : Names T) (n : List ℕ) (x : T) → (v : T) × (found (added es n x) n ≡ Some v)
some_added {T} es n x = by (found es n) refl
  where
    by : (o : Option T) → found es n ≡ o → (v : T) × (found (added es n x) n ≡ Some v)
    by None e = (x, added_own es n x e)
    by (Some v) e = (v, stays es n n x v e)

-- what the name of an item stands for after it
name_there : (g : Globals) (x : Item) → (v : Sort) × (found (with_item g x).names (name_of x).text ≡ Some v)
name_there g x = let v = some_added g.names (name_of x).text (sort_of g x) in (v.0, subst (λ (es : Names Sort). found es (name_of x).text ≡ Some v.0) (sym (names_are g x)) v.1)

plain_there : (g : Globals) (x : Item) → is_routine x ≡ false → AllMet (item_demands g x) → found (with_item g x).names (name_of x).text ≡ Some (sort_of g x)
plain_there g x r m = own g [] x [] r (m, tt)

apart_plain : (g : Globals) (x : Item) (n : Name) (h : Globals) → ((name : List ℕ) (v : Sort) → found (with_item g x).names name ≡ Some v → found h.names name ≡ Some v) →
    (name_of x).text ≡ n.text → not (is_some (found h.names n.text)) ≡ true → ⊥
apart_plain g x n h names e m =
    let v = name_there g x in
    is_there (found h.names n.text) v.0 (ap (found h.names) (sym e) ∙ names (name_of x).text v.0 v.1) m

apart_sort : (g : Globals) (x : Item) (n : Name) (h : Globals) → is_routine x ≡ false → may_be_function (Some (sort_of g x)) ≡ false → AllMet (item_demands g x) →
    ((name : List ℕ) (v : Sort) → found (with_item g x).names name ≡ Some v → found h.names name ≡ Some v) → (name_of x).text ≡ n.text → may_be_function (found h.names n.text) ≡ true → ⊥
apart_sort g x n h r f m names e k =
    no_function (found h.names n.text) (sort_of g x) (ap (found h.names) (sym e) ∙ names (name_of x).text (sort_of g x) (plain_there g x r m)) f k

apart_met : (g : Globals) (x k : Item) → AllMet (item_demands g x) → Later (with_item g x) k → Apart x k
apart_met g x (items.Typedef d) m l e = absurd (apart_plain g x d.name l.at l.names e l.met)
apart_met g x (items.Funcsig d) m l e = absurd (apart_plain g x d.name l.at l.names e l.met)
apart_met g x (items.Const d) m l e = absurd (apart_plain g x d.name l.at l.names e l.met)
apart_met g x (items.GlobalCell d) m l e = absurd (apart_plain g x d.name l.at l.names e l.met)
apart_met g (items.Typedef c) (items.Funcdecl d) m l e = absurd (apart_sort g (items.Typedef c) d.name l.at refl refl m l.names e l.met.0)
apart_met g (items.Funcsig c) (items.Funcdecl d) m l e = absurd (apart_sort g (items.Funcsig c) d.name l.at refl refl m l.names e l.met.0)
apart_met g (items.Const c) (items.Funcdecl d) m l e = absurd (apart_sort g (items.Const c) d.name l.at refl refl m l.names e l.met.0)
apart_met g (items.GlobalCell c) (items.Funcdecl d) m l e = absurd (apart_sort g (items.GlobalCell c) d.name l.at refl refl m l.names e l.met.0)
apart_met g (items.Funcdef c) (items.Funcdecl d) m l e = tt
apart_met g (items.Funcdecl c) (items.Funcdecl d) m l e =
    let n = some_added g.declared c.name.text g.counts.declarations in
    absurd (is_there (found l.at.declared d.name.text) n.0 (ap (found l.at.declared) (sym e) ∙ l.declared c.name.text n.0 n.1) l.met.1)
apart_met g (items.Typedef c) (items.Funcdef d) m l e = absurd (apart_sort g (items.Typedef c) d.name l.at refl refl m l.names e l.met.0)
apart_met g (items.Funcsig c) (items.Funcdef d) m l e = absurd (apart_sort g (items.Funcsig c) d.name l.at refl refl m l.names e l.met.0)
apart_met g (items.Const c) (items.Funcdef d) m l e = absurd (apart_sort g (items.Const c) d.name l.at refl refl m l.names e l.met.0)
apart_met g (items.GlobalCell c) (items.Funcdef d) m l e = absurd (apart_sort g (items.GlobalCell c) d.name l.at refl refl m l.names e l.met.0)
apart_met g (items.Funcdecl c) (items.Funcdef d) m l e = tt
apart_met g (items.Funcdef c) (items.Funcdef d) m l e =
    let n = some_added g.defined c.name.text g.counts.definitions in
    absurd (is_there (found l.at.defined d.name.text) n.0 (ap (found l.at.defined) (sym e) ∙ l.defined c.name.text n.0 n.1) l.met.1.0)

pub met_once : (g : Globals) (is : List Item) → AllMet (items_demands g is) → Once is
met_once g [] m = tt
met_once g (x ∷ xs) m = ((λ k e. apart_met g x k m.0 (later_of (with_item g x) k xs m.1 e)), met_once (with_item g x) xs m.1)

pub bodies_of : (g : Globals) (is : List Item) → AllMet (items_demands g is) → BodiesMet is
bodies_of g is m d e = (later_of g (items.Funcdef d) is m e).met.1.1

-- ---- and a bundle in which each name is defined once meets them

with_more : (g : Globals) (xs ys : List Item) → with_items g (xs ++ ys) ≡ with_items (with_items g xs) ys
with_more g [] ys = refl
with_more g (x ∷ xs) ys = with_more (with_item g x) xs ys

-- declarations and definitions of functions by name
pub declared_leads : (g : Globals) (is : List Item) (name : List ℕ) (n : ℕ) → found (with_items g is).declared name ≡ Some n → (found g.declared name ≡ Some n) ⊎ ((d : Funcdecl) × Member (items.Funcdecl d) is × (name ≡ d.name.text))
declared_leads g [] name n h = inl h
declared_leads g (items.Funcdecl d ∷ is) name n h = elim (declared_leads (with_item g (items.Funcdecl d)) is name n h) [
  | inl here ↦ elim (added_cases g.declared d.name.text name g.counts.declarations n here) [ inl old ↦ inl old | inr new ↦ inr (d, inl refl, new.0) ]
  | inr later ↦ inr (later.0, inr later.1, later.2)
]
declared_leads g (i ∷ is) name n h = elim (declared_leads (with_item g i) is name n h) [
  | inl here ↦ inl here
  | inr later ↦ inr (later.0, inr later.1, later.2)
]

pub defined_leads : (g : Globals) (is : List Item) (name : List ℕ) (n : ℕ) → found (with_items g is).defined name ≡ Some n → (found g.defined name ≡ Some n) ⊎ ((d : Funcdef) × Member (items.Funcdef d) is × (name ≡ d.name.text))
defined_leads g [] name n h = inl h
defined_leads g (items.Funcdef d ∷ is) name n h = elim (defined_leads (with_item g (items.Funcdef d)) is name n h) [
  | inl here ↦ elim (added_cases g.defined d.name.text name g.counts.definitions n here) [ inl old ↦ inl old | inr new ↦ inr (d, inl refl, new.0) ]
  | inr later ↦ inr (later.0, inr later.1, later.2)
]
defined_leads g (i ∷ is) name n h = elim (defined_leads (with_item g i) is name n h) [
  | inl here ↦ inl here
  | inr later ↦ inr (later.0, inr later.1, later.2)
]

none_met : {T : Type 0} (o : Option T) → ((x : T) → o ≡ Some x → ⊥) → not (is_some o) ≡ true
none_met None f = refl
none_met (Some x) f = absurd (f x refl)

-- a name that is found among these items is that of one of them
found_member : (before : List Item) (name : List ℕ) (v : Sort) → found (with_items no_globals before).names name ≡ Some v → (k : Item) × Member k before × (name ≡ (name_of k).text) × (n : Globals) × (v ≡ sort_of n k)
found_member before name v h = elim (leads_to no_globals before name v h) [
  | inl none ↦ cc
  | inr at ↦ (at.item, member_of at.item before (record { before = at.before; behind = at.behind; whole = at.whole }), at.same, with_items no_globals at.before, at.sort)
]

never_pair : (k i : Item) → is_routine i ≡ false → ArePair k i → ⊥
never_pair (items.Funcdecl d) (items.Funcdef e) r p = absurd (false≢true (sym r))
never_pair (items.Funcdef d) (items.Funcdecl e) r p = absurd (false≢true (sym r))
never_pair k i r p = absurd p

new_name : (before : List Item) (i : Item) → is_routine i ≡ false → ((k : Item) → Member k before → Apart k i) → not (is_some (found (with_items no_globals before).names (name_of i).text)) ≡ true
new_name before i r f = none_met (found (with_items no_globals before).names (name_of i).text) (λ v h. let k = found_member before (name_of i).text v h in never_pair k.0 i r (f k.0 k.1 (sym k.2)))

function_sort : (k i : Item) (g : Globals) (v : Sort) → ArePair k i → v ≡ sort_of g k → may_be_function (Some v) ≡ true
function_sort (items.Funcdecl d) (items.Funcdef e) g v p h = rw h refl
function_sort (items.Funcdef d) (items.Funcdecl e) g v p h = rw h refl
function_sort k i g v p h = absurd p

may_be : (before : List Item) (i : Item) → ((k : Item) → Member k before → Apart k i) → may_be_function (found (with_items no_globals before).names (name_of i).text) ≡ true
may_be before i f = by (found (with_items no_globals before).names (name_of i).text) refl
  where
    by : (o : Option Sort) → found (with_items no_globals before).names (name_of i).text ≡ o → may_be_function o ≡ true
    by None e = refl
    by (Some v) e = let k = found_member before (name_of i).text v e in function_sort k.0 i k.3 v (f k.0 k.1 (sym k.2)) k.4

item_met : (before : List Item) (i : Item) → ((k : Item) → Member k before → Apart k i) → ((d : Funcdef) → i ≡ items.Funcdef d → AllMet (blocks_demands [] d.blocks)) → AllMet (item_demands (with_items no_globals before) i)
item_met before (items.Typedef d) f b = new_name before (items.Typedef d) refl f
item_met before (items.Funcsig d) f b = new_name before (items.Funcsig d) refl f
item_met before (items.Const d) f b = new_name before (items.Const d) refl f
item_met before (items.GlobalCell d) f b = new_name before (items.GlobalCell d) refl f
item_met before (items.Funcdecl d) f b = (
  may_be before (items.Funcdecl d) f,
  none_met (found (with_items no_globals before).declared d.name.text)
      (λ n h. elim (declared_leads no_globals before d.name.text n h) [ inl none ↦ cc | inr e ↦ f (items.Funcdecl e.0) e.1 (sym e.2) ]),
)
item_met before (items.Funcdef d) f b = (
  may_be before (items.Funcdef d) f,
  (
    none_met (found (with_items no_globals before).defined d.name.text)
        (λ n h. elim (defined_leads no_globals before d.name.text n h) [ inl none ↦ cc | inr e ↦ f (items.Funcdef e.0) e.1 (sym e.2) ]),
    b d refl,
  ),
)

once_met_from : (before is : List Item) → Once (before ++ is) → BodiesMet is → AllMet (items_demands (with_items no_globals before) is)
once_met_from before [] o b = tt
once_met_from before (i ∷ is) o b =
    let whole : before ++ i ∷ is ≡ (before ++ i ∷ []) ++ is = sym (append_assoc before (i ∷ []) is) in (
      item_met before i (once_apart before i is o) (λ d e. b d (inl (sym e))),
      subst (λ (g : Globals). AllMet (items_demands g is)) (with_more no_globals before (i ∷ []))
          (once_met_from (before ++ i ∷ []) is (subst (λ (xs : List Item). Once xs) whole o) (λ d m. b d (inr m))),
    )

-- a bundle in which each name is defined once meets the demands on definitions
pub once_met : (is : List Item) → Once is → BodiesMet is → AllMet (items_demands no_globals is)
once_met is o b = once_met_from [] is o b
