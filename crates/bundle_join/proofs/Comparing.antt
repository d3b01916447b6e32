-- Lemmas on the item that another is compared with.
use Rattle.std.specs.Prelude.{◌≡◌, ℕ, zero, suc, Bool, true, false, ◌&&◌, nat_eq, List, [], ◌∷◌, Option, Some, None, take, slice_get, if◌then◌else◌, refl}
use Rattle.std.specs.Option.{option_map, option_and_then}
use Rattle.std.proofs.Common.{sym, ◌∙◌, ap}
use Rattle.std.proofs.Math.Bool.{and_comm}
use Rattle.std.specs.Str.{bytes_eq}
use Rattle.std.specs.Cmp.Lexicographic.{nat_list_eq_equiv}
use Rattle.ir_tree.specs.declared.items.Item.{Item}
use Rattle.ir_tree.specs.declared.items.Item.TheVariants as items
use Rattle.demands.specs.Demands.{or_else}
use Rattle.name_scopes.specs.Names.{Names, found}
use Rattle.name_scopes.specs.Numbered.{number_in}
use Rattle.bundle_join.specs.declared.kept.Kept.{Kept}
use Rattle.bundle_join.specs.Joined.{same_named, same_directive, first_where, compared}
use Rattle.bundle_join.specs.Firsts.{keyed, HasFirsts, HasItems, text_of, tag, tagged}

-- ---- the first item of a key

found_step : (b : Bool) (i : Item) (is : List Item) (o : Option ℕ) (r : Option Item) → option_and_then (slice_get is) o ≡ r → option_and_then (slice_get (i ∷ is)) (if b then Some 0 else option_map suc o) ≡ (if b then Some i else r)
found_step true i is o r h = refl
found_step false i is None r h = h
found_step false i is (Some k) r h = h

none_in : (o : Option ℕ) → option_and_then (slice_get {X = Item} []) o ≡ None
none_in None = refl
none_in (Some k) = refl

found_where : (f : Item → List ℕ) (key : List ℕ) (is : List Item) (n : ℕ) → option_and_then (slice_get (take n is)) (number_in (keyed f is) key) ≡ first_where (λ i. bytes_eq key (f i)) (take n is)
found_where f key [] zero = refl
found_where f key [] (suc n) = refl
found_where f key (i ∷ is) zero = none_in (number_in (keyed f (i ∷ is)) key)
found_where f key (i ∷ is) (suc n) = found_step (bytes_eq key (f i)) i (take n is) (number_in (keyed f is) key) (first_where (λ i. bytes_eq key (f i)) (take n is)) (found_where f key is n)

first_by : (p q : Item → Bool) → ((i : Item) → p i ≡ q i) → (is : List Item) → first_where p is ≡ first_where q is
first_by p q h [] = refl
first_by p q h (i ∷ is) = ap (λ (b : Bool). if b then Some i else first_where p is) (h i) ∙ ap (λ (r : Option Item). if q i then Some i else r) (first_by p q h is)

-- ---- the keys

tags : (k i : Item) → nat_eq (tag k) (tag i) ≡ same_directive k i
tags (items.Typedef d) i = elim i as (λ v. nat_eq 0 (tag v) ≡ same_directive (items.Typedef d) v) [ items.Typedef e ↦ refl | items.Funcsig e ↦ refl | items.Const e ↦ refl | items.GlobalCell e ↦ refl | items.Funcdecl e ↦ refl | items.Funcdef e ↦ refl ]
tags (items.Funcsig d) i = elim i as (λ v. nat_eq 1 (tag v) ≡ same_directive (items.Funcsig d) v) [ items.Typedef e ↦ refl | items.Funcsig e ↦ refl | items.Const e ↦ refl | items.GlobalCell e ↦ refl | items.Funcdecl e ↦ refl | items.Funcdef e ↦ refl ]
tags (items.Const d) i = elim i as (λ v. nat_eq 2 (tag v) ≡ same_directive (items.Const d) v) [ items.Typedef e ↦ refl | items.Funcsig e ↦ refl | items.Const e ↦ refl | items.GlobalCell e ↦ refl | items.Funcdecl e ↦ refl | items.Funcdef e ↦ refl ]
tags (items.GlobalCell d) i = elim i as (λ v. nat_eq 3 (tag v) ≡ same_directive (items.GlobalCell d) v) [ items.Typedef e ↦ refl | items.Funcsig e ↦ refl | items.Const e ↦ refl | items.GlobalCell e ↦ refl | items.Funcdecl e ↦ refl | items.Funcdef e ↦ refl ]
tags (items.Funcdecl d) i = elim i as (λ v. nat_eq 4 (tag v) ≡ same_directive (items.Funcdecl d) v) [ items.Typedef e ↦ refl | items.Funcsig e ↦ refl | items.Const e ↦ refl | items.GlobalCell e ↦ refl | items.Funcdecl e ↦ refl | items.Funcdef e ↦ refl ]
tags (items.Funcdef d) i = elim i as (λ v. nat_eq 5 (tag v) ≡ same_directive (items.Funcdef d) v) [ items.Typedef e ↦ refl | items.Funcsig e ↦ refl | items.Const e ↦ refl | items.GlobalCell e ↦ refl | items.Funcdecl e ↦ refl | items.Funcdef e ↦ refl ]

-- the keys are equal where the names and the directives are the same
same_tagged : (k i : Item) → bytes_eq (tagged k) (tagged i) ≡ (same_named k i && same_directive k i)
same_tagged k i = and_comm (nat_eq (tag k) (tag i)) (bytes_eq (text_of k) (text_of i)) ∙ ap (λ (b : Bool). same_named k i && b) (tags k i)

-- ---- the two look-ups

abbrev by_key : (k : Kept) (n : ℕ) → Item → Option Item
by_key k n i = first_where (λ e. same_named e i && same_directive e i) (take n k.items)

abbrev by_name : (k : Kept) (n : ℕ) → Item → Option Item
by_name k n i = first_where (λ e. same_named e i) (take n k.items)

module _ (k : Kept) (n : ℕ) (i : Item) (had : HasItems k) (first : List Item) (is : first ≡ take n k.items) where
  looked_up : (f : Item → List ℕ) (numbers : Names ℕ) (key : List ℕ) (p : Item → Bool) → HasFirsts f numbers k.items → key ≡ f i → ((e : Item) → bytes_eq (f e) (f i) ≡ p e)
      → option_and_then (slice_get first) (found numbers key) ≡ first_where p (take n k.items)
  looked_up f numbers key p has e same =
      ap (λ (xs : List Item). option_and_then (slice_get xs) (found numbers key)) is ∙ ap (option_and_then (slice_get (take n k.items))) (has key)
      ∙ found_where f key k.items n ∙ first_by (λ e. bytes_eq key (f e)) p (λ x. nat_list_eq_equiv.symm key (f x) ∙ ap (bytes_eq (f x)) e ∙ same x) (take n k.items)

  key_found : (key : List ℕ) → key ≡ tagged i → option_and_then (slice_get first) (found k.tagged_names key) ≡ by_key k n i
  key_found key e = looked_up tagged k.tagged_names key (λ e. same_named e i && same_directive e i) had.tagged_names e (λ e. same_tagged e i)

  -- it is the item with the key, where there is one
  pub compared_by_key : (key : List ℕ) (o : Item) → key ≡ tagged i → Some o ≡ option_and_then (slice_get first) (found k.tagged_names key) → Some o ≡ compared (take n k.items) i
  compared_by_key key o e h = sym (ap (λ (r : Option Item). or_else r (by_name k n i)) (sym (h ∙ key_found key e)))

  -- and else the first of the name
  pub compared_by_name : (key name : List ℕ) (r : Option Item) → key ≡ tagged i → name ≡ text_of i → None ≡ option_and_then (slice_get first) (found k.tagged_names key)
      → r ≡ option_and_then (slice_get first) (found k.names name) → r ≡ compared (take n k.items) i
  compared_by_name key name r e f h g =
      g ∙ looked_up text_of k.names name (λ e. same_named e i) had.names f (λ e. refl) ∙ ap (λ (r : Option Item). or_else r (by_name k n i)) (h ∙ key_found key e)
