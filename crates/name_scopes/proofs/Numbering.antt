-- Lemmas on names that are found by number.
use Rattle.std.specs.Prelude.{◌≡◌, ◌+◌, ◌<◌, ℕ, suc, Bool, true, false, List, [], ◌∷◌, ◌++◌, Option, Some, None, length, map, slice_index_or, if◌then◌else◌, refl}
use Rattle.std.specs.Option.{option_map}
use Rattle.std.proofs.Common.{sym, ◌∙◌, ap, subst, arith}
use Rattle.std.specs.BTreeMap.{BTreeMap, Updates}
use Rattle.std.specs.Map.{lookup, IsKeyTest, AreApart, KeepsOthers}
use Rattle.std.specs.Ordering.{is_eq, nat_cmp, eq_by_cmp}
use Rattle.std.specs.declared.cmp.Ordering.{Ordering}
use Rattle.std.specs.Cmp.{eq_by_cmp_equiv}
use Rattle.std.specs.Cmp.Lexicographic.{slice_cmp, bytes_decides, nat_list_cmp_total, nat_list_eq_equiv}
use Rattle.std.specs.Str.{bytes_eq}
use Rattle.std.proofs.lemmas.Map.Text.{is_eq-slice_cmp}
use Rattle.std.specs.Global.{Vec}
use Rattle.name_scopes.specs.Names.{Names, found}
use Rattle.name_scopes.specs.Numbered.{number_in, number_at, IsNumbered}

-- definitions as names
abbrev pub seen : {T : Type 0} → List (Vec ℕ × T) → Names T
seen = map (λ e. (e.0.items, e.1))

pub length_seen : {T : Type 0} (xs : List (Vec ℕ × T)) → length (seen xs) ≡ length xs
length_seen [] = refl
length_seen (x ∷ xs) = ap suc (length_seen xs)

-- ---- what a number says

below_step : (b : Bool) (o : Option ℕ) (n i : ℕ) → ((j : ℕ) → o ≡ Some j → j < n) → (if b then Some 0 else option_map suc o) ≡ Some i → i < suc n
below_step true o n i f h = grind (arith)
below_step false None n i f h = cc
below_step false (Some j) n i f h = grind (arith, f j refl)

-- the number of a name is the number of one of the definitions
pub number_is_below : {T : Type 0} (xs : List (Vec ℕ × T)) (name : List ℕ) (i : ℕ) → number_in (seen xs) name ≡ Some i → i < length xs
number_is_below [] name i h = cc
number_is_below (x ∷ xs) name i h = below_step (bytes_eq name x.0.items) (number_in (seen xs) name) (length xs) i (number_is_below xs name) h

value_step : {T : Type 0} (b : Bool) (o : Option ℕ) (v : T) (f : Option T) (x : Vec ℕ × T) (xs : List (Vec ℕ × T)) (i : ℕ) (d : Vec ℕ × T) → v ≡ x.1
    → ((j : ℕ) → o ≡ Some j → f ≡ Some (slice_index_or xs j d).1)
    → (if b then Some 0 else option_map suc o) ≡ Some i → (if b then Some v else f) ≡ Some (slice_index_or (x ∷ xs) i d).1
value_step true o v f x xs i d same g h = let at : 0 ≡ i = cc in subst (λ k. Some v ≡ Some (slice_index_or (x ∷ xs) k d).1) at (ap Some same)
value_step false None v f x xs i d same g h = cc
value_step false (Some j) v f x xs i d same g h = let at : suc j ≡ i = cc in subst (λ k. f ≡ Some (slice_index_or (x ∷ xs) k d).1) at (g j refl)

-- and the name stands for what that definition says
pub number_says : {T : Type 0} (xs : List (Vec ℕ × T)) (name : List ℕ) (i : ℕ) (d : Vec ℕ × T) → number_in (seen xs) name ≡ Some i → found (seen xs) name ≡ Some (slice_index_or xs i d).1
number_says [] name i d h = cc
number_says (x ∷ xs) name i d h = value_step (bytes_eq name x.0.items) (number_in (seen xs) name) x.1 (found (seen xs) name) x xs i d refl (λ j. number_says xs name j d) h

absent_step : {T : Type 0} (b : Bool) (o : Option ℕ) (v : T) (f : Option T) → (o ≡ None → f ≡ None) → (if b then Some 0 else option_map suc o) ≡ None → (if b then Some v else f) ≡ None
absent_step true o v f g h = cc
absent_step false None v f g h = g refl
absent_step false (Some j) v f g h = cc

-- a name without a number stands for nothing
pub no_number_no_value : {T : Type 0} (es : Names T) (name : List ℕ) → number_in es name ≡ None → found es name ≡ None
no_number_no_value [] name h = refl
no_number_no_value (e ∷ es) name h = absent_step (bytes_eq name e.0) (number_in es name) e.1 (found es name) (no_number_no_value es name) h

-- ---- one definition more

new_step : {T : Type 0} (b : Bool) (o o' : Option ℕ) (v : T) (f : Option T) (n : ℕ) → (if b then Some v else f) ≡ None → (f ≡ None → o' ≡ Some n) → (if b then Some 0 else option_map suc o') ≡ Some (suc n)
new_step true o o' v f n h g = cc
new_step false o o' v f n h g = ap (option_map suc) (g h)

-- a new name gets the next number
new_number : {T : Type 0} (es : Names T) (name : List ℕ) (v : T) → found es name ≡ None → number_in (es ++ (name, v) ∷ []) name ≡ Some (length es)
new_number [] name v h = ap (λ (b : Bool). if b then Some 0 else None) (nat_list_eq_equiv.refl name)
new_number (e ∷ es) name v h = new_step (bytes_eq name e.0) None (number_in (es ++ (name, v) ∷ []) name) e.1 (found es name) (length es) h (new_number es name v)

-- and the other names keep theirs
other_number : {T : Type 0} (es : Names T) (name other : List ℕ) (v : T) → bytes_eq other name ≡ false → number_in (es ++ (name, v) ∷ []) other ≡ number_in es other
other_number [] name other v h = ap (λ (b : Bool). if b then Some 0 else None) h
other_number (e ∷ es) name other v h = ap (λ (o : Option ℕ). if bytes_eq other e.0 then Some 0 else option_map suc o) (other_number es name other v h)

-- ---- the map

module _ {K : Type 0} (eq : K → K → Bool) (test : K → Bool) where
  other_entries : {X : Type 0} (old new : List (K × X)) → KeepsOthers eq test old new → (other : K → Bool) → IsKeyTest eq other → AreApart test other → lookup other new ≡ lookup other old
  unfolding KeepsOthers
  other_entries old new h = h

apart : (bs cs ks : List ℕ) → bytes_eq bs cs ≡ false → bytes_eq bs ks ≡ true → bytes_eq cs ks ≡ false
apart bs cs ks n y = nat_list_eq_equiv.symm cs ks ∙ sym (nat_list_eq_equiv.congr bs ks cs y) ∙ n

apart_in_order : (bs cs ks : List ℕ) → bytes_eq bs cs ≡ false → is_eq (slice_cmp nat_cmp bs ks) ≡ true → is_eq (slice_cmp nat_cmp cs ks) ≡ false
apart_in_order bs cs ks n y = is_eq-slice_cmp cs ks ∙ apart bs cs ks n (sym (is_eq-slice_cmp bs ks) ∙ y)

abbrev pub name_cmp : Vec ℕ → Vec ℕ → Ordering
name_cmp x y = slice_cmp nat_cmp x.items y.items

other_names : (m n : BTreeMap (Vec ℕ) ℕ) (k : Vec ℕ) (w : Option ℕ) → Updates name_cmp m n k w → (other : List ℕ) → bytes_eq k.items other ≡ false → number_at n other ≡ number_at m other
other_names m n k w h other e = other_entries _ _ _ _ h.3 _ (λ x y. (eq_by_cmp_equiv nat_list_cmp_total).congr other x.items y.items) (λ q. apart_in_order k.items other q.items e)

pub none_numbered : (T : Type 0) (m : BTreeMap (Vec ℕ) ℕ) → m.entries ≡ [] → IsNumbered {T = T} m []
none_numbered T m e name = ap (lookup (λ (k : Vec ℕ). is_eq (slice_cmp nat_cmp name k.items))) e

-- where a new name is put into the map with the next number, the map has the number of each name
pub one_more_numbered : {T : Type 0} (m n : BTreeMap (Vec ℕ) ℕ) (es : Names T) (k : Vec ℕ) (name : List ℕ) (v : T) → k.items ≡ name → found es name ≡ None → IsNumbered m es
    → Updates name_cmp m n k (Some (length es)) → IsNumbered n (es ++ (name, v) ∷ [])
one_more_numbered m n es k name v same new old h other = by (bytes_eq name other) refl
  where
    by : (b : Bool) → bytes_eq name other ≡ b → number_at n other ≡ number_in (es ++ (name, v) ∷ []) other
    by true b =
        let is : name ≡ other = (bytes_decides name other).0 b in
        ap (number_at n) (sym is ∙ sym same) ∙ h.1 ∙ sym (new_number es name v new) ∙ ap (number_in (es ++ (name, v) ∷ [])) is
    by false b = other_names m n k (Some (length es)) h other (ap (λ l. bytes_eq l other) same ∙ b) ∙ old other ∙ sym (other_number es name other v (nat_list_eq_equiv.symm other name ∙ b))

map_append : {A B : Type 0} (f : A → B) (xs ys : List A) → map f (xs ++ ys) ≡ map f xs ++ map f ys
map_append f [] ys = refl
map_append f (x ∷ xs) ys = ap (λ r. f x ∷ r) (map_append f xs ys)

-- the same said of the list of definitions after a push
pub seen_more : {T : Type 0} (xs ys : List (Vec ℕ × T)) (k : Vec ℕ) (name : List ℕ) (v : T) → ys ≡ xs ++ (k, v) ∷ [] → k.items ≡ name → (n : BTreeMap (Vec ℕ) ℕ)
    → IsNumbered n (seen xs ++ (name, v) ∷ []) → IsNumbered n (seen ys)
seen_more {T} xs ys k name v pushed same n h =
    let is : seen xs ++ (name, v) ∷ [] ≡ seen ys = sym (ap seen pushed ∙ map_append (λ (e : Vec ℕ × T). (e.0.items, e.1)) xs ((k, v) ∷ []) ∙ ap (λ (l : List ℕ). seen xs ++ (l, v) ∷ []) same) in
    subst (IsNumbered n) is h
