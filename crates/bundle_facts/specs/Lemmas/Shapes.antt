-- Types of one class: their definitions have one shape, and the same leaves and places fit them.
use Rattle.std.proofs.Common.{◌≡◌, Bool, ℕ, suc, ◌<◌, true, List, [], ◌∷◌, ◌++◌, length, map, drop, ◌&&◌, Option, Some, None, IsSomeAnd, slice_get, refl, sym, ◌∙◌, ap, subst, arith}
use Rattle.std.specs.List.{All, flat_map}
use Rattle.std.proofs.lemmas.Bool.{and_parts}
use Rattle.std.proofs.lemmas.List.{length-append, map-append}
use Rattle.std.proofs.lemmas.List.Elements.{All-head, All-tail}
use Rattle.std.proofs.lemmas.Option.{slice_get_within}
use Rattle.type_definitions.specs.declared.definition.TypeDef.{TypeDef}
use Rattle.type_definitions.specs.declared.definition.TypeDef.TheVariants.{Int, Struct, Array, Hybrid, Void, Ref, Iref, FuncRef, StackRef, ThreadRef, Sig}
use Rattle.type_definitions.specs.Definition.{constructor, number, arguments}
use Rattle.type_definitions.specs.Same.{pairs, same, IsGraph}
use Rattle.type_definitions.specs.Class.{class_of}
use Rattle.type_definitions.specs.Laws.{IsFinite}
use Rattle.type_definitions.specs.Leaves.{leaves, leaves_at}
use Rattle.type_definitions.specs.Scalars.{is_scalar}
use Rattle.type_definitions.specs.Lemmas.Depth.{Meets, same_meets, args_within}
use Rattle.type_definitions.specs.Lemmas.Proved.{congruence, decided}
use Rattle.type_definitions.specs.Lemmas.Respect.{class_decides, map_times}
use Rattle.type_definitions.specs.Lemmas.Unfolds.{leaves_are}
use Rattle.check_tables.specs.TypeTests.{repeated_of}
use Rattle.typed_heap.specs.Objects.{HeapObject, leaf_classes}
use Rattle.typed_heap.specs.Fits.{begins, rest_fits, are_runs, fits, place_fits}
use Rattle.bundle_laws.specs.Lemmas.Bodies.{some_is}
use Rattle.bundle_facts.specs.Facts.{IsClassOf, AreShaped, LeavesAreOfParts}

-- ---- lists

-- lists that are the same by pairs are of the same classes
same_classes : (g : List TypeDef) → IsGraph g → (xs ys : List ℕ) → All (λ x. x < length g) xs → All (λ y. y < length g) ys → pairs (same g) xs ys ≡ true →
    map (class_of g) xs ≡ map (class_of g) ys
same_classes g i [] [] a b h = refl
same_classes g i [] (y ∷ ys) a b h = cc
same_classes g i (x ∷ xs) [] a b h = cc
same_classes g i (x ∷ xs) (y ∷ ys) a b h =
    let P = λ (n : ℕ). n < length g in
    let both = and_parts (same g x y) (pairs (same g) xs ys) h in
    let here : class_of g x ≡ class_of g y = ((decided g i).equal x y (All-head P x xs a) (All-head P y ys b)).1 both.0 in
    let rest : map (class_of g) xs ≡ map (class_of g) ys = same_classes g i xs ys (All-tail P x xs a) (All-tail P y ys b) both.1 in
    cc

as_many : (f : ℕ → ℕ) (xs ys : List ℕ) → map f xs ≡ map f ys → length xs ≡ length ys
as_many f [] [] e = refl
as_many f [] (y ∷ ys) e = cc
as_many f (x ∷ xs) [] e = cc
as_many f (x ∷ xs) (y ∷ ys) e = let rest : map f xs ≡ map f ys = cc in ap (λ (n : ℕ). suc n) (as_many f xs ys rest)

mapped_parts : (f : ℕ → ℕ) (xs ys us vs : List ℕ) → length xs ≡ length ys → map f (xs ++ us) ≡ map f (ys ++ vs) → (map f xs ≡ map f ys) × (map f us ≡ map f vs)
mapped_parts f [] [] us vs l e = (refl, e)
mapped_parts f [] (y ∷ ys) us vs l e = absurd (omega (arith, l))
mapped_parts f (x ∷ xs) [] us vs l e = absurd (omega (arith, l))
mapped_parts f (x ∷ xs) (y ∷ ys) us vs l e =
    let more : map f (xs ++ us) ≡ map f (ys ++ vs) = cc in
    let first : f x ≡ f y = cc in
    let rest : (map f xs ≡ map f ys) × (map f us ≡ map f vs) = mapped_parts f xs ys us vs (omega (arith, l)) more in
    let behind : map f xs ≡ map f ys = rest.0 in
    (cc, rest.1)

-- ---- the shape of a definition

one_class : (f : ℕ → ℕ) (x y : ℕ) → map f (x ∷ []) ≡ map f (y ∷ []) → f y ≡ f x
one_class f x y e = cc

pub shaped : (g : List TypeDef) (d e : TypeDef) → constructor d ≡ constructor e → number d ≡ number e → map (class_of g) (arguments d) ≡ map (class_of g) (arguments e) → AreShaped g d e
shaped g (Int w) (Int v) k n h = sym n
shaped g (Struct fields) (Struct ks) k n h = sym h
shaped g (Array element size) (Array x m) k n h = (one_class (class_of g) element x h, sym n)
shaped g (Hybrid fixed element) (Hybrid ks x) k n h =
    let many : length (fixed ++ element ∷ []) ≡ length (ks ++ x ∷ []) = as_many (class_of g) (fixed ++ element ∷ []) (ks ++ x ∷ []) h in
    let both = mapped_parts (class_of g) fixed ks (element ∷ []) (x ∷ []) (omega (arith, many, length-append fixed (element ∷ []), length-append ks (x ∷ []))) h in
    (sym both.0, one_class (class_of g) element x both.1)
shaped g Void Void k n h = tt
shaped g (Ref t) (Ref x) k n h = one_class (class_of g) t x h
shaped g (Iref t) (Iref x) k n h = one_class (class_of g) t x h
shaped g (FuncRef s) (FuncRef x) k n h = one_class (class_of g) s x h
shaped g StackRef StackRef k n h = tt
shaped g ThreadRef ThreadRef k n h = tt
shaped g (Sig takes gives) (Sig ks ls) k n h = let both = mapped_parts (class_of g) takes ks gives ls n h in (sym both.0, sym both.1)
shaped g d e k n h = absurd (omega (arith, k))

meet_shaped : (g : List TypeDef) → IsGraph g → (a b : ℕ) → (m : Meets g (same g) a b) → AreShaped g m.one m.other
meet_shaped g i a b m = shaped g m.one m.other m.kind m.sized (same_classes g i (arguments m.one) (arguments m.other) (args_within g i a m.one m.at_one) (args_within g i b m.other m.at_other) m.args)

pub class_shape : (g : List TypeDef) → IsGraph g → (a b : ℕ) (d : TypeDef) → a < length g → b < length g → class_of g a ≡ class_of g b → slice_get g a ≡ Some d →
    IsSomeAnd (slice_get g b) (AreShaped g d)
class_shape g i a b d la lb e there =
    let m : Meets g (same g) a b = same_meets g i a b la lb (((decided g i).equal a b la lb).0 e) in
    let one : m.one ≡ d = some_is m.one d (sym m.at_one ∙ there) in
    rw m.at_other (subst (λ (x : TypeDef). AreShaped g x m.other) one (meet_shaped g i a b m))

-- ---- the class of a type

pub class_within : (g : List TypeDef) → IsGraph g → (t : ℕ) → t < length g → class_of g t < length g
class_within g i t l = omega (arith, (decided g i).no_later t l)

pub class_own : (g : List TypeDef) → IsGraph g → (t : ℕ) → t < length g → class_of g (class_of g t) ≡ class_of g t
class_own g i t l = ((decided g i).equal (class_of g t) t (class_within g i t l) l).1 ((decided g i).of_it t l)

pub class_leaves : (g : List TypeDef) → IsGraph g → (a b : ℕ) → a < length g → b < length g → class_of g a ≡ class_of g b → leaf_classes g a ≡ leaf_classes g b
class_leaves = class_decides

pub is_class : (g : List TypeDef) → IsGraph g → (t : ℕ) → t < length g → IsClassOf g t (class_of g t)
is_class g i t l = record {
  written = l;
  within = class_within g i t l;
  class = refl;
  own = class_own g i t l;
  leaves = class_decides g i (class_of g t) t (class_within g i t l) l (class_own g i t l);
  agrees = (congruence g i t (class_of g t) l (class_within g i t l)).0
      (((decided g i).equal t (class_of g t) l (class_within g i t l)).0 (sym (class_own g i t l)));
}

-- ---- what fits

rest_same : (g : List TypeDef) → IsGraph g → (d e : TypeDef) → All (λ x. x < length g) (arguments d) → All (λ x. x < length g) (arguments e) → AreShaped g d e → (found : List ℕ) →
    rest_fits g (repeated_of (Some d)) found ≡ rest_fits g (repeated_of (Some e)) found
rest_same g i (Int w) (Int v) a b h found = refl
rest_same g i (Struct fields) (Struct ks) a b h found = refl
rest_same g i (Array element size) (Array x m) a b h found = refl
rest_same g i (Hybrid fixed element) (Hybrid ks x) a b h found =
    ap (λ (run : List ℕ). are_runs run found) (class_decides g i element x (last fixed element a) (last ks x b) (sym h.1))
  where
    last : (xs : List ℕ) (x : ℕ) → All (λ x. x < length g) (xs ++ x ∷ []) → x < length g
    last [] x h = All-head (λ x. x < length g) x [] h
    last (y ∷ ys) x h = last ys x (All-tail (λ x. x < length g) y (ys ++ x ∷ []) h)
rest_same g i Void Void a b h found = refl
rest_same g i (Ref t) (Ref x) a b h found = refl
rest_same g i (Iref t) (Iref x) a b h found = refl
rest_same g i (FuncRef s) (FuncRef x) a b h found = refl
rest_same g i StackRef StackRef a b h found = refl
rest_same g i ThreadRef ThreadRef a b h found = refl
rest_same g i (Sig takes gives) (Sig ks ls) a b h found = refl
rest_same g i d e a b h found = absurd h

pub class_rest : (g : List TypeDef) → IsGraph g → (a b : ℕ) → a < length g → b < length g → class_of g a ≡ class_of g b → (found : List ℕ) →
    rest_fits g (repeated_of (slice_get g a)) found ≡ rest_fits g (repeated_of (slice_get g b)) found
class_rest g i a b la lb e found =
    let m : Meets g (same g) a b = same_meets g i a b la lb (((decided g i).equal a b la lb).0 e) in
    rw (m.at_one, m.at_other) (rest_same g i m.one m.other (args_within g i a m.one m.at_one) (args_within g i b m.other m.at_other) (meet_shaped g i a b m) found)

pub class_fits : (g : List TypeDef) → IsGraph g → (a b : ℕ) → a < length g → b < length g → class_of g a ≡ class_of g b → (found : List ℕ) → fits g a found ≡ fits g b found
class_fits g i a b la lb e found =
    ap (λ (ls : List ℕ). begins ls found && rest_fits g (repeated_of (slice_get g a)) (drop (length ls) found)) (class_decides g i a b la lb e)
    ∙ ap (λ (x : Bool). begins (leaf_classes g b) found && x) (class_rest g i a b la lb e (drop (length (leaf_classes g b)) found))

pub class_place_fits : (g : List TypeDef) → IsGraph g → (a b : ℕ) → a < length g → b < length g → class_of g a ≡ class_of g b → (o : HeapObject) (at : ℕ) → place_fits g a o at ≡ place_fits g b o at
class_place_fits g i a b la lb e o at = rw (class_fits g i a b la lb e (drop at o.leaves)) refl

-- ---- leaves

map_flat : (C : ℕ → ℕ) (L : ℕ → List ℕ) (xs : List ℕ) → map C (flat_map L xs) ≡ flat_map (λ x. map C (L x)) xs
map_flat C L [] = refl
map_flat C L (x ∷ xs) = map-append C (L x) (flat_map L xs) ∙ ap (λ (ys : List ℕ). map C (L x) ++ ys) (map_flat C L xs)

unfolds : (g : List TypeDef) → IsGraph g → IsFinite g → (t : ℕ) (d : TypeDef) → slice_get g t ≡ Some d → leaf_classes g t ≡ map (class_of g) (leaves_at (leaves g) t (Some d))
unfolds g i f t d e =
    ap (map (class_of g)) (leaves_are g i f t (slice_get_within g t d e))
    ∙ ap (λ (o : Option TypeDef). map (class_of g) (leaves_at (leaves g) t o)) e

scalar_leaf : (g : List TypeDef) → IsGraph g → IsFinite g → (c : ℕ) (o : Option TypeDef) → slice_get g c ≡ o → class_of g c ≡ c → is_scalar o ≡ true → leaf_classes g c ≡ c ∷ []
scalar_leaf g i f c None e own s = cc
scalar_leaf g i f c (Some (Int w)) e own s = unfolds g i f c (Int w) e ∙ ap (λ (x : ℕ). x ∷ []) own
scalar_leaf g i f c (Some (Struct fields)) e own s = cc
scalar_leaf g i f c (Some (Array element size)) e own s = cc
scalar_leaf g i f c (Some (Hybrid fixed element)) e own s = cc
scalar_leaf g i f c (Some Void) e own s = cc
scalar_leaf g i f c (Some (Ref t)) e own s = unfolds g i f c (Ref t) e ∙ ap (λ (x : ℕ). x ∷ []) own
scalar_leaf g i f c (Some (Iref t)) e own s = unfolds g i f c (Iref t) e ∙ ap (λ (x : ℕ). x ∷ []) own
scalar_leaf g i f c (Some (FuncRef t)) e own s = unfolds g i f c (FuncRef t) e ∙ ap (λ (x : ℕ). x ∷ []) own
scalar_leaf g i f c (Some StackRef) e own s = unfolds g i f c StackRef e ∙ ap (λ (x : ℕ). x ∷ []) own
scalar_leaf g i f c (Some ThreadRef) e own s = unfolds g i f c ThreadRef e ∙ ap (λ (x : ℕ). x ∷ []) own
scalar_leaf g i f c (Some (Sig takes gives)) e own s = cc

pub leaves_of_parts : (g : List TypeDef) → IsGraph g → IsFinite g → LeavesAreOfParts g
leaves_of_parts g i f = record {
  scalar = λ c own s. scalar_leaf g i f c (slice_get g c) refl own s;
  struct = λ c ks e. unfolds g i f c (Struct ks) e ∙ map_flat (class_of g) (leaves g) ks;
  array = λ c k n e. unfolds g i f c (Array k n) e ∙ map_times (class_of g) n (leaves g k);
  hybrid = λ c k ks e. unfolds g i f c (Hybrid ks k) e ∙ map_flat (class_of g) (leaves g) ks;
  void = λ c e. unfolds g i f c Void e;
}
