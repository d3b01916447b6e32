-- Of values that are found in an order in which parts come before their wholes.
use Rattle.std.proofs.Common.{◌≡◌, ℕ, ◌+◌, ◌<◌, Bool, true, false, List, [], length, Some, slice_get, min, map, sym, ◌∙◌, ap, subst, arith, get_or, inl, inr}
use Rattle.std.proofs.Math.ListN.{set}
use Rattle.std.specs.Prelude.{slice_index}
use Rattle.std.specs.List.{All}
use Rattle.std.proofs.lemmas.Bool.{cases_eq, cases_lt}
use Rattle.std.proofs.lemmas.Int.{clamps}
use Rattle.std.proofs.lemmas.List.{get_or-set_same, get_or-set_other, get_or_past}
use Rattle.type_definitions.specs.declared.definition.TypeDef.{TypeDef}
use Rattle.type_definitions.specs.Same.{IsGraph}
use Rattle.type_definitions.specs.Class.{class_of}
use Rattle.type_definitions.specs.Parts.{parts, parts_at}
use Rattle.type_definitions.specs.Leaves.{leaves, leaves_by, leaves_at}
use Rattle.type_definitions.specs.Ranks.{AreRanked}
use Rattle.type_definitions.specs.Lemmas.Ranks.{leaves_level, none_there}
use Rattle.type_definitions.specs.Counts.{count_by}
use Rattle.type_definitions.specs.Lemmas.Counts.{counted, capped_count}
use Rattle.type_classes.specs.Listings.{row_by, RowsDone, DoneTo}
use Rattle.type_classes.specs.Walks.{is_marked}
use Rattle.mu_types.specs.Held.{RowsHold}
use Rattle.type_definitions.specs.Partition.{IsLeast}
use Rattle.type_definitions.specs.Lemmas.Respect.{respected}
use Rattle.type_definitions.specs.Lemmas.Classes.{class_is}
use Rattle.type_classes.proofs.Listings.{parts_within, mapped}
use Rattle.type_classes.specs.Ordered.{IsOrder, Found}

pub found_more : {V : Type 0} (d : V) (n : ℕ) (rank order : List ℕ) (F : ℕ → V) (vals : List V) (i t : ℕ) (v : V) → IsOrder n rank order → length vals ≡ n → slice_index order i ≡ t → t < n → v ≡ F t
    → Found d n rank F vals i → Found d n rank F (set vals t v) (i + 1)
found_more {V} d n rank order F vals i t v o e q l f h a la lr = elim (cases_eq a t) [
  | inl s ↦ subst (λ w. get_or (set vals t v) w d ≡ F w) (sym s) (get_or-set_same vals t v d (omega (arith, e, l)) ∙ f)
  | inr s ↦ get_or-set_other vals t a v d s ∙ h a la (elim (cases_lt (slice_index rank a) i) [
    | inl m ↦ m
    | inr m ↦ let r : slice_index rank a ≡ i = omega arith in absurd (s (sym (o a la) ∙ (ap (λ w. slice_index order w) r ∙ q)))
  ])
]

-- the number of leaves, from those of the parts
pub count_found : (g : List TypeDef) → IsGraph g → (cap : ℕ) (rank counts : List ℕ) → AreRanked g rank → (t : ℕ) (d : TypeDef) → t < length g → slice_get g t ≡ Some d
    → Found 0 (length g) rank (λ x. min cap (length (leaves g x))) counts (slice_index rank t) → min cap (count_by (λ p. slice_index counts p) d) ≡ min cap (length (leaves g t))
count_found g i cap rank counts r t d l e h =
    let below : All (λ p. slice_index rank p < slice_index rank t) (parts d) = subst (λ o. All (λ p. slice_index rank p < slice_index rank t) (parts_at o)) e (r.free t l) in
    capped_count cap (λ p. slice_index counts p) (λ p. length (leaves g p)) d (λ j y m. h (get_or (parts d) j y) (parts_within g i t d e j y m) (below j y m))
    ∙ (ap (λ n. min cap n) (sym (counted (leaves g) t d)) ∙ ap (λ (xs : List ℕ). min cap (length xs)) (sym (leaves_level g rank r t l ∙ ap (λ o. leaves_at (leaves g) t o) e)))

pub class_below : (g : List TypeDef) (class : List ℕ) (t : ℕ) → IsLeast g class → t < length g → slice_index class t < length g
class_below g class t h l = let q = h t l in let low = q.0 in omega arith

-- the leaves, from those of the classes of the parts
pub row_done : (g : List TypeDef) → IsGraph g → (class rank : List ℕ) (rows : List (List ℕ)) (done : List Bool) → IsLeast g class → AreRanked g rank → (t : ℕ) (d : TypeDef) (c : ℕ) → t < length g → slice_get g t ≡ Some d → c ≡ slice_index class t
    → RowsDone g rows done → DoneTo g class rank done (slice_index rank t) → leaves_by (row_by rows class) c d ≡ map (class_of g) (leaves g c)
row_done g i class rank rows done h r t d c l e q held to =
    let below : All (λ p. slice_index rank p < slice_index rank t) (parts d) = subst (λ o. All (λ p. slice_index rank p < slice_index rank t) (parts_at o)) e (r.free t l) in
    let own = h t l in
    let low = own.0 in
    let lc : slice_index class t < length g = omega arith in
    ap (λ w. leaves_by (row_by rows class) w d) (q ∙ class_is g class h t l)
    ∙ (mapped (class_of g) (row_by rows class) (leaves g) t d (λ j y m. of_part (get_or (parts d) j y) (parts_within g i t d e j y m) (below j y m))
    ∙ (ap (map (class_of g)) (sym (leaves_level g rank r t l ∙ ap (λ o. leaves_at (leaves g) t o) e))
    ∙ (sym (respected g i (slice_index class t) t lc l own.1) ∙ ap (λ w. map (class_of g) (leaves g w)) (sym q))))
  where
    of_part : (p : ℕ) → p < length g → slice_index rank p < slice_index rank t → row_by rows class p ≡ map (class_of g) (leaves g p)
    of_part p lp b =
        let k = h p lp in
        let low = k.0 in
        let lk : slice_index class p < length g = omega arith in
        held (slice_index class p) lk (to p lp b) ∙ respected g i (slice_index class p) p lk lp k.1

pub done_set : (g : List TypeDef) (rows : List (List ℕ)) (done : List Bool) (c : ℕ) (row : List ℕ) → c < length rows → row ≡ map (class_of g) (leaves g c) → RowsDone g rows done → RowsDone g (set rows c row) (set done c true)
done_set g rows done c row l e h z lz m = elim (cases_eq z c) [
  | inl q ↦ subst (λ w. get_or (set rows c row) w [] ≡ map (class_of g) (leaves g w)) (sym q) (get_or-set_same rows c row [] l ∙ e)
  | inr q ↦ get_or-set_other rows c z row [] q ∙ h z lz (sym (get_or-set_other done c z true false q) ∙ m)
]

pub mark_kept : (done : List Bool) (c z : ℕ) → c < length done → is_marked done z ≡ true → is_marked (set done c true) z ≡ true
mark_kept done c z l m = elim (cases_eq z c) [
  | inl q ↦ subst (λ w. get_or (set done c true) w false ≡ true) (sym q) (get_or-set_same done c true false l)
  | inr q ↦ get_or-set_other done c z true false q ∙ m
]

pub done_more : (g : List TypeDef) (class rank order : List ℕ) (was done : List Bool) (i t : ℕ) → IsOrder (length g) rank order → slice_index order i ≡ t → DoneTo g class rank was i
    → ((c : ℕ) → is_marked was c ≡ true → is_marked done c ≡ true) → is_marked done (slice_index class t) ≡ true → DoneTo g class rank done (i + 1)
done_more g class rank order was done i t o e h kept own a la lr = elim (cases_lt (slice_index rank a) i) [
  | inl m ↦ kept (slice_index class a) (h a la m)
  | inr m ↦
      let r : slice_index rank a ≡ i = omega arith in
      let s : t ≡ a = sym e ∙ (ap (λ w. slice_index order w) (sym r) ∙ o a la) in
      subst (λ w. is_marked done (slice_index class w) ≡ true) s own
]

-- where all classes are done the rows hold
pub all_done : (g : List TypeDef) → IsGraph g → (class rank : List ℕ) (rows : List (List ℕ)) (done : List Bool) → IsLeast g class → AreRanked g rank → RowsDone g rows done → DoneTo g class rank done (length g) → RowsHold g class rows
all_done g i class rank rows done h r held to t l =
    let k = h t l in
    let low = k.0 in
    let lk : slice_index class t < length g = omega arith in
    held (slice_index class t) lk (to t l (r.within t l)) ∙ respected g i (slice_index class t) t lk l k.1

-- where all values are found the numbers of leaves are
pub all_counted : (g : List TypeDef) (cap : ℕ) (rank counts : List ℕ) → AreRanked g rank → length counts ≡ length g → Found 0 (length g) rank (λ x. min cap (length (leaves g x))) counts (length g)
    → (x : ℕ) → slice_index counts x ≡ min cap (length (leaves g x))
all_counted g cap rank counts r e h x = elim (cases_lt x (length g)) [
  | inl l ↦ h x l (r.within x l)
  | inr l ↦ get_or_past counts x 0 (omega (arith, e, l)) ∙ (none_min ∙ ap (λ (xs : List ℕ). min cap (length xs)) (sym (none_there g (length g) x l)))
]
  where
    none_min : 0 ≡ min cap 0
    none_min = omega (arith, clamps)
