-- The classes of the types that every bundle has are of types that are defined so.
use Rattle.std.proofs.Common.{◌≡◌, ℕ, suc, ◌+◌, ◌<◌, ◌==◌, Bool, true, List, [], ◌∷◌, ◌++◌, length, Option, Some, None, slice_get, refl, ap, subst, arith}
use Rattle.std.proofs.lemmas.Bool.{false≢true, and_parts, and_from, eqb-true, eq-eqb}
use Rattle.std.proofs.lemmas.List.Elements.{All-head}
use Rattle.std.proofs.lemmas.Option.{slice_get_within}
use Rattle.type_definitions.specs.declared.definition.TypeDef.{TypeDef}
use Rattle.type_definitions.specs.declared.definition.TypeDef.TheVariants.{Int, Void, Ref, StackRef, ThreadRef}
use Rattle.type_definitions.specs.Same.{agree, agree_at, same, IsGraph}
use Rattle.type_definitions.specs.Lemmas.Depth.{alike_same, args_within}
use Rattle.type_definitions.specs.Lemmas.Proved.{found, congruence}
use Rattle.mu_types.specs.Implied.{references, references_from, complete}
use Rattle.mu_types.specs.CompleteLaws.{headed}
use Rattle.check_tables.specs.Types.{class_like}
use Rattle.check_tables.specs.Laws.{AreDefined}

-- ---- what agrees with a definition without arguments is that definition

int_only : (r : ℕ → ℕ → Bool) (w : ℕ) (e : TypeDef) → agree r e (Int w) ≡ true → e ≡ Int w
int_only r w (Int v) h = ap Int (eqb-true v w (and_parts (v == w) true h).0)
int_only r w e h = absurd (false≢true h)

stack_only : (r : ℕ → ℕ → Bool) (e : TypeDef) → agree r e StackRef ≡ true → e ≡ StackRef
stack_only r StackRef h = refl
stack_only r e h = absurd (false≢true h)

thread_only : (r : ℕ → ℕ → Bool) (e : TypeDef) → agree r e ThreadRef ≡ true → e ≡ ThreadRef
thread_only r ThreadRef h = refl
thread_only r e h = absurd (false≢true h)

void_only : (r : ℕ → ℕ → Bool) (e : TypeDef) → agree r e Void ≡ true → e ≡ Void
void_only r Void h = refl
void_only r e h = absurd (false≢true h)

told : (r : ℕ → ℕ → Bool) (o : Option TypeDef) (d : TypeDef) → ((e : TypeDef) → agree r e d ≡ true → e ≡ d) → agree_at r o (Some d) ≡ true → o ≡ Some d
told r None d f h = absurd (false≢true h)
told r (Some e) d f h = ap Some (f e h)

-- ---- a class that is found

class_told : (g : List TypeDef) (d : TypeDef) (i : ℕ) → slice_get g i ≡ Some d → agree (same g) d d ≡ true → agree_at (same g) (slice_get g (class_like g d)) (Some d) ≡ true
class_told g d i e h = (found (λ b. agree_at (same g) (slice_get g b) (Some d)) (length g) i (slice_get_within g i d e) (rw e h)).passes

int_told : (g : List TypeDef) (w i : ℕ) → slice_get g i ≡ Some (Int w) → slice_get g (class_like g (Int w)) ≡ Some (Int w)
int_told g w i e = told (same g) (slice_get g (class_like g (Int w))) (Int w) (int_only (same g) w) (class_told g (Int w) i e (and_from (w == w) true (eq-eqb w w refl) refl))

stack_told : (g : List TypeDef) (i : ℕ) → slice_get g i ≡ Some StackRef → slice_get g (class_like g StackRef) ≡ Some StackRef
stack_told g i e = told (same g) (slice_get g (class_like g StackRef)) StackRef (stack_only (same g)) (class_told g StackRef i e refl)

thread_told : (g : List TypeDef) (i : ℕ) → slice_get g i ≡ Some ThreadRef → slice_get g (class_like g ThreadRef) ≡ Some ThreadRef
thread_told g i e = told (same g) (slice_get g (class_like g ThreadRef)) ThreadRef (thread_only (same g)) (class_told g ThreadRef i e refl)

-- ---- references to void

At : List TypeDef → TypeDef → Type 0
At ds d = (i : ℕ) × (slice_get ds i ≡ Some d)

at_behind : (xs ys : List TypeDef) (d : TypeDef) → At ys d → At (xs ++ ys) d
unfolding At
at_behind [] ys d a = a
at_behind (x ∷ xs) ys d a = let b = at_behind xs ys d a in (suc b.0, b.1)

at_void : (w : List TypeDef) (t : ℕ) → At (references_from t (w ++ Void ∷ [])) (Ref (t + length w))
unfolding At
at_void [] t = let same_id : t ≡ t + 0 = omega arith in (0, ap (λ (n : ℕ). Some (Ref n)) same_id)
at_void (d ∷ w) t =
    let same_id : suc t + length w ≡ t + suc (length w) = omega arith in
    at_behind (references t d) (references_from (suc t) (w ++ Void ∷ [])) (Ref (t + suc (length w)))
    (subst (λ (n : ℕ). At (references_from (suc t) (w ++ Void ∷ [])) (Ref n)) same_id (at_void w (suc t)))

ref_there : (w : List TypeDef) → At (complete w) (Ref (length w))
ref_there w =
    let same_id : 0 + length w ≡ length w = omega arith in
    at_behind (w ++ Void ∷ [] ++ Int 1 ∷ Int 32 ∷ StackRef ∷ ThreadRef ∷ []) (references_from 0 (w ++ Void ∷ [])) (Ref (length w))
    (subst (λ (n : ℕ). At (references_from 0 (w ++ Void ∷ [])) (Ref n)) same_id (at_void w 0))

void_leads : (g : List TypeDef) → IsGraph g → (n c : ℕ) (o : Option TypeDef) → slice_get g n ≡ Some Void → slice_get g c ≡ o → agree_at (same g) o (Some (Ref n)) ≡ true →
    (t : ℕ) × (slice_get g c ≡ Some (Ref t)) × (slice_get g t ≡ Some Void)
void_leads g i n c None v e h = absurd (false≢true h)
void_leads g i n c (Some (Ref t)) v e h =
    let alike : same g t n ≡ true = (and_parts (same g t n) true h).0 in
    let low = All-head (λ y. y < length g) t [] (args_within g i c (Ref t) e) in
    let agreed = (congruence g i t n low (slice_get_within g n Void v)).0 alike in
    (t, e, told (same g) (slice_get g t) Void (void_only (same g)) (rw v at agreed))
void_leads g i n c (Some d) v e h = absurd (false≢true h)

pub are_defined : (written : List TypeDef) → IsGraph (complete written) → AreDefined (record { definitions = complete written; written = length written })
unfolding At
are_defined w i =
    let g = complete w in
    let head = headed w in
    let ref = ref_there w in
    let void_id : same g (length w) (length w) ≡ true = alike_same g i (length g) (length w) (slice_get_within g (length w) Void head.nothing) in
    record {
      int1 = int_told g 1 (length w + 1) head.bit;
      int32 = int_told g 32 (length w + 2) head.word;
      stackref = stack_told g (length w + 3) head.stack;
      threadref = thread_told g (length w + 4) head.thread;
      ref_void = void_leads g i (length w) (class_like g (Ref (length w))) (slice_get g (class_like g (Ref (length w)))) head.nothing refl
          (class_told g (Ref (length w)) ref.0 ref.1 (and_from (same g (length w) (length w)) true void_id refl));
    }
