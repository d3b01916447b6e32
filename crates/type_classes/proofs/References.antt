-- Of where the references to a definition stand.
use Rattle.std.proofs.Common.{◌≡◌, ℕ, zero, suc, ◌+◌, ◌<◌, Bool, true, false, List, [], ◌∷◌, ◌++◌, length, Some, slice_get, refl, sym, ◌∙◌, ap, subst, arith, get_or, take, cond, add-one, add-zero, zero-add}
use Rattle.std.proofs.lemmas.Bool.{false≢true}
use Rattle.std.specs.Prelude.{slice_index}
use Rattle.std.proofs.lemmas.List.{get_or_append_left, get_or_at, get_or-append-add, length-append, append_assoc, append-nil}
use Rattle.std.proofs.lemmas.Option.{slice_get_within, slice_get-get_or, get_or_from_slice_get}
use Rattle.type_definitions.specs.declared.definition.TypeDef.{TypeDef}
use Rattle.type_definitions.specs.declared.definition.TypeDef.TheVariants.{Int, Void, Ref, Iref, FuncRef, StackRef, ThreadRef}
use Rattle.mu_types.specs.Implied.{is_signature, references, references_from}
use Rattle.type_classes.proofs.Pushes.{pushed}
use Rattle.mu_types.specs.References.{ReferTo, Referred}

-- the whole graph with the references to the first t definitions
abbrev pub so_far : List TypeDef → ℕ → List TypeDef
so_far w t = w ++ Void ∷ [] ++ Int 1 ∷ Int 32 ∷ StackRef ∷ ThreadRef ∷ [] ++ references_from 0 (take t (w ++ Void ∷ []))

refs_more : (xs : List TypeDef) (f i : ℕ) (d : TypeDef) → i < length xs → references_from f (take (i + 1) xs) ≡ references_from f (take i xs) ++ references (f + i) (get_or xs i d)
refs_more [] f i d l = absurd (omega arith)
refs_more (x ∷ xs) f zero d l = append-nil (references f x) ∙ ap (λ k. references k x) (sym (add-zero f))
refs_more (x ∷ xs) f (suc i) d l =
    let e : suc f + i ≡ f + suc i = omega arith in
    ap (λ k. references_from f (take k (x ∷ xs))) (add-one (suc i))
    ∙ (ap (λ k. references f x ++ references_from (suc f) (take k xs)) (sym (add-one i))
    ∙ (ap (λ (ys : List TypeDef). references f x ++ ys) (refs_more xs (suc f) i d (omega arith))
    ∙ (sym (append_assoc (references f x) (references_from (suc f) (take i xs)) (references (suc f + i) (get_or xs i d)))
    ∙ ap (λ k. references f x ++ references_from (suc f) (take i xs) ++ references k (get_or xs i d)) e)))

got_left : (xs ys : List TypeDef) (i : ℕ) (x : TypeDef) → slice_get xs i ≡ Some x → slice_get (xs ++ ys) i ≡ Some x
got_left xs ys i x e =
    let l = slice_get_within xs i x e in
    slice_get-get_or (xs ++ ys) i x (omega (arith, l, length-append xs ys)) ∙ ap Some (get_or_append_left xs ys x i l ∙ get_or_from_slice_get xs i x x e)

got_at : (xs ys : List TypeDef) (y : TypeDef) → slice_get (xs ++ y ∷ ys) (length xs) ≡ Some y
got_at xs ys y = slice_get-get_or (xs ++ y ∷ ys) (length xs) y (omega (arith, length-append xs (y ∷ ys))) ∙ ap Some (get_or_at xs y ys y (length xs) refl)

got_next : (xs ys : List TypeDef) (y z : TypeDef) → slice_get (xs ++ y ∷ z ∷ ys) (length xs + 1) ≡ Some z
got_next xs ys y z = slice_get-get_or (xs ++ y ∷ z ∷ ys) (length xs + 1) z (omega (arith, length-append xs (y ∷ z ∷ ys))) ∙ ap Some (get_or-append-add xs (y ∷ z ∷ ys) 1 z)

kept : (all ys : List TypeDef) (t i : ℕ) → t < length all → ReferTo all t i → ReferTo (all ++ ys) t i
kept all ys t i l r = record {
  to_type = λ d h. let q = r.to_type d (subst (λ x. is_signature x ≡ false) (get_or_append_left all ys d t l) h) in (got_left all ys i (Ref t) q.0, got_left all ys (i + 1) (Iref t) q.1);
  to_signature = λ d h. got_left all ys i (FuncRef t) (r.to_signature d (subst (λ x. is_signature x ≡ true) (get_or_append_left all ys d t l) h));
}

any_default : (xs : List TypeDef) (i : ℕ) (d e : TypeDef) → i < length xs → get_or xs i d ≡ get_or xs i e
any_default [] i d e l = absurd (omega arith)
any_default (x ∷ xs) zero d e l = refl
any_default (x ∷ xs) (suc i) d e l = any_default xs i d e (omega arith)

made : (all : List TypeDef) (t : ℕ) (e : TypeDef) → t < length all → ReferTo (all ++ references t (get_or all t e)) t (length all)
made all t e l = go (is_signature (get_or all t e)) refl
  where
    same_there : (ys : List TypeDef) (d : TypeDef) → get_or (all ++ ys) t d ≡ get_or all t e
    same_there ys d = get_or_append_left all ys d t l ∙ any_default all t d e l

    go : (b : Bool) → is_signature (get_or all t e) ≡ b → ReferTo (all ++ cond b (FuncRef t ∷ []) (Ref t ∷ Iref t ∷ [])) t (length all)
    go true h = record {
      to_type = λ d q. absurd (false≢true (sym q ∙ (ap is_signature (same_there (FuncRef t ∷ []) d) ∙ h)));
      to_signature = λ d q. got_at all [] (FuncRef t);
    }
    go false h = record {
      to_type = λ d q. (got_at all (Iref t ∷ []) (Ref t), got_next all [] (Ref t) (Iref t));
      to_signature = λ d q. absurd (false≢true (sym h ∙ (sym (ap is_signature (same_there (Ref t ∷ Iref t ∷ []) d)) ∙ q)));
    }

base : List TypeDef → List TypeDef
base w = w ++ Void ∷ []

-- one definition more is referred to
pub complete_step : (w all more : List TypeDef) (t : ℕ) → t < length w + 1 → all ≡ so_far w t → ((d : TypeDef) → more ≡ all ++ references t (get_or all t d)) → more ≡ so_far w (t + 1)
unfolding base
complete_step w all more t l e f =
    let four = Int 1 ∷ Int 32 ∷ StackRef ∷ ThreadRef ∷ [] in
    let lb : t < length (base w) = omega (arith, l, length-append w (Void ∷ [])) in
    let front : get_or all t Void ≡ get_or (base w) t Void =
    ap (λ (xs : List TypeDef). get_or xs t Void) (e ∙ append_assoc (base w) four (references_from 0 (take t (base w)))) ∙ get_or_append_left (base w) (four ++ references_from 0 (take t (base w))) Void t lb in
    f Void ∙ (ap (λ (xs : List TypeDef). xs ++ references t (get_or all t Void)) e
    ∙ (append_assoc (base w ++ four) (references_from 0 (take t (base w))) (references t (get_or all t Void))
    ∙ ap (λ (xs : List TypeDef). base w ++ four ++ xs) (ap (λ d. references_from 0 (take t (base w)) ++ references t d) front
    ∙ (ap (λ k. references_from 0 (take t (base w)) ++ references k (get_or (base w) t Void)) (sym (zero-add t)) ∙ sym (refs_more (base w) 0 t Void lb)))))

pub referred_step : (all more : List TypeDef) (first next : List ℕ) (t : ℕ) → t < length all → length first ≡ t → next ≡ first ++ length all ∷ [] → ((d : TypeDef) → more ≡ all ++ references t (get_or all t d)) → Referred all first t → Referred more next (t + 1)
referred_step all more first next t l e f g r u lu =
    subst (λ (m : List TypeDef). ReferTo m u (slice_index next u)) (sym (g Void))
    (pushed (λ x i. ReferTo (all ++ references t (get_or all t Void)) x i) first next t (length all) e f
    (λ x m. kept all (references t (get_or all t Void)) x (slice_index first x) (omega arith) (r x m)) (made all t Void l) u lu)
