-- Lemmas on the steps of the joining.
use Rattle.std.specs.Prelude.{◌≡◌, ℕ, suc, ◌+◌, ◌<◌, ◌≤◌, Bool, true, false, nat_lt, List, [], ◌∷◌, ◌++◌, length, reverse, take, Option, Some, None, Result, Ok, Err, if◌then◌else◌, refl}
use Rattle.std.proofs.Common.{sym, ◌∙◌, ap, subst, arith}
use Rattle.std.proofs.lemmas.List.{reverse-append, append_assoc, append-nil, take-append-le, length-append}
use Rattle.ir_tree.specs.declared.items.Item.{Item}
use Rattle.bundle_join.specs.declared.fault.JoinFault.{JoinFault}
use Rattle.bundle_join.specs.declared.fault.JoinFault.TheVariants.{Memory, At}
use Rattle.bundle_join.specs.declared.fault.JoinKind.TheVariants.{TooMany}
use Rattle.bundle_join.specs.declared.verdict.Verdict.{Verdict}
use Rattle.bundle_join.specs.declared.verdict.Verdict.TheVariants.{Kept, LeftOut, Refused}
use Rattle.bundle_join.specs.Joined.{place_of, against, compared, verdict_by, verdict, and_then, with_one, with_bundle, joined_from, Answers}
use Rattle.bundle_join.specs.Steps.{Goes}

-- ---- lists taken from their ends

pub turned : {A : Type 0} (ls ls' : List A) (x : A) → ls ≡ ls' ++ x ∷ [] → reverse ls ≡ x ∷ reverse ls'
turned ls ls' x e = ap reverse e ∙ reverse-append ls' (x ∷ [])

pub moved : {A : Type 0} (ms ms' ls ls' rs : List A) (x : A) → ms ++ reverse ls ≡ rs → ls ≡ ls' ++ x ∷ [] → ms' ≡ ms ++ x ∷ [] → ms' ++ reverse ls' ≡ rs
moved ms ms' ls ls' rs x h e f = ap (λ l. l ++ reverse ls') f ∙ append_assoc ms (x ∷ []) (reverse ls') ∙ ap (λ l. ms ++ l) (sym (turned ls ls' x e)) ∙ h

pub all_moved : {A : Type 0} (ms ls rs : List A) → ms ++ reverse ls ≡ rs → ls ≡ [] → ms ≡ rs
all_moved ms ls rs h e = sym (append-nil ms) ∙ ap (λ l. ms ++ reverse l) (sym e) ∙ h

pub one_less : {A : Type 0} (ls ls' : List A) (x : A) → ls ≡ ls' ++ x ∷ [] → length ls' < length ls
one_less ls ls' x e = subst (λ (n : ℕ). length ls' < n) (sym (ap length e)) (omega (arith, length-append ls' (x ∷ [])))

pub none_left : {A : Type 0} (ls : List A) → length ls ≡ 0 → ls ≡ []
none_left [] h = refl
none_left (x ∷ ls) h = cc

pub count_on : {A : Type 0} (n : ℕ) (ls ls' : List A) (x : A) (all : ℕ) → ls ≡ ls' ++ x ∷ [] → n + length ls ≡ all → (n + 1) + length ls' ≡ all
count_on n ls ls' x all e h =
    let long : length ls ≡ length ls' + 1 = ap length e ∙ length-append ls' (x ∷ []) in
    omega arith

pub take_all : {A : Type 0} (ls : List A) → take (length ls) ls ≡ ls
take_all [] = refl
take_all (x ∷ ls) = ap (λ l. x ∷ l) (take_all ls)

-- ---- verdicts

pub verdict_none : (es : List Item) (i : Item) → None ≡ compared es i → Kept ≡ verdict es i
verdict_none es i h = ap (λ o. verdict_by o i) h

pub verdict_some : (es : List Item) (i k : Item) → Some k ≡ compared es i → against k i ≡ verdict es i
verdict_some es i k h = ap (λ o. verdict_by o i) h

-- ---- answers

-- where a part fails the whole fails
pub goes_wrong : (part whole : Result (List Item) JoinFault) (fault : JoinFault) (kept kept' : List Item) → ((f : JoinFault) → part ≡ Err f → whole ≡ Err f)
    → Goes {T = Unit {0}} part (Err fault) kept → Goes {T = Unit {0}} whole (Err fault) kept'
goes_wrong part whole Memory kept kept' f h = tt
goes_wrong part whole (At kind n place) kept kept' f h = f (At kind n place) h

pub answers_wrong : (part whole : Result (List Item) JoinFault) (fault : JoinFault) (kept : List Item) → ((f : JoinFault) → part ≡ Err f → whole ≡ Err f)
    → Goes {T = Unit {0}} part (Err fault) kept → Answers whole (Err fault)
answers_wrong part whole Memory kept f h = tt
answers_wrong part whole (At kind n place) kept f h = f (At kind n place) h

-- ---- one item

grows_if : (b : Bool) (fault : JoinFault) (kept kept' : List Item) (i : Item) (m : ℕ) → (if b then Ok (kept ++ i ∷ []) else Err fault) ≡ Ok kept' → m ≤ length kept → (take m kept' ≡ take m kept) × (m ≤ length kept')
grows_if true fault kept kept' i m h l =
    let is : kept ++ i ∷ [] ≡ kept' = cc in
    (ap (take m) (sym is) ∙ take-append-le m kept (i ∷ []) l, subst (λ (xs : List Item). m ≤ length xs) is (omega (arith, length-append kept (i ∷ []))))
grows_if false fault kept kept' i m h l = cc

-- what was kept before stays
pub grows : (n : ℕ) (kept kept' : List Item) (i : Item) (v : Verdict) (m : ℕ) → with_one n kept i v ≡ Ok kept' → m ≤ length kept → (take m kept' ≡ take m kept) × (m ≤ length kept')
grows n kept kept' i Kept m h l = grows_if (nat_lt (length kept) 16384) (At TooMany n (place_of i)) kept kept' i m h l
grows n kept kept' i LeftOut m h l = let is : kept ≡ kept' = cc in (ap (take m) (sym is), subst (λ (xs : List Item). m ≤ length xs) is l)
grows n kept kept' i (Refused kind place) m h l = cc

-- ---- the items of a bundle

pub one_gone : (n : ℕ) (e kept kept' left left' : List Item) (i : Item) (r : Result (List Item) JoinFault) → left ≡ left' ++ i ∷ [] → with_one n kept i (verdict e i) ≡ Ok kept'
    → with_bundle n e kept (reverse left) ≡ r → with_bundle n e kept' (reverse left') ≡ r
one_gone n e kept kept' left left' i r l h w = sym (ap (λ o. and_then o (λ more. with_bundle n e more (reverse left'))) h) ∙ sym (ap (with_bundle n e kept) (turned left left' i l)) ∙ w

pub one_fails : (n : ℕ) (e kept left left' : List Item) (i : Item) (fault : JoinFault) (r : Result (List Item) JoinFault) → left ≡ left' ++ i ∷ [] → with_one n kept i (verdict e i) ≡ Err fault
    → with_bundle n e kept (reverse left) ≡ r → r ≡ Err fault
one_fails n e kept left left' i fault r l h w = sym w ∙ ap (with_bundle n e kept) (turned left left' i l) ∙ ap (λ o. and_then o (λ more. with_bundle n e more (reverse left'))) h

pub bundle_done : (n : ℕ) (e kept left : List Item) (r : Result (List Item) JoinFault) → left ≡ [] → with_bundle n e kept (reverse left) ≡ r → r ≡ Ok kept
bundle_done n e kept left r l w = sym w ∙ ap (λ xs. with_bundle n e kept (reverse xs)) l

-- ---- the bundles

pub bundle_gone : (n : ℕ) (kept kept' : List Item) (left left' : List (List Item)) (b : List Item) (r : Result (List Item) JoinFault) → left ≡ left' ++ b ∷ [] → with_bundle n kept kept b ≡ Ok kept'
    → joined_from n kept (reverse left) ≡ r → joined_from (n + 1) kept' (reverse left') ≡ r
bundle_gone n kept kept' left left' b r l h w =
    let next : n + 1 ≡ suc n = omega arith in
    ap (λ m. joined_from m kept' (reverse left')) next ∙ sym (ap (λ o. and_then o (λ more. joined_from (suc n) more (reverse left'))) h) ∙ sym (ap (joined_from n kept) (turned left left' b l)) ∙ w

pub bundle_fails : (n : ℕ) (kept : List Item) (left left' : List (List Item)) (b : List Item) (fault : JoinFault) (r : Result (List Item) JoinFault) → left ≡ left' ++ b ∷ [] → with_bundle n kept kept b ≡ Err fault
    → joined_from n kept (reverse left) ≡ r → r ≡ Err fault
bundle_fails n kept left left' b fault r l h w = sym w ∙ ap (joined_from n kept) (turned left left' b l) ∙ ap (λ o. and_then o (λ more. joined_from (suc n) more (reverse left'))) h

pub bundles_done : (n : ℕ) (kept : List Item) (left : List (List Item)) (r : Result (List Item) JoinFault) → left ≡ [] → joined_from n kept (reverse left) ≡ r → r ≡ Ok kept
bundles_done n kept left r l w = sym w ∙ ap (λ xs. joined_from n kept (reverse xs)) l
