-- Of the first unmet demand of many.
use Rattle.std.proofs.Common.{◌≡◌, ℕ, zero, suc, ◌+◌, ◌<◌, ◌≤◌, true, false, List, Option, Some, None, Err, refl, sym, ◌∙◌, ap, subst, arith, inl, inr, length, slice_get, get_or}
use Rattle.std.proofs.lemmas.Bool.{cases_lt}
use Rattle.std.proofs.lemmas.Option.{slice_get-get_or}
use Rattle.demands.specs.declared.fault.Fault.{Fault}
use Rattle.demands.specs.declared.fault.Fault.TheVariants.{Memory, At}
use Rattle.demands.specs.Demands.{Demands, demand, ◌⨾◌, or_else, first_unmet, Meets}
use Rattle.type_definitions.specs.declared.definition.TypeDef.{TypeDef}
use Rattle.mu_types.specs.declared.faults.TypeKind.{TypeKind}
use Rattle.mu_types.specs.declared.faults.TypeKind.TheVariants.{WrongArgument}
use Rattle.mu_types.specs.Graph.{Written}
use Rattle.mu_types.specs.Implied.{complete}
use Rattle.mu_types.specs.TypeDemands.{each, allows, judged, place, wrong_arguments, passes, written_demands}

-- of two demands one after the other
pub met_then : (a b : Demands TypeKind) → first_unmet a ≡ None → first_unmet (a ⨾ b) ≡ first_unmet b
met_then a b h = ap (λ (o : Option (Fault TypeKind)). or_else o (first_unmet b)) h

pub unmet_first : (a b : Demands TypeKind) (f : Fault TypeKind) → first_unmet a ≡ Some f → first_unmet (a ⨾ b) ≡ Some f
unmet_first a b f h = ap (λ (o : Option (Fault TypeKind)). or_else o (first_unmet b)) h

-- the first unmet one is what a judging function answers
pub meets_first : (ds : Demands TypeKind) (f : Fault TypeKind) → first_unmet ds ≡ Some f → Meets {A = ℕ} ds (Err f)
meets_first ds Memory h = tt
meets_first ds (At kind place) h = h

none_from : (demands : ℕ → Demands TypeKind) (many first : ℕ) → ((u : ℕ) → first ≤ u → u < first + many → first_unmet (demands u) ≡ None) → first_unmet (each demands many first) ≡ None
none_from demands zero first h = refl
none_from demands (suc many) first h = met_then (demands first) (each demands many (suc first)) (h first (omega arith) (omega arith)) ∙ none_from demands many (suc first) (λ u l m. h u (omega arith) (omega arith))

some_from : (demands : ℕ → Demands TypeKind) (many first x : ℕ) (f : Fault TypeKind) → ((u : ℕ) → first ≤ u → u < x → first_unmet (demands u) ≡ None) → first ≤ x → x < first + many → first_unmet (demands x) ≡ Some f → first_unmet (each demands many first) ≡ Some f
some_from demands zero first x f h l m e = absurd (omega arith)
some_from demands (suc many) first x f h l m e = elim (cases_lt first x) [
  | inl q ↦ met_then (demands first) (each demands many (suc first)) (h first (omega arith) q) ∙ some_from demands many (suc first) x f (λ u a b. h u (omega arith) b) (omega arith) (omega arith) e
  | inr q ↦ let s : x ≡ first = omega arith in unmet_first (demands first) (each demands many (suc first)) f (subst (λ w. first_unmet (demands w) ≡ Some f) s e)
]

pub each_none : (demands : ℕ → Demands TypeKind) (many : ℕ) → ((u : ℕ) → u < many → first_unmet (demands u) ≡ None) → first_unmet (each demands many 0) ≡ None
each_none demands many h = none_from demands many 0 (λ u l m. h u (omega arith))

pub each_some : (demands : ℕ → Demands TypeKind) (many x : ℕ) (f : Fault TypeKind) → ((u : ℕ) → u < x → first_unmet (demands u) ≡ None) → x < many → first_unmet (demands x) ≡ Some f → first_unmet (each demands many 0) ≡ Some f
each_some demands many x f h l e = some_from demands many 0 x f (λ u m k. h u k) (omega arith) (omega arith) e

pub there : (g : List TypeDef) (t : ℕ) (d : TypeDef) → t < length g → d ≡ get_or g t d → slice_get g t ≡ Some d
there g t d l e = slice_get-get_or g t d l ∙ ap Some (sym e)

pub argument_some : (g : List TypeDef) (places : List (List ℕ)) (t : ℕ) (d : TypeDef) (k : ℕ) → slice_get g t ≡ Some d → ((u : ℕ) → u < k → allows g d u ≡ true) → k < judged d → allows g d k ≡ false
    → first_unmet (wrong_arguments g places t) ≡ Some (At WrongArgument (place places t (k + 1)))
argument_some g places t d k e h l n = rw e (each_some (λ k. demand (place places t (k + 1)) WrongArgument (allows g d k)) (judged d) k (At WrongArgument (place places t (k + 1)))
    (λ u m. rw (h u m) refl) l (rw n refl))

pub argument_none : (g : List TypeDef) (places : List (List ℕ)) (t : ℕ) (d : TypeDef) → slice_get g t ≡ Some d → ((u : ℕ) → u < judged d → allows g d u ≡ true) → first_unmet (wrong_arguments g places t) ≡ None
argument_none g places t d e h = rw e (each_none (λ k. demand (place places t (k + 1)) WrongArgument (allows g d k)) (judged d) (λ u m. rw (h u m) refl))

pub met_more : (demands : ℕ → Demands TypeKind) (t : ℕ) → ((u : ℕ) → u < t → first_unmet (demands u) ≡ None) → first_unmet (demands t) ≡ None → (u : ℕ) → u < t + 1 → first_unmet (demands u) ≡ None
met_more demands t h e u l = elim (cases_lt u t) [ inl m ↦ h u m | inr m ↦ let s : u ≡ t = omega arith in subst (λ w. first_unmet (demands w) ≡ None) (sym s) e ]

-- of three in order
pub second_of_three : (a b c : Demands TypeKind) (f : Fault TypeKind) → first_unmet a ≡ None → first_unmet b ≡ Some f → first_unmet (a ⨾ b ⨾ c) ≡ Some f
second_of_three a b c f h k = met_then a (b ⨾ c) h ∙ unmet_first b c f k

pub third_of_three : (a b c : Demands TypeKind) → first_unmet a ≡ None → first_unmet b ≡ None → first_unmet (a ⨾ b ⨾ c) ≡ first_unmet c
third_of_three a b c h k = met_then a (b ⨾ c) h ∙ met_then b c k

-- the demands on a graph, by the parts that it was taken into
pub passes_written : (w : Written) (all : List TypeDef) (places : List (List ℕ)) (many : ℕ) → all ≡ complete w.definitions → places ≡ w.places → many ≡ length w.definitions → passes all places many ≡ written_demands w
passes_written w all places many e f h = rw (e, f, h) refl
