-- What the answers say of a search.
use Rattle.std.proofs.Common.{◌≡◌, ℕ, ◌<◌, Bool, true, false, not, List, [], length, Option, Some, None, refl, sym, ap, ◌∙◌, arith}
use Rattle.std.specs.Prelude.{nat_lt, All, IsSomeAnd, slice_get, get_or, position}
use Rattle.std.specs.List.{Contains, position_or_len}
use Rattle.std.proofs.lemmas.List.Elements.{All-get_or}
use Rattle.std.proofs.lemmas.List.Quantifiers.{position-Some}
use Rattle.std.proofs.lemmas.List.Sums.{fails_before_first}
use Rattle.std.proofs.lemmas.Option.{slice_get-get_or}
use Rattle.conditions.specs.declared.tree.Claim.{Claim}
use Rattle.conditions.specs.declared.tree.Claim.TheVariants as claims
use Rattle.conditions.specs.declared.tree.Ending.TheVariants as endings
use Rattle.conditions.specs.declared.tree.Atom.{Atom}
use Rattle.conditions.specs.declared.holding.Outcome.{Outcome}
use Rattle.conditions.specs.Meaning.{satisfies}
use Rattle.conditions.specs.Answers.{decides, answer_by, is_unknown}
use Rattle.conditions.specs.Laws.{Covers, IsTrueOf, IsFalseOf, Says, AnswersAreTrue, CompleteIsAnswered, named, DecidingOutcomesAreFirst}

blank : Outcome
blank = record { returned = []; finals = []; ending = endings.Done }

-- ---- where the first outcome stands that passes a test

none_at : (p : Outcome → Bool) (found : List Outcome) → position p found ≡ None → (k : ℕ) (d : Outcome) → k < length found → p (get_or found k d) ≡ false
none_at p found none k d within = by (nat_lt (position_or_len p found) (length found)) refl
  where
    by : (b : Bool) → nat_lt (position_or_len p found) (length found) ≡ b → p (get_or found k d) ≡ false
    by true e = absurd (is_some (none_too e))
      where
        none_too : nat_lt (position_or_len p found) (length found) ≡ true → Some (position_or_len p found) ≡ None
        none_too e = sym (rw e refl) ∙ none

        is_some : Some (position_or_len p found) ≡ None → ⊥
        is_some e = absurd cc
    by false e = fails_before_first p found k d (grind (arith, e, within))

none_is : (p : Outcome → Bool) (found : List Outcome) → position p found ≡ None → (o : Outcome) → Contains found o → p o ≡ false
none_is p found none o (k, within, here) = ap p (sym here) ∙ none_at p found none k o within

witness : (Shows : Outcome → Type 0) (p : Outcome → Bool) (found : List Outcome) (n : ℕ) → All Shows found → position p found ≡ Some n → (o : Outcome) × Shows o × (p o ≡ true)
witness Shows p found n each first = let f = position-Some p found n blank first in (get_or found n blank, All-get_or Shows found n blank f.0 each, f.1)

-- ---- what is said is so

turned : (b c : Bool) → not b ≡ c → b ≡ not c
turned true c e = ap not e
turned false c e = ap not e

says : (Shows : Outcome → Type 0) (found : List Outcome) (complete : Bool) (claim : Claim) (lists : List (List Atom)) → Covers Shows found complete → (o : Option ℕ) → position (decides claim lists) found ≡ o
    → (b : Bool) → complete ≡ b → Says (IsTrueOf Shows claim lists) (IsFalseOf Shows claim lists) (answer_by claim o b)
says Shows found complete claims.Exists lists covers (Some n) first b e = witness Shows (decides claims.Exists lists) found n covers.each first
says Shows found complete claims.Exists lists covers None first true e = λ o s. none_is (decides claims.Exists lists) found first o (covers.whole e o s)
says Shows found complete claims.Exists lists covers None first false e = tt
says Shows found complete claims.Never lists covers (Some n) first b e = witness Shows (decides claims.Never lists) found n covers.each first
says Shows found complete claims.Never lists covers None first true e = λ o s. none_is (decides claims.Never lists) found first o (covers.whole e o s)
says Shows found complete claims.Never lists covers None first false e = tt
says Shows found complete claims.Always lists covers (Some n) first b e =
    let w = witness Shows (decides claims.Always lists) found n covers.each first in
    (w.0, w.1, turned (satisfies lists w.0) true w.2)
says Shows found complete claims.Always lists covers None first true e = λ o s. turned (satisfies lists o) false (none_is (decides claims.Always lists) found first o (covers.whole e o s))
says Shows found complete claims.Always lists covers None first false e = tt

pub answers_are_true : (Shows : Outcome → Type 0) → AnswersAreTrue Shows
answers_are_true Shows found complete c covers = says Shows found complete c.claim c.lists covers (position (decides c.claim c.lists) found) refl complete refl

-- ---- where the search is complete

known : (claim : Claim) (o : Option ℕ) → is_unknown (answer_by claim o true) ≡ false
known claims.Exists (Some n) = refl
known claims.Exists None = refl
known claims.Never (Some n) = refl
known claims.Never None = refl
known claims.Always (Some n) = refl
known claims.Always None = refl

pub complete_is_answered : CompleteIsAnswered
complete_is_answered c found = known c.claim (position (decides c.claim c.lists) found)

-- ---- the outcome that is named

named_first : (claim : Claim) (o : Option ℕ) (b : Bool) (n : ℕ) → named (answer_by claim o b) ≡ Some n → o ≡ Some n
named_first claims.Exists (Some m) b n e = e
named_first claims.Exists None true n e = absurd cc
named_first claims.Exists None false n e = absurd cc
named_first claims.Never (Some m) b n e = e
named_first claims.Never None true n e = absurd cc
named_first claims.Never None false n e = absurd cc
named_first claims.Always (Some m) b n e = e
named_first claims.Always None true n e = absurd cc
named_first claims.Always None false n e = absurd cc

at_some : (found : List Outcome) (k : ℕ) (P : Outcome → Type 0) → k < length found → P (get_or found k blank) → IsSomeAnd (slice_get found k) P
at_some found k P within h = rw (slice_get-get_or found k blank within) h

pub deciding_outcomes_are_first : DecidingOutcomesAreFirst
deciding_outcomes_are_first c found complete n e =
    let f = position-Some (decides c.claim c.lists) found n blank (named_first c.claim (position (decides c.claim c.lists) found) complete n e) in
    record { here = at_some found n (λ o. decides c.claim c.lists o ≡ true) f.0 f.1; none_before = λ k less. at_some found k (λ o. decides c.claim c.lists o ≡ false) (omega (arith, less, f.0)) (f.2 k less) }
