-- A text has one answer.
use Rattle.std.proofs.Common.{◌≡◌, ℕ, ◌<◌, ◌≤◌, true, List, [], ◌∷◌, ◌++◌, length, Option, Some, None, Result, Ok, Err, refl, sym, ap, subst, ◌∙◌, append_assoc, inl, inr, arith}
use Rattle.std.specs.Prelude.{◌⊎◌, nat_lt}
use Rattle.std.proofs.lemmas.List.{length-append}
use Rattle.std.proofs.lemmas.Bool.{cases_lt}
use Rattle.conditions.specs.declared.before.Before.{Before}
use Rattle.conditions.specs.declared.before.Before.TheVariants as places
use Rattle.text_forms.specs.declared.fault.Fault.{Fault}
use Rattle.text_forms.specs.Tokens.{Tok, IsText}
use Rattle.text_forms.specs.Reading.{whole}
use Rattle.text_forms.specs.Limits.{Live}
use Rattle.text_forms.specs.First.{IsDead, IsPast, IsFirstFault}
use Rattle.text_forms.specs.Lemmas.Whole.{whole_only, whole_fault, fault_only}
use Rattle.text_forms.specs.Lemmas.Ends.{places_rise}
use Rattle.demands.specs.declared.fault.Fault as unmet
use Rattle.demands.specs.declared.fault.Fault.TheVariants.{At}
use Rattle.demands.specs.Demands.{Demands, none, demand, ◌⨾◌, AllMet, first_unmet, or_else}
use Rattle.name_scopes.specs.Names.{Names}
use Rattle.ir_lex.specs.Seen.{seen}
use Rattle.ir_lex.specs.Walk.{tokens_from}
use Rattle.ir_lex.specs.TokenForms.{mark, numeral}
use Rattle.ir_lex.specs.Lemmas.Cursors.{tokens_are_seen, texts_end}
use Rattle.conditions.specs.declared.fault.ConditionKind.{ConditionKind}
use Rattle.conditions.specs.declared.fault.ConditionKind.TheVariants.{Text}
use Rattle.conditions.specs.declared.tree.Condition.{Condition}
use Rattle.conditions.specs.Grammar.{value, told, telling, word, worded, global, last, atom, list, lists, claim, condition, conditions}
use Rattle.conditions.specs.Demands.{token_demand, token_demands, after, after_all}
use Rattle.conditions.specs.Texts.{tokens_before, demands_by, read_in}
use Rattle.conditions.specs.TextAnswers.{Answer, IsAnswer, conditions_read, grammar_first, token_first, answer_by, text_answer, AnswerIsOne}
use Rattle.conditions.proofs.Grammatical.{is_grammar}
use Rattle.conditions.proofs.Limitless.{limitless, no_passes}
use Rattle.conditions.proofs.FirstUnmet.{front_live, fault_place, not_below}
use Rattle.conditions.proofs.TextAnswers.{texts_are_answered}

has_no_limits : (names : Names ℕ) → limitless (conditions names) ≡ true
unfolding mark numeral value told telling word worded global last atom list lists claim condition conditions
has_no_limits names = refl

-- ---- demands that are met, and the first that is not

none_met : {K : Type 0} (ds : Demands K) → AllMet ds → first_unmet ds ≡ None
none_met none m = refl
none_met (demand place kind met) m = rw m refl
none_met (a ⨾ b) m = rw (none_met a m.0) (none_met b m.1)

unmet_first : (names : Names ℕ) (s : Before) (before more : List Tok) (here : Tok) (e : unmet.Fault ConditionKind) → AllMet (token_demands names s before) → first_unmet (token_demand names (after_all s before) here) ≡ Some e
    → first_unmet (token_demands names s (before ++ here ∷ more)) ≡ Some e
unmet_first names s [] more here e good bad = rw bad refl
unmet_first names s (t ∷ before) more here e good bad = rw (none_met (token_demand names s t) good.0) (unmet_first names (after s t) before more here e good.1 bad)

-- ---- two splits of the same tokens

cons_same : (s t : Tok) (x y : List Tok) → s ≡ t → x ≡ y → s ∷ x ≡ t ∷ y
cons_same s t x y p q = cc

front_of : (u v x y : List Tok) → u ++ v ≡ x ++ y → length u ≤ length x → (w : List Tok) × (x ≡ u ++ w)
front_of [] v x y p le = (x, refl)
front_of (t ∷ u) v [] y p le = absurd (omega arith)
front_of (t ∷ u) v (s ∷ x) y p le =
    let h : s ≡ t = cc in
    let k : u ++ v ≡ x ++ y = cc in
    let r = front_of u v x y k (omega arith) in
    (r.0, cons_same s t x (u ++ r.0) h r.1)

-- the tokens before the place of one of a text
exact : (place : ℕ) (c m : List Tok) (y : Tok) → place ≡ y.place → IsText (c ++ y ∷ m) → tokens_before place (c ++ y ∷ m) ≡ c
unfolding IsText
exact place [] m y same text = rw (same, not_below y.place) refl
exact place (t ∷ c) m y same text =
    let below : t.place < y.place = places_rise (t ∷ (c ++ y ∷ m)) text [] t (c ++ y ∷ m) (t ∷ c) y m refl refl (omega arith) in
    let on : nat_lt t.place place ≡ true = is_below t.place place (omega (arith, below, same)) in
    rw (on, exact place c m y same (rest text)) refl
  where
    is_below : (a b : ℕ) → a < b → nat_lt a b ≡ true
    is_below a b l = grind (arith, l)

    nothing : (c : List Tok) → c ++ y ∷ m ≡ [] → ⊥
    nothing [] e = absurd cc
    nothing (x ∷ c) e = absurd cc

    rest : IsText (t ∷ (c ++ y ∷ m)) → IsText (c ++ y ∷ m)
    rest (inl (last, alone)) = absurd (nothing c alone)
    rest (inr (off, rises, text)) = text

-- ---- one answer

abbrev computed : Names ℕ → List Tok → Result (List Condition) Fault → Answer
computed names ts r = answer_by (first_unmet (demands_by names ts r)) (read_in r)

-- a token with which some text of conditions goes on stands before the grammar's fault
stands_before : (names : Names ℕ) (ts before after : List Tok) (here : Tok) (f : Fault) (is : IsFirstFault (conditions names) ts f) → ts ≡ before ++ here ∷ after → Live (conditions names) (before ++ here ∷ []) → length before < length is.before
stands_before names ts before after here f is parts live = elim (cases_lt (length before) (length is.before)) [
  | inl less ↦ less
  | inr most ↦ absurd (by is.fault most)
]
  where
    by : IsDead (conditions names) is.before is.here f ⊎ IsPast (conditions names) is.before is.here is.after f → length is.before ≤ length before → ⊥
    by (inl (dead, rest)) most =
        let both : (is.before ++ is.here ∷ []) ++ is.after ≡ (before ++ here ∷ []) ++ after = append_assoc is.before (is.here ∷ []) is.after ∙ sym is.parts ∙ parts ∙ sym (append_assoc before (here ∷ []) after) in
        let w = front_of (is.before ++ is.here ∷ []) is.after (before ++ here ∷ []) after both (omega (arith, most, length-append is.before (is.here ∷ []), length-append before (here ∷ []))) in
        dead (front_live (conditions names) (is.before ++ is.here ∷ []) w.0 (before ++ here ∷ []) w.1 live)
    by (inr (lead, rest, parts, live, passes, same)) most = no_passes (conditions names) (has_no_limits names) is.before (is.here ∷ lead) passes

of_token : (names : Names ℕ) (ts before after : List Tok) (here : Tok) (e : unmet.Fault ConditionKind) → IsText ts → ts ≡ before ++ here ∷ after → Live (conditions names) (before ++ here ∷ []) → AllMet (token_demands names places.Outside before)
    → first_unmet (token_demand names (after_all places.Outside before) here) ≡ Some e → (r : Result (List Condition) Fault) → whole (conditions names) ts ≡ r → computed names ts r ≡ Err e
of_token names ts before after here e text parts live good bad (Ok es) read =
    let first : first_unmet (token_demands names places.Outside ts) ≡ Some e = ap (λ (us : List Tok). first_unmet (token_demands names places.Outside us)) parts ∙ unmet_first names places.Outside before after here e good bad in
    rw first refl
of_token names ts before after here e text parts live good bad (Err f) read =
    let is : IsFirstFault (conditions names) ts f = whole_fault (conditions names) (is_grammar names) ts f text read in
    let less : length before < length is.before = stands_before names ts before after here f is parts live in
    let both : (before ++ here ∷ []) ++ after ≡ is.before ++ is.here ∷ is.after = append_assoc before (here ∷ []) after ∙ sym parts ∙ is.parts in
    let w = front_of (before ++ here ∷ []) after is.before (is.here ∷ is.after) both (omega (arith, less, length-append before (here ∷ []))) in
    let front : tokens_before f.place ts ≡ before ++ here ∷ w.0 =
    ap (tokens_before f.place) is.parts ∙ exact f.place is.before is.after is.here (fault_place (conditions names) is.before is.after is.here f is.fault) (subst IsText is.parts text) ∙ w.1 ∙ append_assoc before (here ∷ []) w.0 in
    let first : first_unmet (token_demands names places.Outside (tokens_before f.place ts)) ≡ Some e = ap (λ (us : List Tok). first_unmet (token_demands names places.Outside us)) front ∙ unmet_first names places.Outside before w.0 here e good bad in
    rw first refl

only : (names : Names ℕ) (bytes : List ℕ) (r : Answer) → IsAnswer names bytes r → text_answer names bytes ≡ r
only names bytes _ (conditions_read tokens end es lexes derives good) =
    let same : tokens_from bytes 0 ≡ seen bytes tokens end = tokens_are_seen bytes 0 tokens end lexes in
    let read : whole (conditions names) (seen bytes tokens end) ≡ Ok es = whole_only (conditions names) (is_grammar names) (seen bytes tokens end) es derives in
    ap (λ (ts : List Tok). computed names ts (whole (conditions names) ts)) same ∙ ap (computed names (seen bytes tokens end)) read
    ∙ ap (λ (d : Option (unmet.Fault ConditionKind)). answer_by d es) (none_met (token_demands names places.Outside (seen bytes tokens end)) good)
only names bytes _ (grammar_first tokens end f lexes is good) =
    let same : tokens_from bytes 0 ≡ seen bytes tokens end = tokens_are_seen bytes 0 tokens end lexes in
    let read : whole (conditions names) (seen bytes tokens end) ≡ Err f = fault_only (conditions names) (is_grammar names) (seen bytes tokens end) f (subst IsText same (texts_end bytes)) is in
    ap (λ (ts : List Tok). computed names ts (whole (conditions names) ts)) same ∙ ap (computed names (seen bytes tokens end)) read
    ∙ ap (λ (d : Option (unmet.Fault ConditionKind)). answer_by (or_else d (Some (At (Text f.kind) f.place))) []) (none_met (token_demands names places.Outside (tokens_before f.place (seen bytes tokens end))) good)
only names bytes _ (token_first tokens end before after here e lexes parts live good bad) =
    let same : tokens_from bytes 0 ≡ seen bytes tokens end = tokens_are_seen bytes 0 tokens end lexes in
    ap (λ (ts : List Tok). computed names ts (whole (conditions names) ts)) same
    ∙ of_token names (seen bytes tokens end) before after here e (subst IsText same (texts_end bytes)) parts live good bad (whole (conditions names) (seen bytes tokens end)) refl

pub one_answer : AnswerIsOne
one_answer names bytes r = (only names bytes r, λ e. subst (IsAnswer names bytes) e (texts_are_answered names bytes))
