-- A text has one answer.
use Rattle.std.proofs.Common.{◌≡◌, ℕ, ◌<◌, ◌≤◌, true, List, [], ◌∷◌, ◌++◌, length, Option, Some, None, Result, Ok, Err, refl, sym, ap, subst, ◌∙◌, append_assoc, inl, inr, arith}
use Rattle.std.specs.Prelude.{◌⊎◌, nat_lt}
use Rattle.std.proofs.lemmas.List.{length-append}
use Rattle.std.proofs.lemmas.Bool.{cases_lt}
use Rattle.text_forms.specs.declared.symbol.Symbol.{Symbol}
use Rattle.text_forms.specs.declared.symbol.Symbol.TheVariants as symbols
use Rattle.text_forms.specs.declared.fault.Fault.{Fault}
use Rattle.text_forms.specs.Tokens.{Tok, IsText}
use Rattle.text_forms.specs.Reading.{whole}
use Rattle.text_forms.specs.Limits.{Live}
use Rattle.text_forms.specs.First.{IsDead, IsPast, IsFirstFault}
use Rattle.text_forms.specs.Lemmas.Whole.{whole_only, whole_fault, fault_only}
use Rattle.text_forms.specs.Lemmas.Ends.{places_rise}
use Rattle.demands.specs.declared.fault.Fault as unmet
use Rattle.demands.specs.declared.fault.Fault.TheVariants.{At}
use Rattle.demands.specs.Demands.{Demands, none, demand, ◌⨾◌, AllMet, first_unmet, or_else}
use Rattle.name_scopes.specs.Names.{Names}
use Rattle.ir_lex.specs.Seen.{seen}
use Rattle.ir_lex.specs.Walk.{tokens_from}
use Rattle.ir_lex.specs.TokenForms.{mark, name, numeral}
use Rattle.ir_lex.specs.Lemmas.Cursors.{tokens_are_seen, texts_end}
use Rattle.ir_tree.specs.declared.items.Item.{Item}
use Rattle.ir_tree.specs.Lists.{global}
use Rattle.bundle_names.specs.declared.globals.Sort.{Sort}
use Rattle.bundle_names.specs.Globals.{globals_of}
use Rattle.client_script.specs.declared.fault.ScriptKind.{ScriptKind}
use Rattle.client_script.specs.declared.fault.ScriptKind.TheVariants.{Text}
use Rattle.client_script.specs.declared.tree.Entry.{Entry}
use Rattle.client_script.specs.Grammar.{count, action, popping, pushing, edit, kept_value, argument, pass, way, rebind, reply, ending, inside, entry, script}
use Rattle.client_script.specs.Demands.{token_demand, token_demands, last_symbol}
use Rattle.client_script.specs.Meaning.{entries_meant}
use Rattle.client_script.specs.Texts.{tokens_before, demands_by, entries_in}
use Rattle.client_script.specs.ScriptAnswers.{Answer, IsAnswer, script_read, grammar_first, token_first, answer_by, script_answer, AnswerIsOne}
use Rattle.client_script.specs.Lemmas.Grammatical.{is_grammar}
use Rattle.client_script.proofs.Limitless.{limitless, no_passes}
use Rattle.client_script.proofs.FirstUnmet.{front_live, fault_place, not_below}
use Rattle.client_script.proofs.Answering.{texts_are_answered}

has_no_limits : (bundle : List Item) → limitless (script bundle) ≡ true
unfolding mark name numeral global count action popping pushing edit kept_value argument pass way rebind reply ending inside entry script
has_no_limits bundle = refl

-- ---- demands that are met, and the first that is not

none_met : {K : Type 0} (ds : Demands K) → AllMet ds → first_unmet ds ≡ None
none_met none m = refl
none_met (demand place kind met) m = rw m refl
none_met (a ⨾ b) m = rw (none_met a m.0) (none_met b m.1)

unmet_first : (names : Names Sort) (s : Symbol) (before after : List Tok) (here : Tok) (e : unmet.Fault ScriptKind) → AllMet (token_demands names s before) → first_unmet (token_demand names (last_symbol s before) here) ≡ Some e
    → first_unmet (token_demands names s (before ++ here ∷ after)) ≡ Some e
unmet_first names s [] after here e good bad = rw bad refl
unmet_first names s (t ∷ before) after here e good bad = rw (none_met (token_demand names s t) good.0) (unmet_first names t.symbol before after here e good.1 bad)

-- ---- two splits of the same tokens

cons_same : (s t : Tok) (x y : List Tok) → s ≡ t → x ≡ y → s ∷ x ≡ t ∷ y
cons_same s t x y p q = cc

front_of : (u v x y : List Tok) → u ++ v ≡ x ++ y → length u ≤ length x → (w : List Tok) × (x ≡ u ++ w)
front_of [] v x y p le = (x, refl)
front_of (t ∷ u) v [] y p le = absurd (omega arith)
front_of (t ∷ u) v (s ∷ x) y p le =
    let h : s ≡ t = cc in
    let k : u ++ v ≡ x ++ y = cc in
    let r = front_of u v x y k (omega arith) in
    (r.0, cons_same s t x (u ++ r.0) h r.1)

-- the tokens before the place of one of a text
exact : (place : ℕ) (c m : List Tok) (y : Tok) → place ≡ y.place → IsText (c ++ y ∷ m) → tokens_before place (c ++ y ∷ m) ≡ c
unfolding IsText
exact place [] m y same text = rw (same, not_below y.place) refl
exact place (t ∷ c) m y same text =
    let below : t.place < y.place = places_rise (t ∷ (c ++ y ∷ m)) text [] t (c ++ y ∷ m) (t ∷ c) y m refl refl (omega arith) in
    let on : nat_lt t.place place ≡ true = is_below t.place place (omega (arith, below, same)) in
    rw (on, exact place c m y same (rest text)) refl
  where
    is_below : (a b : ℕ) → a < b → nat_lt a b ≡ true
    is_below a b l = grind (arith, l)

    nothing : (c : List Tok) → c ++ y ∷ m ≡ [] → ⊥
    nothing [] e = absurd cc
    nothing (x ∷ c) e = absurd cc

    rest : IsText (t ∷ (c ++ y ∷ m)) → IsText (c ++ y ∷ m)
    rest (inl (last, alone)) = absurd (nothing c alone)
    rest (inr (off, rises, text)) = text

-- ---- one answer

abbrev computed : List Item → List Tok → Result (List Entry) Fault → Answer
computed bundle ts r = answer_by (first_unmet (demands_by (globals_of bundle).names ts r)) (entries_meant (entries_in r))

-- a token with which some script goes on stands before the grammar's fault
stands_before : (bundle : List Item) (ts before after : List Tok) (here : Tok) (f : Fault) (is : IsFirstFault (script bundle) ts f) → ts ≡ before ++ here ∷ after → Live (script bundle) (before ++ here ∷ []) → length before < length is.before
stands_before bundle ts before after here f is parts live = elim (cases_lt (length before) (length is.before)) [
  | inl less ↦ less
  | inr most ↦ absurd (by is.fault most)
]
  where
    by : IsDead (script bundle) is.before is.here f ⊎ IsPast (script bundle) is.before is.here is.after f → length is.before ≤ length before → ⊥
    by (inl (dead, rest)) most =
        let both : (is.before ++ is.here ∷ []) ++ is.after ≡ (before ++ here ∷ []) ++ after = append_assoc is.before (is.here ∷ []) is.after ∙ sym is.parts ∙ parts ∙ sym (append_assoc before (here ∷ []) after) in
        let w = front_of (is.before ++ is.here ∷ []) is.after (before ++ here ∷ []) after both (omega (arith, most, length-append is.before (is.here ∷ []), length-append before (here ∷ []))) in
        dead (front_live (script bundle) (is.before ++ is.here ∷ []) w.0 (before ++ here ∷ []) w.1 live)
    by (inr (lead, rest, parts, live, passes, same)) most = no_passes (script bundle) (has_no_limits bundle) is.before (is.here ∷ lead) passes

of_token : (bundle : List Item) (ts before after : List Tok) (here : Tok) (e : unmet.Fault ScriptKind) → IsText ts → ts ≡ before ++ here ∷ after → Live (script bundle) (before ++ here ∷ []) → AllMet (token_demands (globals_of bundle).names symbols.End before)
    → first_unmet (token_demand (globals_of bundle).names (last_symbol symbols.End before) here) ≡ Some e → (r : Result (List Entry) Fault) → whole (script bundle) ts ≡ r → computed bundle ts r ≡ Err e
of_token bundle ts before after here e text parts live good bad (Ok es) read =
    let first : first_unmet (token_demands (globals_of bundle).names symbols.End ts) ≡ Some e = ap (λ (us : List Tok). first_unmet (token_demands (globals_of bundle).names symbols.End us)) parts ∙ unmet_first (globals_of bundle).names symbols.End before after here e good bad in
    rw first refl
of_token bundle ts before after here e text parts live good bad (Err f) read =
    let is : IsFirstFault (script bundle) ts f = whole_fault (script bundle) (is_grammar bundle) ts f text read in
    let less : length before < length is.before = stands_before bundle ts before after here f is parts live in
    let both : (before ++ here ∷ []) ++ after ≡ is.before ++ is.here ∷ is.after = append_assoc before (here ∷ []) after ∙ sym parts ∙ is.parts in
    let w = front_of (before ++ here ∷ []) after is.before (is.here ∷ is.after) both (omega (arith, less, length-append before (here ∷ []))) in
    let front : tokens_before f.place ts ≡ before ++ here ∷ w.0 =
    ap (tokens_before f.place) is.parts ∙ exact f.place is.before is.after is.here (fault_place (script bundle) is.before is.after is.here f is.fault) (subst IsText is.parts text) ∙ w.1 ∙ append_assoc before (here ∷ []) w.0 in
    let first : first_unmet (token_demands (globals_of bundle).names symbols.End (tokens_before f.place ts)) ≡ Some e = ap (λ (us : List Tok). first_unmet (token_demands (globals_of bundle).names symbols.End us)) front ∙ unmet_first (globals_of bundle).names symbols.End before w.0 here e good bad in
    rw first refl

only : (bundle : List Item) (bytes : List ℕ) (r : Answer) → IsAnswer bundle bytes r → script_answer bundle bytes ≡ r
only bundle bytes _ (script_read tokens end es lexes derives good) =
    let same : tokens_from bytes 0 ≡ seen bytes tokens end = tokens_are_seen bytes 0 tokens end lexes in
    let read : whole (script bundle) (seen bytes tokens end) ≡ Ok es = whole_only (script bundle) (is_grammar bundle) (seen bytes tokens end) es derives in
    ap (λ (ts : List Tok). computed bundle ts (whole (script bundle) ts)) same ∙ ap (computed bundle (seen bytes tokens end)) read
    ∙ ap (λ (d : Option (unmet.Fault ScriptKind)). answer_by d (entries_meant es)) (none_met (token_demands (globals_of bundle).names symbols.End (seen bytes tokens end)) good)
only bundle bytes _ (grammar_first tokens end f lexes is good) =
    let same : tokens_from bytes 0 ≡ seen bytes tokens end = tokens_are_seen bytes 0 tokens end lexes in
    let read : whole (script bundle) (seen bytes tokens end) ≡ Err f = fault_only (script bundle) (is_grammar bundle) (seen bytes tokens end) f (subst IsText same (texts_end bytes)) is in
    ap (λ (ts : List Tok). computed bundle ts (whole (script bundle) ts)) same ∙ ap (computed bundle (seen bytes tokens end)) read
    ∙ ap (λ (d : Option (unmet.Fault ScriptKind)). answer_by (or_else d (Some (At (Text f.kind) f.place))) []) (none_met (token_demands (globals_of bundle).names symbols.End (tokens_before f.place (seen bytes tokens end))) good)
only bundle bytes _ (token_first tokens end before after here e lexes parts live good bad) =
    let same : tokens_from bytes 0 ≡ seen bytes tokens end = tokens_are_seen bytes 0 tokens end lexes in
    ap (λ (ts : List Tok). computed bundle ts (whole (script bundle) ts)) same
    ∙ of_token bundle (seen bytes tokens end) before after here e (subst IsText same (texts_end bytes)) parts live good bad (whole (script bundle) (seen bytes tokens end)) refl

pub one_answer : AnswerIsOne
one_answer bundle bytes r = (only bundle bytes r, λ e. subst (IsAnswer bundle bytes) e (texts_are_answered bundle bytes))
