-- What is computed of a text is an answer that it has.
use Rattle.std.proofs.Common.{◌≡◌, ℕ, List, [], ◌∷◌, ◌++◌, Option, Some, None, Result, Ok, Err, refl, sym, ap, subst, ◌∙◌, append_assoc}
use Rattle.conditions.specs.declared.before.Before.TheVariants as places
use Rattle.text_forms.specs.declared.fault.Fault.{Fault}
use Rattle.text_forms.specs.Tokens.{Tok, IsText}
use Rattle.text_forms.specs.Derives.{Derives}
use Rattle.text_forms.specs.First.{IsFirstFault}
use Rattle.text_forms.specs.Reading.{whole}
use Rattle.text_forms.specs.Lemmas.Whole.{whole_ok, whole_fault}
use Rattle.demands.specs.declared.fault.Fault as unmet
use Rattle.demands.specs.declared.fault.Fault.TheVariants.{At}
use Rattle.demands.specs.Demands.{first_unmet, or_else}
use Rattle.name_scopes.specs.Names.{Names}
use Rattle.demands.specs.Lemmas.Meeting.{all_met}
use Rattle.ir_lex.specs.declared.token.Token.{Token}
use Rattle.ir_lex.specs.declared.token.LexFault.{LexFault}
use Rattle.ir_lex.specs.Texts.{Lexes}
use Rattle.ir_lex.specs.Seen.{seen}
use Rattle.ir_lex.specs.Walk.{tokens_from}
use Rattle.ir_lex.specs.Lemmas.Cursors.{tokens_are_seen, texts_end}
use Rattle.ir_lex.specs.Lemmas.Lists.{one_list}
use Rattle.conditions.specs.declared.fault.ConditionKind.{ConditionKind}
use Rattle.conditions.specs.declared.fault.ConditionKind.TheVariants.{Text}
use Rattle.conditions.specs.declared.tree.Condition.{Condition}
use Rattle.conditions.specs.Grammar.{conditions}
use Rattle.conditions.specs.Demands.{token_demands}
use Rattle.conditions.specs.Texts.{tokens_before, demands_by, read_in}
use Rattle.conditions.specs.TextAnswers.{IsAnswer, conditions_read, grammar_first, token_first, answer_by, TextsAreAnswered}
use Rattle.conditions.proofs.Grammatical.{is_grammar}
use Rattle.conditions.proofs.FirstUnmet.{unmet_is, front_live, derived_live, fault_place, front_is}

-- the tokens of a text by its rules
pub record Seen (bytes : List ℕ) : Type 0 where
  pub tokens : List Token
  pub end : Option LexFault
  pub lexes : Lexes bytes 0 tokens end
  pub same : tokens_from bytes 0 ≡ seen bytes tokens end

seen_as : (bytes : List ℕ) → Seen bytes
seen_as bytes = let l = one_list bytes in record { tokens = l.0; end = l.1; lexes = l.2; same = tokens_are_seen bytes 0 l.0 l.1 l.2 }

-- conditions whose tokens are judged
of_conditions : (names : Names ℕ) (bytes : List ℕ) (s : Seen bytes) (es : List Condition) → Derives (conditions names) (seen bytes s.tokens s.end) es
    → (d : Option (unmet.Fault ConditionKind)) → first_unmet (token_demands names places.Outside (seen bytes s.tokens s.end)) ≡ d → IsAnswer names bytes (answer_by d es)
of_conditions names bytes s es derives None met = conditions_read s.tokens s.end es s.lexes derives (all_met (token_demands names places.Outside (seen bytes s.tokens s.end)) met)
of_conditions names bytes s es derives (Some e) bad =
    let u = unmet_is names places.Outside (seen bytes s.tokens s.end) e bad in
    token_first s.tokens s.end u.before u.after u.here e s.lexes u.parts
    (front_live (conditions names) (u.before ++ u.here ∷ []) u.after (seen bytes s.tokens s.end) (u.parts ∙ sym (append_assoc u.before (u.here ∷ []) u.after)) (derived_live (conditions names) (seen bytes s.tokens s.end) es derives)) u.good u.bad

-- a text of no conditions, of which the tokens before the grammar's fault are judged
of_fault : (names : Names ℕ) (bytes : List ℕ) (s : Seen bytes) (f : Fault) → IsFirstFault (conditions names) (seen bytes s.tokens s.end) f
    → (d : Option (unmet.Fault ConditionKind)) → first_unmet (token_demands names places.Outside (tokens_before f.place (seen bytes s.tokens s.end))) ≡ d
    → IsAnswer names bytes (answer_by (or_else d (Some (At (Text f.kind) f.place))) [])
of_fault names bytes s f is None met = grammar_first s.tokens s.end f s.lexes is (all_met (token_demands names places.Outside (tokens_before f.place (seen bytes s.tokens s.end))) met)
of_fault names bytes s f is (Some e) bad =
    let u = unmet_is names places.Outside (tokens_before f.place (seen bytes s.tokens s.end)) e bad in
    let w = front_is f.place is.before is.after is.here (fault_place (conditions names) is.before is.after is.here f is.fault) in
    let before : is.before ≡ (u.before ++ u.here ∷ u.after) ++ w.rest = w.is ∙ ap (λ (ts : List Tok). tokens_before f.place ts ++ w.rest) (sym is.parts) ∙ ap (λ (ts : List Tok). ts ++ w.rest) u.parts in
    let split : is.before ≡ u.before ++ u.here ∷ (u.after ++ w.rest) = before ∙ append_assoc u.before (u.here ∷ u.after) w.rest in
    token_first s.tokens s.end u.before ((u.after ++ w.rest) ++ is.here ∷ is.after) u.here e s.lexes
    (is.parts ∙ ap (λ (ts : List Tok). ts ++ is.here ∷ is.after) split ∙ append_assoc u.before (u.here ∷ (u.after ++ w.rest)) (is.here ∷ is.after))
    (front_live (conditions names) (u.before ++ u.here ∷ []) (u.after ++ w.rest) is.before (split ∙ sym (append_assoc u.before (u.here ∷ []) (u.after ++ w.rest))) is.live) u.good u.bad

-- by what is read
answered : (names : Names ℕ) (bytes : List ℕ) (s : Seen bytes) → IsText (seen bytes s.tokens s.end) → (r : Result (List Condition) Fault) → whole (conditions names) (seen bytes s.tokens s.end) ≡ r
    → IsAnswer names bytes (answer_by (first_unmet (demands_by names (seen bytes s.tokens s.end) r)) (read_in r))
answered names bytes s text (Ok es) e = of_conditions names bytes s es (whole_ok (conditions names) (is_grammar names) (seen bytes s.tokens s.end) es text e) (first_unmet (token_demands names places.Outside (seen bytes s.tokens s.end))) refl
answered names bytes s text (Err f) e =
    of_fault names bytes s f (whole_fault (conditions names) (is_grammar names) (seen bytes s.tokens s.end) f text e)
    (first_unmet (token_demands names places.Outside (tokens_before f.place (seen bytes s.tokens s.end)))) refl

pub texts_are_answered : TextsAreAnswered
texts_are_answered names bytes =
    let s = seen_as bytes in
    subst (λ (ts : List Tok). IsAnswer names bytes (answer_by (first_unmet (demands_by names ts (whole (conditions names) ts))) (read_in (whole (conditions names) ts)))) (sym s.same)
    (answered names bytes s (subst IsText s.same (texts_end bytes)) (whole (conditions names) (seen bytes s.tokens s.end)) refl)
