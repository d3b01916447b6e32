-- Which answer a text of conditions has, in the words of the grammar.
use Rattle.std.specs.Prelude.{◌≡◌, ℕ, List, [], ◌∷◌, ◌++◌, Option, Some, None, Result, Ok, Err, ◌↔◌}
use Rattle.text_forms.specs.declared.fault.Fault.{Fault}
use Rattle.text_forms.specs.Tokens.{Tok}
use Rattle.text_forms.specs.Derives.{Derives}
use Rattle.text_forms.specs.Limits.{Live}
use Rattle.text_forms.specs.First.{IsFirstFault}
use Rattle.text_forms.specs.Texts.{IsGrammar}
use Rattle.demands.specs.declared.fault.Fault as unmet
use Rattle.demands.specs.declared.fault.Fault.TheVariants.{At}
use Rattle.demands.specs.Demands.{AllMet, first_unmet}
use Rattle.name_scopes.specs.Names.{Names}
use Rattle.ir_lex.specs.declared.token.Token.{Token}
use Rattle.ir_lex.specs.declared.token.LexFault.{LexFault}
use Rattle.ir_lex.specs.Texts.{Lexes}
use Rattle.ir_lex.specs.Seen.{seen}
use Rattle.conditions.specs.declared.before.Before.TheVariants as places
use Rattle.conditions.specs.declared.fault.ConditionKind.{ConditionKind}
use Rattle.conditions.specs.declared.fault.ConditionKind.TheVariants.{Text}
use Rattle.conditions.specs.declared.tree.Condition.{Condition}
use Rattle.conditions.specs.Grammar.{conditions}
use Rattle.conditions.specs.Demands.{token_demand, token_demands, after_all}
use Rattle.conditions.specs.Texts.{tokens_before, condition_demands, conditions_in}

-- the next token always decides how a text of conditions goes on
abbrev pub ConditionsAreGrammar : Type 0
ConditionsAreGrammar = (names : Names ℕ) → IsGrammar (conditions names)

abbrev pub Answer : Type 0
Answer = Result (List Condition) (unmet.Fault ConditionKind)

-- each word, name and number of some tokens is good
abbrev pub AllGood : Names ℕ → List Tok → Type 0
AllGood names ts = AllMet (token_demands names places.Outside ts)

-- which answer the bytes of a text have. Its tokens are those that the rules of tokens give, up to its end or its first lexical fault
pub data IsAnswer (names : Names ℕ) (bytes : List ℕ) : Answer → Type 0 where
  -- the conditions that the tokens stand for, where each token is good
  conditions_read : (tokens : List Token) (end : Option LexFault) (cs : List Condition) → Lexes bytes 0 tokens end → Derives (conditions names) (seen bytes tokens end) cs → AllGood names (seen bytes tokens end) → IsAnswer names bytes (Ok cs)
  -- the first token, or the end, with which no text of conditions goes on, where each token before it is good
  grammar_first : (tokens : List Token) (end : Option LexFault) (f : Fault) → Lexes bytes 0 tokens end → IsFirstFault (conditions names) (seen bytes tokens end) f → AllGood names (tokens_before f.place (seen bytes tokens end))
      → IsAnswer names bytes (Err (At (Text f.kind) f.place))
  -- the first token that is not good, where some text goes on with it
  token_first : (tokens : List Token) (end : Option LexFault) (before after : List Tok) (here : Tok) (e : unmet.Fault ConditionKind) → Lexes bytes 0 tokens end → seen bytes tokens end ≡ before ++ here ∷ after → Live (conditions names) (before ++ here ∷ [])
      → AllGood names before → first_unmet (token_demand names (after_all places.Outside before) here) ≡ Some e → IsAnswer names bytes (Err e)

-- the same computed: where all demands are met the conditions, else the first fault
abbrev pub answer_by : Option (unmet.Fault ConditionKind) → List Condition → Answer
answer_by None cs = Ok cs
answer_by (Some e) cs = Err e

abbrev pub text_answer : Names ℕ → List ℕ → Answer
text_answer names bytes = answer_by (first_unmet (condition_demands names bytes)) (conditions_in names bytes)

-- what is computed is an answer of the text
abbrev pub TextsAreAnswered : Type 0
TextsAreAnswered = (names : Names ℕ) (bytes : List ℕ) → IsAnswer names bytes (text_answer names bytes)

-- and it is the only one
abbrev pub AnswerIsOne : Type 0
AnswerIsOne = (names : Names ℕ) (bytes : List ℕ) (r : Answer) → IsAnswer names bytes r ↔ (text_answer names bytes ≡ r)
