-- Which answer a text has, in the words of the grammar.
use Rattle.std.specs.Prelude.{◌≡◌, ℕ, List, [], ◌∷◌, ◌++◌, Option, Some, None, Result, Ok, Err, ◌↔◌}
use Rattle.text_forms.specs.declared.symbol.Symbol.TheVariants as symbols
use Rattle.text_forms.specs.declared.fault.Fault.{Fault}
use Rattle.text_forms.specs.Tokens.{Tok}
use Rattle.text_forms.specs.Derives.{Derives}
use Rattle.text_forms.specs.Limits.{Live}
use Rattle.text_forms.specs.First.{IsFirstFault}
use Rattle.demands.specs.declared.fault.Fault as unmet
use Rattle.demands.specs.declared.fault.Fault.TheVariants.{At}
use Rattle.demands.specs.Demands.{AllMet, first_unmet}
use Rattle.ir_lex.specs.declared.token.Token.{Token}
use Rattle.ir_lex.specs.declared.token.LexFault.{LexFault}
use Rattle.ir_lex.specs.Texts.{Lexes}
use Rattle.ir_lex.specs.Seen.{seen}
use Rattle.ir_tree.specs.declared.items.Item.{Item}
use Rattle.bundle_names.specs.Globals.{globals_of}
use Rattle.mu_model.specs.Clients.{ScriptEntry}
use Rattle.client_script.specs.declared.fault.ScriptKind.{ScriptKind}
use Rattle.client_script.specs.declared.fault.ScriptKind.TheVariants.{Text}
use Rattle.client_script.specs.declared.tree.Entry.{Entry}
use Rattle.client_script.specs.Grammar.{script}
use Rattle.client_script.specs.Demands.{token_demand, token_demands, last_symbol}
use Rattle.client_script.specs.Meaning.{entries_meant}
use Rattle.client_script.specs.Texts.{tokens_before, script_demands, script_entries}

abbrev pub Answer : Type 0
Answer = Result (List ScriptEntry) (unmet.Fault ScriptKind)

-- each name and number of some tokens is good
abbrev pub AllGood : List Item → List Tok → Type 0
AllGood bundle ts = AllMet (token_demands (globals_of bundle).names symbols.End ts)

-- which answer the bytes of a text have. Its tokens are those that the rules of tokens give, up to its end or its first lexical fault
pub data IsAnswer (bundle : List Item) (bytes : List ℕ) : Answer → Type 0 where
  -- the entries that the tokens stand for, where each name and number is good
  script_read : (tokens : List Token) (end : Option LexFault) (entries : List Entry) → Lexes bytes 0 tokens end → Derives (script bundle) (seen bytes tokens end) entries → AllGood bundle (seen bytes tokens end)
      → IsAnswer bundle bytes (Ok (entries_meant entries))
  -- the first token, or the end, with which no script goes on, where each name and number before it is good
  grammar_first : (tokens : List Token) (end : Option LexFault) (f : Fault) → Lexes bytes 0 tokens end → IsFirstFault (script bundle) (seen bytes tokens end) f → AllGood bundle (tokens_before f.place (seen bytes tokens end))
      → IsAnswer bundle bytes (Err (At (Text f.kind) f.place))
  -- the first name or number that is not good, where some script goes on with it
  token_first : (tokens : List Token) (end : Option LexFault) (before after : List Tok) (here : Tok) (e : unmet.Fault ScriptKind) → Lexes bytes 0 tokens end → seen bytes tokens end ≡ before ++ here ∷ after → Live (script bundle) (before ++ here ∷ []) → AllGood bundle before
      → first_unmet (token_demand (globals_of bundle).names (last_symbol symbols.End before) here) ≡ Some e → IsAnswer bundle bytes (Err e)

-- the same computed: where all demands are met the entries, else the first fault
abbrev pub answer_by : Option (unmet.Fault ScriptKind) → List ScriptEntry → Answer
answer_by None entries = Ok entries
answer_by (Some e) entries = Err e

abbrev pub script_answer : List Item → List ℕ → Answer
script_answer bundle bytes = answer_by (first_unmet (script_demands bundle bytes)) (script_entries bundle bytes)

-- what is computed is an answer of the text
abbrev pub TextsAreAnswered : Type 0
TextsAreAnswered = (bundle : List Item) (bytes : List ℕ) → IsAnswer bundle bytes (script_answer bundle bytes)

-- and it is the only one
abbrev pub AnswerIsOne : Type 0
AnswerIsOne = (bundle : List Item) (bytes : List ℕ) (r : Answer) → IsAnswer bundle bytes r ↔ (script_answer bundle bytes ≡ r)
