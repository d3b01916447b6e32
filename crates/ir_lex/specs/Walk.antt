-- The tokens of a text one after the other, as a cursor goes through them. Public contracts cite `tokens_from` alone, and a law says
-- what it is.
use Rattle.std.specs.Prelude.{◌-◌, ℕ, zero, suc, Option, Some, None, Result, Ok, Err, List, [], ◌∷◌, length, take, drop, if◌then◌else◌}
use Rattle.text_forms.specs.declared.symbol.Symbol.{Symbol}
use Rattle.text_forms.specs.declared.symbol.Symbol.TheVariants as symbols
use Rattle.text_forms.specs.Tokens.{Tok, is_last}
use Rattle.ir_lex.specs.declared.token.Token.{Token}
use Rattle.ir_lex.specs.declared.token.LexFault.{LexFault}
use Rattle.ir_lex.specs.declared.cursor.Held.{Held}
use Rattle.ir_lex.specs.Texts.{spelling_of}
use Rattle.ir_lex.specs.Seen.{symbol_of, fault_symbol, seen}
use Rattle.ir_lex.specs.Scanner.{next_of}

abbrev pub Tokens : Type 0
Tokens = List Token × Option LexFault

abbrev pub with_token : Token → Tokens → Tokens
with_token t r = (t ∷ r.0, r.1)

-- the tokens from a place on; the number bounds how many
unfoldable pub tokens_within : ℕ → List ℕ → ℕ → Tokens
tokens_within zero text at = ([], None)
tokens_within (suc n) text at = elim (next_of text at) [
  | Err e ↦ ([], Some e)
  | Ok o ↦ elim o [ None ↦ ([], None) | Some t ↦ with_token t (tokens_within n text t.to) ]
]

-- the same as the grammars see them
unfoldable pub tokens_from : List ℕ → ℕ → List Tok
tokens_from text at = let r = tokens_within (suc (length text)) text at in seen text r.0 r.1

-- ---- what a cursor holds: what its token is to the grammars, and where it begins and ends

abbrev pub held : List ℕ → Result (Option Token) LexFault → Held
held text (Err f) = record { symbol = fault_symbol f.kind; from = f.place; to = f.place }
held text (Ok None) = record { symbol = symbols.End; from = length text; to = length text }
held text (Ok (Some t)) = record { symbol = symbol_of t.kind (spelling_of text t); from = t.from; to = t.to }

-- the tokens from that one on
abbrev pub held_tokens : List ℕ → Symbol → ℕ → ℕ → List Tok
held_tokens text symbol from to = record { symbol = symbol; place = from; spelling = take (to - from) (drop from text) } ∷ (if is_last symbol then [] else tokens_from text to)
