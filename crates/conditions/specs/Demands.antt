-- What the words, names and numbers of a condition have to meet, token by token. What may stand at a place is told by what stands before it.
use Rattle.std.specs.Prelude.{ℕ, Bool, true, not, ◌||◌, List, [], ◌∷◌, Option, Some, None, is_some, if◌then◌else◌}
use Rattle.text_forms.specs.declared.symbol.Symbol.TheVariants as symbols
use Rattle.text_forms.specs.declared.fault.FaultKind.TheVariants as kinds
use Rattle.text_forms.specs.Tokens.{Tok, has, is_last}
use Rattle.demands.specs.Demands.{Demands, none, demand, ◌⨾◌}
use Rattle.name_scopes.specs.Names.{Names, found}
use Rattle.ir_lex.specs.declared.token.Number.{Number}
use Rattle.ir_lex.specs.Scanner.{number_of}
use Rattle.ir_tree.specs.Lists.{globals}
use Rattle.conditions.specs.declared.before.Before.{Before}
use Rattle.conditions.specs.declared.before.Before.TheVariants as places
use Rattle.conditions.specs.declared.fault.ConditionKind.{ConditionKind}
use Rattle.conditions.specs.declared.fault.ConditionKind.TheVariants.{Text, Unknown}
use Rattle.conditions.specs.Words.{claim_of, ending_of, thread_of}
use Rattle.conditions.specs.Numbers.{is_count}
use Rattle.conditions.specs.Grammar.{words}

-- ---- how a token is judged by the token that follows it

-- of a word, where it is the thread of that number or none
abbrev pub word_stands : Before → Option ℕ → Before
word_stands places.Outside thread = places.Word
word_stands _ (Some n) = places.Thread
word_stands _ None = places.Word

abbrev pub after : Before → Tok → Before
after before t =
    if has words t.symbol then word_stands before (thread_of t.spelling)
    else (if has (symbols.BraceClose ∷ []) t.symbol then places.Outside else places.Else)

-- ---- demands

-- a number stands behind the name of a thread and behind no other word
abbrev pub number_follows : Before → Bool → Bool
number_follows places.Thread number = number
number_follows places.Word number = not number
number_follows _ number = true

-- behind a thread it is the number of a value, from 0 to 2^32 - 1; elsewhere it is a value, which outcomes print from 0 on
abbrev pub number_fits : Before → Number → Bool
number_fits places.Thread n = is_count n
number_fits _ n = not n.negative

-- a condition begins with its claim, and in a list a word is a thread or an ending
abbrev pub word_fits : Before → List ℕ → Bool
word_fits places.Outside word = is_some (claim_of word)
word_fits _ word = is_some (thread_of word) || is_some (ending_of word)

abbrev pub own_demand : Names ℕ → Before → Tok → Demands ConditionKind
own_demand names before t =
    if has (symbols.Number ∷ []) t.symbol then demand t.place (Text kinds.Unexpected) (number_fits before (number_of t.spelling))
    else (if has words t.symbol then demand t.place Unknown (word_fits before t.spelling)
    else (if has globals t.symbol then demand t.place Unknown (is_some (found names t.spelling))
    else none))

-- of a token, by what stands before it
abbrev pub token_demand : Names ℕ → Before → Tok → Demands ConditionKind
token_demand names before t =
    if is_last t.symbol then none
    else demand t.place (Text kinds.Unexpected) (number_follows before (has (symbols.Number ∷ []) t.symbol)) ⨾ own_demand names before t

-- each in its turn
abbrev pub token_demands : Names ℕ → Before → List Tok → Demands ConditionKind
token_demands names before [] = none
token_demands names before (t ∷ ts) = token_demand names before t ⨾ token_demands names (after before t) ts

-- what stands before a token behind these
abbrev pub after_all : Before → List Tok → Before
after_all before [] = before
after_all before (t ∷ ts) = after_all (after before t) ts
