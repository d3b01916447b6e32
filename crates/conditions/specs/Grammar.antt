-- The text of conditions as it is written, over the names of the globals that outcomes show, each with its number.
--
--   conditions = condition+
--   condition  = word { list+ }
--   list       = ( atom* )
--   atom       = word N = value | word | G = value
--   value      = N | NULL
--
-- Which words and names may stand at a place is what their demands say.
use Rattle.std.specs.Prelude.{ℕ, List, [], ◌∷◌, Option, Some, None}
use Rattle.std.specs.Option.{unwrap_or}
use Rattle.text_forms.specs.declared.symbol.Symbol.{Symbol}
use Rattle.text_forms.specs.declared.symbol.Symbol.TheVariants as symbols
use Rattle.text_forms.specs.Tokens.{Tok}
use Rattle.text_forms.specs.Forms.{Form, token, nothing, both, on, made, until, ◌▸◌}
use Rattle.name_scopes.specs.Names.{Names, found}
use Rattle.ir_lex.specs.declared.name.Numeral.{Numeral}
use Rattle.ir_lex.specs.TokenForms.{mark, numeral}
use Rattle.ir_tree.specs.Lists.{globals}
use Rattle.conditions.specs.declared.tree.Claim.{Claim}
use Rattle.conditions.specs.declared.tree.Claim.TheVariants as claims
use Rattle.conditions.specs.declared.tree.Value.{Value}
use Rattle.conditions.specs.declared.tree.Value.TheVariants as values
use Rattle.conditions.specs.declared.tree.Ending.TheVariants as endings
use Rattle.conditions.specs.declared.tree.Atom.{Atom}
use Rattle.conditions.specs.declared.tree.Atom.TheVariants as atoms
use Rattle.conditions.specs.declared.tree.Condition.{Condition}
use Rattle.conditions.specs.declared.words.Word.{Word}
use Rattle.conditions.specs.Words.{claim_of, ending_of, thread_of}
use Rattle.conditions.specs.Numbers.{count_in}

-- ---- what words and names mean. One that is refused means the first of its sort

abbrev pub claim_in : List ℕ → Claim
claim_in word = unwrap_or (claim_of word) claims.Exists

abbrev pub global_in : Names ℕ → List ℕ → ℕ
global_in names name = unwrap_or (found names name) 0

abbrev pub word_in : List ℕ → Word
word_in word = record { thread = unwrap_or (thread_of word) 0; ending = unwrap_or (ending_of word) endings.Done }

-- a word alone is an ending, and one with a number and a value is a thread
abbrev pub atom_of : Word → Option (ℕ × Value) → Atom
atom_of w None = atoms.Ends w.ending
atom_of w (Some x) = atoms.Returned w.thread x.0 x.1

-- ---- the grammar

-- x+, up to and with one of these symbols
abbrev pub some_of : {A : Type 0} → List Symbol → Form A → Form (List A)
some_of xs f = made (λ x. x.0 ∷ x.1) (both f (until xs f))

-- words that stand for threads and endings: `stop` is a word of client scripts too
abbrev pub words : List Symbol
words = symbols.Other ∷ symbols.Stop ∷ []

-- value = N | NULL
unfoldable pub value : Form Value
value = on (symbols.Null ∷ []) (made (λ _. values.Null) (mark symbols.Null)) (made (λ (n : Numeral). values.Number n.number.magnitude) numeral)

-- N = value
unfoldable pub told : Form (ℕ × Value)
told = both (made count_in numeral) (mark symbols.Equals ▸ value)

-- N = value, or nothing
unfoldable pub telling : Form (Option (ℕ × Value))
telling = on (symbols.Number ∷ []) (made Some told) (nothing None)

unfoldable pub word : Form Word
word = made (λ (t : Tok). word_in t.spelling) (token words)

-- word N = value | word
unfoldable pub worded : Form Atom
worded = made (λ x. atom_of x.0 x.1) (both word telling)

-- G, which means the number of the global
unfoldable pub global : Names ℕ → Form ℕ
global names = made (λ (t : Tok). global_in names t.spelling) (token globals)

-- G = value
unfoldable pub last : Names ℕ → Form Atom
last names = made (λ x. atoms.Final x.0 x.1) (both (global names) (mark symbols.Equals ▸ value))

-- atom = word N = value | word | G = value
unfoldable pub atom : Names ℕ → Form Atom
atom names = on globals (last names) worded

-- list = ( atom* )
unfoldable pub list : Names ℕ → Form (List Atom)
list names = mark symbols.Open ▸ until (symbols.Close ∷ []) (atom names)

-- list+ }
unfoldable pub lists : Names ℕ → Form (List (List Atom))
lists names = some_of (symbols.BraceClose ∷ []) (list names)

unfoldable pub claim : Form Claim
claim = made (λ (t : Tok). claim_in t.spelling) (token (symbols.Other ∷ []))

-- condition = word { list+ }
unfoldable pub condition : Names ℕ → Form Condition
condition names = made (λ x. record { claim = x.0; lists = x.1 }) (both claim (mark symbols.BraceOpen ▸ lists names))

-- the conditions up to the end of the text
unfoldable pub conditions : Names ℕ → Form (List Condition)
conditions names = some_of (symbols.End ∷ []) (condition names)
