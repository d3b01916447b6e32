-- What a text is answered: the bundle that its tokens stand for, or the first fault.
use Rattle.std.specs.Prelude.{◌≡◌, ℕ, List, Option, Result, Ok, Err, ◌↔◌}
use Rattle.text_forms.specs.declared.fault.Fault.{Fault}
use Rattle.text_forms.specs.Reading.{whole}
use Rattle.text_forms.specs.Derives.{Derives}
use Rattle.text_forms.specs.First.{IsFirstFault}
use Rattle.ir_lex.specs.declared.token.Token.{Token}
use Rattle.ir_lex.specs.declared.token.LexFault.{LexFault}
use Rattle.ir_lex.specs.Texts.{Lexes}
use Rattle.ir_lex.specs.Seen.{seen}
use Rattle.ir_lex.specs.Walk.{tokens_from}
use Rattle.ir_tree.specs.declared.items.Item.{Item}
use Rattle.ir_tree.specs.Items.{bundle}
use Rattle.ir_text.specs.declared.fault.TextFault.{TextFault}
use Rattle.ir_text.specs.declared.fault.TextFault.TheVariants as faults
use Rattle.ir_text.specs.declared.fault.TextFault.TheVariants.{At}

abbrev pub Answer : Type 0
Answer = Result (List Item) TextFault

-- a fault of the grammar is the text's
abbrev pub refused : Fault → TextFault
refused f = At f.kind f.place

-- in the words of the grammar: which answer the bytes of a text have. Its tokens are those that the rules of tokens give, up to
-- its end or to its first lexical fault
pub data IsAnswer (bytes : List ℕ) : Answer → Type 0 where
  -- the bundle that the tokens stand for
  bundle_read : (tokens : List Token) (end : Option LexFault) (b : List Item) → Lexes bytes 0 tokens end → Derives bundle (seen bytes tokens end) b → IsAnswer bytes (Ok b)
  -- the first token, or the end, where they stand for none
  fault_first : (tokens : List Token) (end : Option LexFault) (f : Fault) → Lexes bytes 0 tokens end → IsFirstFault bundle (seen bytes tokens end) f → IsAnswer bytes (Err (refused f))

-- the same computed, by reading the tokens that a scanner finds
abbrev pub answer_of : Result (List Item) Fault → Answer
answer_of (Ok b) = Ok b
answer_of (Err f) = Err (refused f)

abbrev pub text_answer : List ℕ → Answer
text_answer bytes = answer_of (whole bundle (tokens_from bytes 0))

-- the two say the same, so a text has one answer
abbrev pub AnswerIsOne : Type 0
AnswerIsOne = (bytes : List ℕ) (r : Answer) → IsAnswer bytes r ↔ (text_answer bytes ≡ r)

-- what was returned is this answer, unless memory ran out
abbrev pub Answers : Answer → Answer → Type 0
Answers (Ok b) answer = answer ≡ Ok b
Answers (Err faults.Memory) answer = Unit {0}
Answers (Err (faults.At kind place)) answer = answer ≡ Err (At kind place)

-- what was returned, unless memory ran out, is such an answer
abbrev pub IfAnswer : Answer → (Answer → Type 0) → Type 0
IfAnswer (Ok b) P = P (Ok b)
IfAnswer (Err faults.Memory) P = Unit {0}
IfAnswer (Err (faults.At kind place)) P = P (Err (At kind place))
