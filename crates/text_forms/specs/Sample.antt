-- A small grammar with each kind of form. `Examples` has texts of it.
use Rattle.std.specs.Prelude.{refl, ℕ, zero, suc, sum, Bool, true, false, List, [], ◌∷◌, Option, Some, None, Result, Ok, Err, nat_le, ◌+◌, ◌⊎◌}
use mathlib.Core.Logic.{inl, inr}
use Rattle.text_forms.specs.declared.symbol.Symbol.{Symbol}
use Rattle.text_forms.specs.declared.symbol.Symbol.TheVariants as symbols
use Rattle.text_forms.specs.declared.fault.FaultKind.{FaultKind}
use Rattle.text_forms.specs.declared.fault.Fault.{Fault}
use Rattle.text_forms.specs.Tokens.{Tok}
use Rattle.text_forms.specs.Forms.{Form, token, nothing, both, on, made, left_out, lines, until, within, up_to, up_to_from, three_flags, ◌▸◌, ◌◂◌}
use Rattle.text_forms.specs.Reading.{whole}
use Rattle.text_forms.specs.Texts.{IsGrammar}

abbrev pub one : Symbol → Form Tok
one s = token (s ∷ [])

-- ( L* ), at most two
abbrev pub names : Form (List Tok)
names = one symbols.Open ▸ up_to 2 (symbols.Close ∷ []) (one symbols.Local)

-- an instruction's word: a list may be left out behind the second
pub data Op : Type 0 where
  ret : List Tok → Op
  thread_exit : Op
  fadd : Op

-- op = RET ( L* ) | COMMINST @uvm.thread_exit ()?, and FADD is left out
abbrev pub op : Form Op
op =
    on (symbols.Ret ∷ []) (made ret (one symbols.Ret ▸ names))
    (on (symbols.Comminst ∷ []) (made (λ _. thread_exit) (one symbols.Comminst ▸ on (symbols.UvmThreadExit ∷ []) (one symbols.UvmThreadExit) (left_out (symbols.Global ∷ []) (record { symbol = symbols.Global; place = 0; spelling = [] }))))
    (left_out (symbols.Fadd ∷ []) fadd))

-- a line of a body: an instruction with its results, the head of a block, or the empty list of the instruction before it
pub data Line : Type 0 where
  inst : List Tok → Op → Line
  head : Tok → List Tok → Line
  list : Line

-- how many instructions the block has, how many blocks there are, and whether `( )` may still belong to the last instruction
pub record Body : Type 0 where
  pub insts : ℕ
  pub blocks : ℕ
  pub open_list : Bool

abbrev pub leaves_out : Op → Bool
leaves_out (ret ns) = false
leaves_out thread_exit = true
leaves_out fadd = false

abbrev pub step : Body → Line → Body
step b (inst rs o) = record b { insts = suc b.insts; open_list = leaves_out o }
step b (head n ps) = record { insts = 0; blocks = suc b.blocks; open_list = false }
step b list = record b { open_list = false }

-- at most two instructions in a block, and two blocks
abbrev pub flags : Body → Bool × Bool × Bool
flags b = (nat_le 2 b.insts, nat_le 2 b.blocks, b.open_list)

-- = op
abbrev pub result : Form Op
result = one symbols.Equals ▸ op

-- params? :
abbrev pub head_rest : Form (List Tok)
head_rest = on (symbols.Open ∷ []) names (nothing []) ◂ one symbols.Colon

-- L = op | L params? : | ( L* ) = op | op, where `( )` may also be the list of the instruction before
abbrev pub line_of : Tok → Op ⊎ List Tok → Line
line_of n (inl o) = inst (n ∷ []) o
line_of n (inr ps) = head n ps

abbrev pub named : Bool → Bool → Form Line
named full crowded =
    made (λ x. line_of x.0 x.1) (both (one symbols.Local) (on (symbols.Equals ∷ []) (made inl (within result full)) (made inr (within head_rest crowded))))

-- ( L* ) = op, whole and behind its first two tokens
abbrev pub results : Form Line
results = made (λ x. inst x.0 x.1) (both (one symbols.Open ▸ up_to 2 (symbols.Close ∷ []) (one symbols.Local)) result)

abbrev pub more_results : Form Line
more_results = made (λ x. inst (x.0 ∷ x.1.0) x.1.1) (both (one symbols.Local) (both (up_to_from 1 2 (symbols.Close ∷ []) (one symbols.Local)) result))

abbrev pub bracketed : Bool → Bool → Form Line
bracketed full false = within results full
bracketed full true =
    one symbols.Open ▸ on (symbols.Close ∷ []) (one symbols.Close ▸ on (symbols.Equals ∷ []) (made (inst []) (within result full)) (nothing list)) (within more_results full)

abbrev pub line : Bool × Bool × Bool → Form Line
line (full, crowded, open_list) =
    on (symbols.Local ∷ []) (named full crowded)
    (on (symbols.Open ∷ []) (bracketed full open_list) (within (made (inst []) op) full))

abbrev pub begun : Body
begun = record { insts = 0; blocks = 1; open_list = false }

-- { head line* }
abbrev pub body : Form (Line × List Line)
body = one symbols.BraceOpen ▸ both (made (λ x. head x.0 x.1) (both (one symbols.Local) head_rest)) (made (λ x. x.0) (lines three_flags flags step line (symbols.BraceClose ∷ []) (one symbols.BraceClose) begun))

-- item = .funcdef body | .typedef type, and .expose is left out; type = int, and double is left out
pub data Item : Type 0 where
  funcdef : Line × List Line → Item
  typedef : Item

abbrev pub item : Form Item
item =
    on (symbols.DotFuncdef ∷ []) (made funcdef (one symbols.DotFuncdef ▸ body))
    (on (symbols.DotTypedef ∷ []) (made (λ _. typedef) (one symbols.DotTypedef ▸ on (symbols.Int ∷ []) (one symbols.Int) (left_out (symbols.Double ∷ []) (record { symbol = symbols.Double; place = 0; spelling = [] }))))
    (left_out (symbols.DotExpose ∷ []) typedef))

-- at most two items
abbrev pub text : Form (List Item)
text = up_to 2 (symbols.End ∷ []) item

pub is_grammar : IsGrammar text
is_grammar = record { decided = refl; decided_in_full = refl; some = refl; own = refl; ends = refl }

-- tokens at the places 0, 1, 2 and so on
abbrev pub tokens_at : ℕ → List Symbol → List Tok
tokens_at n [] = []
tokens_at n (s ∷ ss) = record { symbol = s; place = n; spelling = [] } ∷ tokens_at (n + 1) ss

-- the fault of a text of these, if it has one
abbrev pub fault_in : {A : Type 0} → Result A Fault → Option Fault
fault_in (Ok a) = None
fault_in (Err e) = Some e

abbrev pub fault : List Symbol → Option Fault
fault ss = fault_in (whole text (tokens_at 0 ss))

abbrev pub stands : FaultKind → ℕ → Option Fault
stands k p = Some (record { kind = k; place = p })

-- ---- nesting: a list of lists, down to the given depth

abbrev pub nested : ℕ → Form ℕ
nested zero = made (λ _. 1) (one symbols.Number)
nested (suc n) = on (symbols.BraceOpen ∷ []) (made sum (one symbols.BraceOpen ▸ until (symbols.BraceClose ∷ []) (nested n))) (made (λ _. 1) (one symbols.Number))

abbrev pub nested_fault : List Symbol → Option Fault
nested_fault ss = fault_in (whole (nested 2) (tokens_at 0 ss))
