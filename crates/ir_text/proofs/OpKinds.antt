-- The kind of an instruction, its words, and how it is read.
use Rattle.std.proofs.Common.{◌≡◌, ℕ, true, false, List, [], ◌∷◌, ◌++◌, Option, Some, None, refl, sym, ◌∙◌}
use Rattle.std.specs.Prelude.{if◌then◌else◌, is_some, ◌||◌}
use denote.Enum.Bare.{same_false, false_same}
use Rattle.text_forms.specs.declared.symbol.Symbol.{Symbol}
use Rattle.text_forms.specs.declared.symbol.Symbol.TheVariants as symbols
use Rattle.text_forms.specs.contracts.symbol.Symbol.{the_type}
use Rattle.text_forms.specs.Tokens.{Tok, same, has, symbol_ahead}
use Rattle.text_forms.specs.Forms.{Form, on, left_out}
use Rattle.text_forms.specs.Reading.{read}
use Rattle.text_forms.specs.Lemmas.Tests.{has_append}
use Rattle.ir_tree.specs.declared.common.CommonInst.TheVariants as commons
use Rattle.ir_tree.specs.declared.code.Op.{Op}
use Rattle.ir_tree.specs.declared.code.Op.TheVariants as ops
use Rattle.ir_tree.specs.Instructions.{left_out_insts, op}
use Rattle.ir_text.specs.declared.kinds.OpKind.{OpKind}
use Rattle.ir_text.specs.OpKinds.{op_kinds, kind_among, op_kind, of_kind}
use Rattle.ir_text.proofs.Choices.{IsNotAmong, has_none}

-- ---- words

abbrev pub words_among : List (List Symbol × OpKind) → List Symbol
words_among [] = []
words_among (x ∷ xs) = x.0 ++ words_among xs

abbrev pub op_words : List Symbol
op_words = words_among op_kinds

some_among : (xs : List (List Symbol × OpKind)) (s : Symbol) → has (words_among xs) s ≡ is_some (kind_among xs s)
some_among [] s = refl
some_among (x ∷ xs) s =
    rw (has_append x.0 (words_among xs) s, some_among xs s)
    (elim (has x.0 s) as (λ b. (b || is_some (kind_among xs s)) ≡ is_some (if b then Some x.1 else kind_among xs s)) [ true ↦ refl | false ↦ refl ])

-- the words that have a kind
has_kind : (s : Symbol) → has op_words s ≡ is_some (op_kind s)
unfolding op_kind
has_kind s = some_among op_kinds s

none_is : {A : Type 0} (o : Option A) → is_some o ≡ false → None ≡ o
none_is None e = refl
none_is (Some a) e = cc

pub no_kind : (s : Symbol) → IsNotAmong op_words s → None ≡ op_kind s
no_kind s others = none_is (op_kind s) (sym (has_kind s) ∙ has_none op_words s others)

-- where no bracket stands, an instruction begins with its word
pub begins_with_word : (s : Symbol) → same s symbols.SquareOpen ≡ false → has (symbols.SquareOpen ∷ op_words) s ≡ is_some (op_kind s)
begins_with_word s e = rw (false_same the_type tt symbols.SquareOpen s (λ is. same_false the_type s symbols.SquareOpen e (sym is))) (has_kind s)

-- ---- reading

-- the instructions of one kind, or else the words that are left out
abbrev pub of_some : Option OpKind → Form (ℕ × Op)
of_some (Some k) = of_kind k
of_some None = left_out left_out_insts (0, ops.Common commons.ThreadExit)

-- a choice between the kinds
abbrev pub choice_among : List (List Symbol × OpKind) → Form (ℕ × Op)
choice_among [] = of_some None
choice_among (x ∷ xs) = on x.0 (of_kind x.1) (choice_among xs)

read_among : (xs : List (List Symbol × OpKind)) (ts : List Tok) (s : Symbol) → symbol_ahead ts ≡ Some s → read (choice_among xs) ts ≡ read (of_some (kind_among xs s)) ts
read_among [] ts s ahead = refl
read_among (x ∷ xs) ts s ahead =
    rw (ahead, read_among xs ts s ahead)
    (elim (has x.0 s) as (λ b. (if b then read (of_kind x.1) ts else read (of_some (kind_among xs s)) ts) ≡ read (of_some (if b then Some x.1 else kind_among xs s)) ts) [ true ↦ refl | false ↦ refl ])

-- an instruction is read as its word says
pub read_op : (ts : List Tok) (s : Symbol) → symbol_ahead ts ≡ Some s → read op ts ≡ read (of_some (op_kind s)) ts
unfolding op op_kind
read_op ts s ahead = read_among op_kinds ts s ahead
