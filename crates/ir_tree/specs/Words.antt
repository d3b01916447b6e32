-- Words that stand for something by themselves.
use Rattle.std.specs.Prelude.{ℕ, List, [], ◌∷◌}
use Rattle.text_forms.specs.declared.symbol.Symbol.{Symbol}
use Rattle.text_forms.specs.declared.symbol.Symbol.TheVariants as symbols
use Rattle.text_forms.specs.Forms.{Form, never, on, made}
use Rattle.ir_lex.specs.TokenForms.{mark}
use Rattle.mu_base.specs.declared.operators.BinaryOp.{BinaryOp}
use Rattle.mu_base.specs.declared.operators.BinaryOp.TheVariants as binaries
use Rattle.mu_base.specs.declared.operators.CompareOp.{CompareOp}
use Rattle.mu_base.specs.declared.operators.CompareOp.TheVariants as comparisons
use Rattle.mu_base.specs.declared.operators.ConvertOp.{ConvertOp}
use Rattle.mu_base.specs.declared.operators.ConvertOp.TheVariants as conversions
use Rattle.mu_base.specs.declared.operators.UpdateOp.{UpdateOp}
use Rattle.mu_base.specs.declared.operators.UpdateOp.TheVariants as updates
use Rattle.mu_base.specs.declared.order.Order.{Order}
use Rattle.mu_base.specs.declared.order.Order.TheVariants as orders
use Rattle.ir_tree.specs.declared.order.WrittenOrder.{WrittenOrder}

-- one of these words: its place, and what it stands for
abbrev pub one_of : {A : Type 0} → List (Symbol × A) → Form (ℕ × A)
one_of [] = never
one_of (w ∷ ws) = on (w.0 ∷ []) (made (λ place. (place, w.1)) (mark w.0)) (one_of ws)

abbrev pub words_of : {A : Type 0} → List (Symbol × A) → List Symbol
words_of [] = []
words_of (w ∷ ws) = w.0 ∷ words_of ws

-- ADD SUB MUL SDIV SREM UDIV UREM SHL LSHR ASHR AND OR XOR
abbrev pub binary_words : List (Symbol × BinaryOp)
binary_words =
    (symbols.Add, binaries.Add) ∷ (symbols.Sub, binaries.Sub) ∷ (symbols.Mul, binaries.Mul) ∷ (symbols.Sdiv, binaries.Sdiv) ∷ (symbols.Srem, binaries.Srem)
    ∷ (symbols.Udiv, binaries.Udiv) ∷ (symbols.Urem, binaries.Urem) ∷ (symbols.Shl, binaries.Shl) ∷ (symbols.Lshr, binaries.Lshr) ∷ (symbols.Ashr, binaries.Ashr)
    ∷ (symbols.And, binaries.And) ∷ (symbols.Or, binaries.Or) ∷ (symbols.Xor, binaries.Xor) ∷ []

-- EQ NE SLT SLE SGT SGE ULT ULE UGT UGE
abbrev pub compare_words : List (Symbol × CompareOp)
compare_words =
    (symbols.Eq, comparisons.Eq) ∷ (symbols.Ne, comparisons.Ne) ∷ (symbols.Slt, comparisons.Slt) ∷ (symbols.Sle, comparisons.Sle) ∷ (symbols.Sgt, comparisons.Sgt)
    ∷ (symbols.Sge, comparisons.Sge) ∷ (symbols.Ult, comparisons.Ult) ∷ (symbols.Ule, comparisons.Ule) ∷ (symbols.Ugt, comparisons.Ugt) ∷ (symbols.Uge, comparisons.Uge) ∷ []

-- TRUNC ZEXT SEXT
abbrev pub convert_words : List (Symbol × ConvertOp)
convert_words = (symbols.Trunc, conversions.Trunc) ∷ (symbols.Zext, conversions.Zext) ∷ (symbols.Sext, conversions.Sext) ∷ []

-- XCHG ADD SUB AND NAND OR XOR MAX MIN UMAX UMIN
abbrev pub update_words : List (Symbol × UpdateOp)
update_words =
    (symbols.Xchg, updates.Xchg) ∷ (symbols.Add, updates.Add) ∷ (symbols.Sub, updates.Sub) ∷ (symbols.And, updates.And) ∷ (symbols.Nand, updates.Nand) ∷ (symbols.Or, updates.Or)
    ∷ (symbols.Xor, updates.Xor) ∷ (symbols.Max, updates.Max) ∷ (symbols.Min, updates.Min) ∷ (symbols.Umax, updates.Umax) ∷ (symbols.Umin, updates.Umin) ∷ []

-- NOT_ATOMIC RELAXED CONSUME ACQUIRE RELEASE ACQ_REL SEQ_CST
abbrev pub order_words : List (Symbol × Order)
order_words =
    (symbols.NotAtomic, orders.NotAtomic) ∷ (symbols.Relaxed, orders.Relaxed) ∷ (symbols.Consume, orders.Consume) ∷ (symbols.Acquire, orders.Acquire)
    ∷ (symbols.Release, orders.Release) ∷ (symbols.AcqRel, orders.AcqRel) ∷ (symbols.SeqCst, orders.SeqCst) ∷ []

-- ord: the grammar has each order everywhere, and a later demand says which of them an instruction may have
unfoldable pub order : Form WrittenOrder
order = made (λ x. record { place = x.0; order = x.1 }) (one_of order_words)
