-- How operations and memory orders are spelled: by the words that stand for them.
use Rattle.std.specs.Prelude.{ℕ, List, [], ◌∷◌, if◌then◌else◌}
use denote.Enum.Bare.{sameb}
use denote.Enum.Declared.{Declared}
use Rattle.text_forms.specs.declared.symbol.Symbol.{Symbol}
use Rattle.mu_base.specs.declared.operators.BinaryOp.{BinaryOp}
use Rattle.mu_base.specs.declared.operators.CompareOp.{CompareOp}
use Rattle.mu_base.specs.declared.operators.ConvertOp.{ConvertOp}
use Rattle.mu_base.specs.declared.operators.UpdateOp.{UpdateOp}
use Rattle.mu_base.specs.declared.order.Order.{Order}
use Rattle.mu_base.specs.contracts.operators.BinaryOp.{the_type as binary_type}
use Rattle.mu_base.specs.contracts.operators.CompareOp.{the_type as compare_type}
use Rattle.mu_base.specs.contracts.operators.ConvertOp.{the_type as convert_type}
use Rattle.mu_base.specs.contracts.operators.UpdateOp.{the_type as update_type}
use Rattle.mu_base.specs.contracts.order.Order.{the_type as order_type}
use Rattle.ir_tree.specs.Words.{binary_words, compare_words, convert_words, update_words, order_words}
use Rattle.ir_print.specs.Spellings.{spelling}

-- the spelling of the first of these words that stands for it, and none where no word does
abbrev pub word_for : (T : Declared) → List (Symbol × T.D) → T.D → List ℕ
word_for T [] a = []
word_for T (w ∷ ws) a = if sameb T w.1 a then spelling w.0 else word_for T ws a

abbrev pub binary_text : BinaryOp → List ℕ
binary_text op = word_for binary_type binary_words op

abbrev pub compare_text : CompareOp → List ℕ
compare_text op = word_for compare_type compare_words op

abbrev pub convert_text : ConvertOp → List ℕ
convert_text op = word_for convert_type convert_words op

abbrev pub update_text : UpdateOp → List ℕ
update_text op = word_for update_type update_words op

abbrev pub order_text : Order → List ℕ
order_text order = word_for order_type order_words order
