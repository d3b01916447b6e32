-- What the worked examples are written with: the canonical text of what a text means.
use Rattle.std.specs.Prelude.{ℕ, List, [], Result, Ok, Err}
use Rattle.text_forms.specs.declared.fault.Fault.{Fault}
use Rattle.ir_tree.specs.Instructions.{op}
use Rattle.ir_tree.specs.Types.{type_form, literal}
use Rattle.ir_tree.specs.Items.{bundle}
use Rattle.ir_tree.specs.Samples.{meaning}
use Rattle.ir_print.specs.Words.{text}
use Rattle.ir_print.specs.Types.{type_form_words, literal_words}
use Rattle.ir_print.specs.Instructions.{op_words}
use Rattle.ir_print.specs.Items.{bundle_text}

abbrev pub rewritten : {A : Type 0} → (A → List ℕ) → Result A Fault → Result (List ℕ) Fault
rewritten f (Ok a) = Ok (f a)
rewritten f (Err e) = Err e

-- the text of the type, constant, instruction or bundle that a text means
abbrev pub type_again : List ℕ → Result (List ℕ) Fault
type_again t = rewritten (λ x. text (type_form_words [] x)) (meaning type_form t)

abbrev pub literal_again : List ℕ → Result (List ℕ) Fault
literal_again t = rewritten (λ x. text (literal_words [] x)) (meaning literal t)

abbrev pub op_again : List ℕ → Result (List ℕ) Fault
op_again t = rewritten (λ x. text (op_words [] x.1)) (meaning op t)

abbrev pub bundle_again : List ℕ → Result (List ℕ) Fault
bundle_again t = rewritten bundle_text (meaning bundle t)
