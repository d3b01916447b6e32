-- What the worked examples are written with.
use Rattle.std.specs.Prelude.{ℕ, false, List, Option, Some, None, Result, Ok, Err}
use Rattle.text_forms.specs.declared.fault.FaultKind.{FaultKind}
use Rattle.text_forms.specs.declared.fault.Fault.{Fault}
use Rattle.text_forms.specs.Forms.{Form}
use Rattle.text_forms.specs.Reading.{whole}
use Rattle.ir_lex.specs.declared.name.Name.{Name}
use Rattle.ir_lex.specs.declared.name.Numeral.{Numeral}
use Rattle.ir_lex.specs.Walk.{tokens_from}
use Rattle.ir_tree.specs.Types.{type_form}
use Rattle.ir_tree.specs.Bodies.{body}
use Rattle.ir_tree.specs.Items.{item}
use Rattle.ir_tree.specs.declared.operands.Operand.{Operand}
use Rattle.ir_tree.specs.declared.operands.Operand.TheVariants as operands
use Rattle.ir_tree.specs.declared.operands.Arguments.{Arguments}
use Rattle.ir_tree.specs.declared.operands.Destination.{Destination}
use Rattle.ir_tree.specs.declared.operands.ExceptionClause.{ExceptionClause}

-- the name with these bytes, at this place
abbrev pub named : ℕ → List ℕ → Name
named place text = record { place = place; text = text }

-- the number n, at this place
abbrev pub plain : ℕ → ℕ → Numeral
plain place n = record { place = place; number = record { negative = false; magnitude = n } }

-- what the form means that the text begins with, or the fault
abbrev pub meaning : {A : Type 0} → Form A → List ℕ → Result A Fault
meaning f text = whole f (tokens_from text 0)

-- the fault alone
abbrev pub fault_of : {A : Type 0} → Result A Fault → Option Fault
fault_of (Ok a) = None
fault_of (Err e) = Some e

abbrev pub fault_in_type : List ℕ → Option Fault
fault_in_type text = fault_of (meaning type_form text)

abbrev pub fault_in_body : List ℕ → Option Fault
fault_in_body text = fault_of (meaning body text)

abbrev pub fault_in_item : List ℕ → Option Fault
fault_in_item text = fault_of (meaning item text)

abbrev pub stands : FaultKind → ℕ → Option Fault
stands k p = Some (record { kind = k; place = p })

-- ---- operands, lists and clauses

abbrev pub local_at : ℕ → List ℕ → Operand
local_at place text = operands.Local (named place text)

abbrev pub global_at : ℕ → List ℕ → Operand
global_at place text = operands.Global (named place text)

abbrev pub listed : ℕ → List Operand → Arguments
listed place values = record { place = place; values = values }

abbrev pub goes : ℕ → List ℕ → ℕ → List Operand → Destination
goes place block bracket values = record { block = named place block; arguments = listed bracket values }

abbrev pub exc_to : Destination → Destination → Option ExceptionClause
exc_to normal exceptional = Some (record { normal = normal; exceptional = exceptional })
