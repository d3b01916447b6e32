-- Worked examples, to read beside the definitions: the operands of instructions.
use Rattle.std.specs.Prelude.{◌≡◌, refl, ℕ, true, false, List, [], ◌∷◌, Some, None, codes}
use Rattle.mu_base.specs.declared.operators.BinaryOp.TheVariants.{Udiv}
use Rattle.ir_lex.specs.declared.name.Name.{Name}
use Rattle.ir_tree.specs.declared.operands.Operand.{Operand}
use Rattle.ir_tree.specs.declared.operands.Operand.TheVariants.{Local, Global}
use Rattle.ir_tree.specs.declared.operands.Destination.{Destination}
use Rattle.ir_tree.specs.declared.computing.Computation.TheVariants.{Binary}
use Rattle.ir_tree.specs.declared.flow.ControlFlow.TheVariants.{Ret}
use Rattle.ir_tree.specs.declared.common.CommonInst.TheVariants.{FutexWaitTimeout}
use Rattle.ir_tree.specs.declared.code.Op.{Op}
use Rattle.ir_tree.specs.declared.code.Op.TheVariants as ops
use Rattle.check_tables.specs.declared.tables.Tables.{Tables}
use Rattle.checked_code.specs.declared.scopes.Body.{Body}
use Rattle.operand_laws.specs.Asked.{Int64, of_class, of_type, place_of, operands_before, operands_after}

abbrev name : List ℕ → Name
name text = record { place = 0; text = text }

abbrev to : Name → List Operand → Destination
to block values = record { block = block; arguments = record { place = 0; values = values } }

-- %n takes one value of class 3, %x two of class 4, and a handler; the function gives one value of class 3
abbrev body : Body
body =
    record {
      blocks =
          (codes "%n", record { number = 1; takes = 3 ∷ []; has_handler = false })
          ∷ (codes "%x", record { number = 2; takes = 4 ∷ 4 ∷ []; has_handler = true })
          ∷ [];
      gives = 3 ∷ [];
    }

-- %z = UDIV <@t> %y @a EXC (%n (%z) %x (%y @a))
abbrev division : Op
division =
    ops.Computation (Binary Udiv (name (codes "@t")) (Local (name (codes "%y"))) (Global (name (codes "@a")))
    (Some (record {
      normal = to (name (codes "%n")) (Local (name (codes "%z")) ∷ []);
      exceptional = to (name (codes "%x")) (Local (name (codes "%y")) ∷ Global (name (codes "@a")) ∷ []);
    })))

what_a_fault_needs_is_there_before : (p : Tables) → operands_before p body division
    ≡ of_type p (Local (name (codes "%y"))) (name (codes "@t")) ∷ of_type p (Global (name (codes "@a"))) (name (codes "@t"))
    ∷ of_class (Local (name (codes "%y"))) (Some 4) ∷ of_class (Global (name (codes "@a"))) (Some 4) ∷ []
what_a_fault_needs_is_there_before p = refl

its_result_is_there_after : operands_after body division ≡ of_class (Local (name (codes "%z"))) (Some 3) ∷ []
its_result_is_there_after = refl

-- RET (%y %z): no value fits the second, as the function gives one value
one_too_many : (p : Tables) → operands_before p body (ops.ControlFlow (Ret (record { place = 0; values = Local (name (codes "%y")) ∷ Local (name (codes "%z")) ∷ [] })))
    ≡ of_class (Local (name (codes "%y"))) (Some 3) ∷ of_class (Local (name (codes "%z"))) None ∷ []
one_too_many p = refl

-- @uvm.futex.wait_timeout <@t> (%p %v %n)
three_operands : (p : Tables) → operands_before p body (ops.Common (FutexWaitTimeout (name (codes "@t")) (Local (name (codes "%p"))) (Local (name (codes "%v"))) (Local (name (codes "%n")))))
    ≡ place_of p (Local (name (codes "%p"))) (name (codes "@t")) ∷ of_type p (Local (name (codes "%v"))) (name (codes "@t"))
    ∷ record { operand = Local (name (codes "%n")); wanted = Int64 } ∷ []
three_operands p = refl
