-- Instructions that say where the function goes on, or that enter or leave one. Each form gives the place of its word, too.
use Rattle.std.specs.Prelude.{ℕ, List, [], ◌∷◌}
use Rattle.text_forms.specs.declared.symbol.Symbol.{Symbol}
use Rattle.text_forms.specs.declared.symbol.Symbol.TheVariants as symbols
use Rattle.text_forms.specs.Forms.{Form, both, on, made, up_to, ◌◂◌}
use Rattle.ir_lex.specs.TokenForms.{mark}
use Rattle.ir_tree.specs.declared.operands.Operand.{Operand}
use Rattle.ir_tree.specs.declared.operands.Operand.TheVariants as operands
use Rattle.ir_tree.specs.declared.operands.Arguments.{Arguments}
use Rattle.ir_tree.specs.declared.flow.Case.{Case}
use Rattle.ir_tree.specs.declared.flow.ControlFlow.{ControlFlow}
use Rattle.ir_tree.specs.declared.flow.ControlFlow.TheVariants as flows
use Rattle.ir_tree.specs.Lists.{optional, global, bracketed, value, values, dest, exc, keep}

-- BRANCH dest
unfoldable pub branch : Form (ℕ × ControlFlow)
branch = made (λ x. (x.0, flows.Branch x.1)) (both (mark symbols.Branch) dest)

-- BRANCH2 c dest dest
unfoldable pub branch2 : Form (ℕ × ControlFlow)
branch2 = made (λ x. (x.0, flows.Branch2 x.1.0 x.1.1.0 x.1.1.1)) (both (mark symbols.Branch2) (both value (both dest dest)))

-- case = G dest
unfoldable pub switch_case : Form Case
switch_case = made (λ x. record { constant = x.0; destination = x.1 }) (both global dest)

-- SWITCH < T > a dest { case* }, with at most 1,024 cases
unfoldable pub switch : Form (ℕ × ControlFlow)
switch =
    made (λ x. (x.0, flows.Switch x.1.0 x.1.1.0 x.1.1.1.0 x.1.1.1.1))
    (both (mark symbols.Switch) (both bracketed (both value (both (dest ◂ mark symbols.BraceOpen) (up_to 1024 (symbols.BraceClose ∷ []) switch_case)))))

-- CALL < S > f ( value* ) exc? keep?
unfoldable pub call : Form (ℕ × ControlFlow)
call =
    made (λ x. (x.0, flows.Call x.1.0 x.1.1.0 x.1.1.1.0 x.1.1.1.1.0 x.1.1.1.1.1))
    (both (mark symbols.Call) (both bracketed (both value (both values (both (optional symbols.Exc exc) (optional symbols.Keepalive keep))))))

-- TAILCALL < S > f ( value* )
unfoldable pub tailcall : Form (ℕ × ControlFlow)
tailcall = made (λ x. (x.0, flows.Tailcall x.1.0 x.1.1.0 x.1.1.1)) (both (mark symbols.Tailcall) (both bracketed (both value values)))

-- RET value | RET ( value* ): one value alone is a list of one
abbrev pub place_of : Operand → ℕ
place_of (operands.Local n) = n.place
place_of (operands.Global n) = n.place

abbrev pub alone : Operand → Arguments
alone v = record { place = place_of v; values = v ∷ [] }

unfoldable pub ret : Form (ℕ × ControlFlow)
ret = made (λ x. (x.0, flows.Ret x.1)) (both (mark symbols.Ret) (on (symbols.Open ∷ []) values (made alone value)))

-- THROW e
unfoldable pub throw : Form (ℕ × ControlFlow)
throw = made (λ x. (x.0, flows.Throw x.1)) (both (mark symbols.Throw) value)

abbrev pub control_words : List Symbol
control_words = symbols.Branch ∷ symbols.Branch2 ∷ symbols.Switch ∷ symbols.Call ∷ symbols.Tailcall ∷ symbols.Ret ∷ symbols.Throw ∷ []

unfoldable pub control : Form (ℕ × ControlFlow)
control =
    on (symbols.Branch ∷ []) branch
    (on (symbols.Branch2 ∷ []) branch2
    (on (symbols.Switch ∷ []) switch
    (on (symbols.Call ∷ []) call
    (on (symbols.Tailcall ∷ []) tailcall
    (on (symbols.Ret ∷ []) ret
    throw)))))
