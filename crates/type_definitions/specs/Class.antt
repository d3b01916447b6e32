-- The class of a type: the least id of the graph that is the same type.
use Rattle.std.specs.Prelude.{ℕ, zero, suc, Bool, cond, List, length}
use Rattle.type_definitions.specs.declared.definition.TypeDef.{TypeDef}
use Rattle.type_definitions.specs.Same.{same}

-- the least number below n that passes the test; n where none does
abbrev pub least : (ℕ → Bool) → ℕ → ℕ
least test zero = 0
least test (suc n) = cond (test 0) 0 (suc (least (λ k. test (suc k)) n))

abbrev pub class_of : List TypeDef → ℕ → ℕ
class_of graph t = least (λ b. same graph b t) (length graph)
