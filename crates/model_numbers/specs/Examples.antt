-- Worked examples: a bundle that meets its demands, by the numbers of its code.
use Rattle.std.specs.Prelude.{◌≡◌, refl, ℕ, false, List, [], ◌∷◌, Some, None, codes}
use Rattle.demands.specs.Demands.{first_unmet}
use Rattle.ir_lex.specs.declared.name.Name.{Name}
use Rattle.ir_lex.specs.declared.name.Numeral.{Numeral}
use Rattle.ir_tree.specs.declared.definitions.TypeForm.TheVariants as types
use Rattle.ir_tree.specs.declared.definitions.Literal.TheVariants as literals
use Rattle.ir_tree.specs.declared.operands.Operand.TheVariants.{Local, Global}
use Rattle.mu_base.specs.declared.operators.BinaryOp.TheVariants.{Add}
use Rattle.ir_tree.specs.declared.computing.Computation.TheVariants.{Binary}
use Rattle.ir_tree.specs.declared.flow.ControlFlow.TheVariants.{Ret}
use Rattle.ir_tree.specs.declared.code.Op.TheVariants as ops
use Rattle.ir_tree.specs.declared.code.Block.{Block}
use Rattle.ir_tree.specs.declared.items.Item.{Item}
use Rattle.ir_tree.specs.declared.items.Item.TheVariants as items
use Rattle.type_definitions.specs.Same.{alike}
use Rattle.type_definitions.specs.Parts.{leads}
use Rattle.type_definitions.specs.Leaves.{leaves_to}
use Rattle.mu_values.specs.declared.scalars.Scalar.TheVariants.{Int}
use Rattle.bundle_names.specs.Naming.{name_demands}
use Rattle.checked_code.specs.ConstantValues.{values_to}
use Rattle.checked_code.specs.Entries.{tables_of}
use Rattle.checked_code.specs.Functions.{body_of}
use Rattle.checked_code.specs.Checking.{check_demands}
use Rattle.checked_code.specs.Operands.{argument_demands}
use Rattle.checked_code.specs.Instructions.{inst_demands}
use Rattle.mu_model.specs.Acts.{Gives, Returns}
use Rattle.frames.specs.Chains.{nothing_kept}
use Rattle.model_numbers.specs.Numbered.{numbered}

-- .typedef @t = int<64> .funcsig @s = () -> (@t) .const @a <@t> = 40 .funcdecl @d <@s> .funcdef @main VERSION %v <@s> { .. }
abbrev name : List ℕ → Name
name text = record { place = 0; text = text }

abbrev numeral : ℕ → Numeral
numeral magnitude = record { place = 0; number = record { negative = false; magnitude = magnitude } }

-- %e(): %z = ADD <@t> @a @a RET (%z)
abbrev block : Block
block =
    record {
      head = record { name = name (codes "%e"); parameters = []; handler = None };
      insts =
          record { place = 0; results = name (codes "%z") ∷ []; label = None; op = ops.Computation (Binary Add (name (codes "@t")) (Global (name (codes "@a"))) (Global (name (codes "@a"))) None) }
          ∷ record { place = 0; results = []; label = None; op = ops.ControlFlow (Ret (record { place = 0; values = Local (name (codes "%z")) ∷ [] })) }
          ∷ [];
    }

abbrev sample : List Item
sample =
    items.Typedef (record { place = 0; name = name (codes "@t"); form = types.Int (numeral 64) })
    ∷ items.Funcsig (record { place = 0; name = name (codes "@s"); takes = []; gives = name (codes "@t") ∷ [] })
    ∷ items.Const (record { place = 0; name = name (codes "@a"); of_type = name (codes "@t"); literal = literals.Number (numeral 40) })
    ∷ items.Funcdecl (record { place = 0; name = name (codes "@d"); signature = name (codes "@s") })
    ∷ items.Funcdef (record { place = 0; name = name (codes "@main"); version = name (codes "%v"); signature = name (codes "@s"); blocks = block ∷ [] })
    ∷ []

its_names_are_defined : first_unmet (name_demands sample) ≡ None
its_names_are_defined = refl

it_is_accepted : first_unmet (check_demands sample) ≡ None
unfolding tables_of alike check_demands leads leaves_to inst_demands body_of argument_demands
it_is_accepted = refl

-- 40 and 40 is 80, which goes on to the next place, and is given back as a value of the first type
adds : (numbered sample).doing 0 0 [] ≡ Some (record { act = Some (Gives ((Int 64 80 ∷ []) ∷ [])); exceptional = Some None; kept = Some nothing_kept })
unfolding tables_of alike values_to
adds = refl

goes_on : (numbered sample).going_on 0 0 ((Int 64 80 ∷ []) ∷ []) ≡ Some None
unfolding tables_of
goes_on = refl

returns : (numbered sample).doing 0 1 ((Int 64 80 ∷ []) ∷ [])
    ≡ Some (record { act = Some (Returns (record { types = 0 ∷ []; values = (Int 64 80 ∷ []) ∷ [] })); exceptional = Some None; kept = Some nothing_kept })
unfolding tables_of alike
returns = refl

-- function 0 is only declared, function 1 begins with block 0, and there is no function 2
only_declared : (numbered sample).body 0 ≡ Some None
unfolding tables_of
only_declared = refl

begins : (numbered sample).body 1 ≡ Some (Some 0)
unfolding tables_of
begins = refl

no_function : (numbered sample).body 2 ≡ None
unfolding tables_of
no_function = refl
