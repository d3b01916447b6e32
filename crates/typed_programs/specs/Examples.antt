-- Worked examples, to read beside the definitions: the places of a bundle that meets its demands.
use Rattle.std.specs.Prelude.{◌≡◌, ◌<◌, refl, ℕ, false, List, [], ◌∷◌, Some, None, codes}
use Rattle.demands.specs.Demands.{first_unmet}
use Rattle.ir_lex.specs.declared.name.Name.{Name}
use Rattle.ir_lex.specs.declared.name.Numeral.{Numeral}
use Rattle.ir_tree.specs.declared.definitions.TypeForm.TheVariants as types
use Rattle.ir_tree.specs.declared.definitions.Literal.TheVariants as literals
use Rattle.ir_tree.specs.declared.operands.Operand.{Operand}
use Rattle.ir_tree.specs.declared.operands.Operand.TheVariants.{Local, Global}
use Rattle.ir_tree.specs.declared.operands.Destination.{Destination}
use Rattle.mu_base.specs.declared.operators.BinaryOp.TheVariants.{Udiv}
use Rattle.ir_tree.specs.declared.computing.Computation.TheVariants.{Binary}
use Rattle.ir_tree.specs.declared.flow.ControlFlow.TheVariants.{Ret}
use Rattle.ir_tree.specs.declared.code.Op.TheVariants as ops
use Rattle.ir_tree.specs.declared.code.Inst.{Inst}
use Rattle.ir_tree.specs.declared.code.Block.{Block}
use Rattle.ir_tree.specs.declared.items.Item.{Item}
use Rattle.ir_tree.specs.declared.items.Item.TheVariants as items
use Rattle.type_definitions.specs.Same.{alike}
use Rattle.type_definitions.specs.Parts.{leads}
use Rattle.type_definitions.specs.Leaves.{leaves_to}
use Rattle.check_tables.specs.Types.{ref_void}
use Rattle.bundle_names.specs.Naming.{name_demands}
use Rattle.checked_code.specs.Entries.{tables_of}
use Rattle.checked_code.specs.Functions.{body_of}
use Rattle.checked_code.specs.Checking.{bundle_tables, check_demands}
use Rattle.checked_code.specs.Operands.{argument_demands}
use Rattle.checked_code.specs.Instructions.{inst_demands}
use Rattle.bundle_facts.specs.Facts.{HaveBlocks}
use Rattle.typed_programs.specs.PlacesOf.{places_of}

-- .typedef @t = int<64> .funcsig @s = () -> (@t) .const @a <@t> = 40 .funcdef @main VERSION %v <@s> { .. }
abbrev name : List ℕ → Name
name text = record { place = 0; text = text }

abbrev numeral : ℕ → Numeral
numeral magnitude = record { place = 0; number = record { negative = false; magnitude = magnitude } }

abbrev to : Name → List Operand → Destination
to block values = record { block = block; arguments = record { place = 0; values = values } }

abbrev gives_back : Operand → Inst
gives_back value = record { place = 0; results = []; label = None; op = ops.ControlFlow (Ret (record { place = 0; values = value ∷ [] })) }

-- %e(): %y = UDIV <@t> @a @a  %z = UDIV <@t> %y @a EXC (%n (%z) %x ())
abbrev entry : Block
entry =
    record {
      head = record { name = name (codes "%e"); parameters = []; handler = None };
      insts =
          record { place = 0; results = name (codes "%y") ∷ []; label = None; op = ops.Computation (Binary Udiv (name (codes "@t")) (Global (name (codes "@a"))) (Global (name (codes "@a"))) None) }
          ∷ record {
            place = 0;
            results = name (codes "%z") ∷ [];
            label = None;
            op = ops.Computation (Binary Udiv (name (codes "@t")) (Local (name (codes "%y"))) (Global (name (codes "@a")))
                (Some (record { normal = to (name (codes "%n")) (Local (name (codes "%z")) ∷ []); exceptional = to (name (codes "%x")) [] })));
          }
          ∷ [];
    }

-- %n(<@t> %p): RET %p
abbrev normal : Block
normal = record { head = record { name = name (codes "%n"); parameters = record { of_type = name (codes "@t"); name = name (codes "%p") } ∷ []; handler = None }; insts = gives_back (Local (name (codes "%p"))) ∷ [] }

-- %x() [%h]: RET @a
abbrev exceptional : Block
exceptional = record { head = record { name = name (codes "%x"); parameters = []; handler = Some (name (codes "%h")) }; insts = gives_back (Global (name (codes "@a"))) ∷ [] }

abbrev sample : List Item
sample =
    items.Typedef (record { place = 0; name = name (codes "@t"); form = types.Int (numeral 64) })
    ∷ items.Funcsig (record { place = 0; name = name (codes "@s"); takes = []; gives = name (codes "@t") ∷ [] })
    ∷ items.Const (record { place = 0; name = name (codes "@a"); of_type = name (codes "@t"); literal = literals.Number (numeral 40) })
    ∷ items.Funcdef (record { place = 0; name = name (codes "@main"); version = name (codes "%v"); signature = name (codes "@s"); blocks = entry ∷ normal ∷ exceptional ∷ [] })
    ∷ []

its_names_are_defined : first_unmet (name_demands sample) ≡ None
its_names_are_defined = refl

it_is_accepted : first_unmet (check_demands sample) ≡ None
unfolding tables_of alike check_demands leads leaves_to inst_demands body_of argument_demands
it_is_accepted = refl

it_has_blocks : 0 < 3 → HaveBlocks sample
it_has_blocks some = (some, tt)

-- before its first instruction the entry has no variables, before its second one; it has no third
no_variables : (places_of sample).before 0 0 ≡ Some []
unfolding tables_of
no_variables = refl

one_variable : (places_of sample).before 0 1 ≡ Some (0 ∷ [])
unfolding tables_of alike
one_variable = refl

no_third : (places_of sample).before 0 2 ≡ None
unfolding tables_of
no_third = refl

-- a parameter, and a handler
a_parameter : (places_of sample).before 1 0 ≡ Some (0 ∷ [])
unfolding tables_of alike
a_parameter = refl

a_handler : (places_of sample).before 2 0 ≡ Some (ref_void (bundle_tables sample).types ∷ [])
unfolding tables_of alike
a_handler = refl

no_fourth_block : (places_of sample).before 3 0 ≡ None
unfolding tables_of
no_fourth_block = refl

-- a division that goes on behind it or at a destination gives its result, and RET goes on with none
goes_on_behind : (places_of sample).gives 0 0 ≡ Some (0 ∷ [])
unfolding tables_of alike
goes_on_behind = refl

goes_on_elsewhere : (places_of sample).gives 0 1 ≡ Some (0 ∷ [])
unfolding tables_of alike
goes_on_elsewhere = refl

goes_on_nowhere : (places_of sample).gives 1 0 ≡ None
unfolding tables_of
goes_on_nowhere = refl

-- the function gives one value
its_results : (places_of sample).results 2 ≡ 0 ∷ []
unfolding tables_of alike
its_results = refl
