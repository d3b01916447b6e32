-- Destinations, and what a stack is entered with: their demands and their code; and the code of KEEPALIVE.
use Rattle.std.specs.Prelude.{ℕ, Bool, false, List, [], Option, Some, None, option_map, unwrap_or, not}
use Rattle.demands.specs.Demands.{Demands, demand, ◌⨾◌}
use Rattle.name_scopes.specs.Names.{found}
use Rattle.ir_lex.specs.declared.name.Name.{Name}
use Rattle.ir_tree.specs.declared.operands.Destination.{Destination}
use Rattle.ir_tree.specs.declared.operands.NewStackClause.{NewStackClause}
use Rattle.ir_tree.specs.declared.operands.NewStackClause.TheVariants as clauses
use Rattle.check_tables.specs.declared.fault.CheckKind.{CheckKind}
use Rattle.check_tables.specs.declared.fault.CheckKind.TheVariants.{BadDestination, OperandType}
use Rattle.check_tables.specs.declared.tables.Tables.{Tables}
use Rattle.check_tables.specs.Types.{ref_void}
use Rattle.checked_code.specs.declared.code.Target.{Target}
use Rattle.checked_code.specs.declared.code.Entered.{Entered}
use Rattle.checked_code.specs.declared.code.Entered.TheVariants as entered
use Rattle.checked_code.specs.declared.scopes.BlockEntry.{BlockEntry}
use Rattle.checked_code.specs.declared.scopes.Locals.{Locals}
use Rattle.checked_code.specs.declared.scopes.Body.{Body}
use Rattle.checked_code.specs.Operands.{operand_demands, argument_demands, value_type_demands, noted_list, source_of, sources_of, numbers_in}

-- ---- destinations

abbrev pub block_named : Body → Name → Option BlockEntry
block_named f n = found f.blocks n.text

abbrev pub entry_takes : Option BlockEntry → Option (List ℕ)
entry_takes b = option_map (λ b. b.takes) b

abbrev pub takes_no_exception : Option BlockEntry → Bool
takes_no_exception None = false
takes_no_exception (Some b) = not b.has_handler

-- where an exception goes: the arguments are of the block's parameters; a handler is no parameter, and the block may have one
abbrev pub exceptional_demands : Tables → Body → Locals → Destination → Demands CheckKind
exceptional_demands p f ls d = argument_demands p ls d.arguments (entry_takes (block_named f d.block))

-- every other destination: the block has no handler
abbrev pub normal_demands : Tables → Body → Locals → Destination → Demands CheckKind
normal_demands p f ls d = demand d.block.place BadDestination (takes_no_exception (block_named f d.block)) ⨾ exceptional_demands p f ls d

abbrev pub block_number : Option BlockEntry → ℕ
block_number b = unwrap_or (option_map (λ b. b.number) b) 0

abbrev pub target_of : Tables → Body → Locals → Destination → Target
target_of p f ls d = record { block = block_number (block_named f d.block); arguments = sources_of p ls d.arguments.values }

-- a destination that may be left out
abbrev pub optional_target : Tables → Body → Locals → Option Destination → Option Target
optional_target p f ls d = option_map (target_of p f ls) d

-- ---- KEEPALIVE ( L* ), which may be left out

abbrev pub keepalive_numbers : Locals → Option (List Name) → List ℕ
keepalive_numbers ls ns = unwrap_or (option_map (numbers_in ls) ns) []

-- ---- PASS_VALUES < T* > ( value* ): value types, and a value of each; THROW_EXC value: a ref<void>

abbrev pub entered_demands : Tables → Locals → NewStackClause → Demands CheckKind
entered_demands p ls (clauses.PassValues ts a) = value_type_demands p ts ⨾ argument_demands p ls a (Some (noted_list p ts))
entered_demands p ls (clauses.ThrowExc e) = operand_demands p ls OperandType e (Some (ref_void p.types))

abbrev pub entered_code : Tables → Locals → NewStackClause → Entered
entered_code p ls (clauses.PassValues ts a) = entered.Values (noted_list p ts) (sources_of p ls a.values)
entered_code p ls (clauses.ThrowExc e) = entered.Exception (source_of p ls e)
