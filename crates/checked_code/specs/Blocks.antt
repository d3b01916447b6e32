-- A block: its demands, and what it is when names are numbers.
use Rattle.std.specs.Prelude.{ℕ, suc, false, List, [], ◌∷◌, Option, Some, None, option_map, map, length}
use Rattle.demands.specs.Demands.{Demands, none, demand, ◌⨾◌}
use Rattle.ir_lex.specs.declared.name.Name.{Name}
use Rattle.ir_tree.specs.declared.code.Parameter.{Parameter}
use Rattle.ir_tree.specs.declared.code.BlockHead.{BlockHead}
use Rattle.ir_tree.specs.declared.code.Block.{Block}
use Rattle.check_tables.specs.declared.fault.CheckKind.{CheckKind}
use Rattle.check_tables.specs.declared.fault.CheckKind.TheVariants.{NoEnding}
use Rattle.check_tables.specs.declared.tables.Tables.{Tables}
use Rattle.check_tables.specs.Types.{ref_void}
use Rattle.check_tables.specs.Lookups.{noted_class}
use Rattle.checked_code.specs.declared.scopes.Locals.{Locals}
use Rattle.checked_code.specs.declared.scopes.Body.{Body}
use Rattle.checked_code.specs.Operands.{value_type_demand}
use Rattle.checked_code.specs.Instructions.{no_locals, bound, insts_demands, insts_code, after_all, ends}
use Rattle.checked_code.specs.declared.blocks.BlockCode.{BlockCode}

-- ---- the variables at its first instruction: the parameters, then the handler, which is a ref<void>

abbrev pub bound_parameters : Tables → Locals → List Parameter → Locals
bound_parameters p ls [] = ls
bound_parameters p ls (q ∷ qs) = bound_parameters p (bound ls q.name (noted_class p q.of_type)) qs

abbrev pub bound_handler : Tables → Locals → Option Name → Locals
bound_handler p ls None = ls
bound_handler p ls (Some n) = bound ls n (ref_void p.types)

abbrev pub head_locals : Tables → BlockHead → Locals
head_locals p h = bound_handler p (bound_parameters p no_locals h.parameters) h.handler

-- the classes of the parameters alone
abbrev pub parameter_classes : Tables → List Parameter → List ℕ
parameter_classes p qs = map (λ (q : Parameter). noted_class p q.of_type) qs

-- ---- demands: the types of its parameters, each instruction, and its end

abbrev pub parameter_demands : Tables → List Parameter → Demands CheckKind
parameter_demands p [] = none
parameter_demands p (q ∷ qs) = value_type_demand p q.of_type ⨾ parameter_demands p qs

abbrev pub block_demands : Tables → Body → Block → Demands CheckKind
block_demands p f b =
    parameter_demands p b.head.parameters
    ⨾ insts_demands p f (head_locals p b.head) false b.insts
    ⨾ demand b.head.name.place NoEnding (ends false b.insts)

abbrev pub blocks_demands : Tables → Body → List Block → Demands CheckKind
blocks_demands p f [] = none
blocks_demands p f (b ∷ bs) = block_demands p f b ⨾ blocks_demands p f bs

-- ---- code

-- the variable that is the handler stands behind the parameters
abbrev pub handler_number : BlockHead → Option Name → Option ℕ
handler_number h n = option_map (λ _. length h.parameters) n

-- block number `at` of the function that is item number `item`
abbrev pub block_code : Tables → Body → ℕ → ℕ → Block → BlockCode
block_code p f item at b =
    record {
      item = item;
      at = at;
      parameters = length b.head.parameters;
      handler = handler_number b.head b.head.handler;
      classes = (after_all p (head_locals p b.head) b.insts).classes;
      code = insts_code p f (head_locals p b.head) b.insts;
    }

abbrev pub blocks_code : Tables → Body → ℕ → ℕ → List Block → List BlockCode
blocks_code p f item at [] = []
blocks_code p f item at (b ∷ bs) = block_code p f item at b ∷ blocks_code p f item (suc at) bs
