-- The names in each instruction that makes an object or finds a place in one, from left to right.
use Rattle.demands.specs.Demands.{Demands, ◌⨾◌}
use Rattle.name_scopes.specs.Names.{Names}
use Rattle.ir_tree.specs.declared.allocating.Allocation.{Allocation}
use Rattle.ir_tree.specs.declared.allocating.Allocation.TheVariants as allocations
use Rattle.ir_tree.specs.declared.addressing.Addressing.{Addressing}
use Rattle.ir_tree.specs.declared.addressing.Addressing.TheVariants as addressings
use Rattle.bundle_names.specs.declared.fault.NameKind.{NameKind}
use Rattle.bundle_names.specs.declared.globals.Sort.{Sort}
use Rattle.bundle_names.specs.declared.function_names.FunctionNames.{FunctionNames}
use Rattle.bundle_names.specs.Uses.{type_use, operand_use, exception_use}

abbrev pub allocation_use : Names Sort → FunctionNames → Allocation → Demands NameKind
-- NEW < T > exc?
allocation_use g f (allocations.New t e) = type_use g t ⨾ exception_use g f e
-- NEWHYBRID < H I > n exc?
allocation_use g f (allocations.Newhybrid h i n e) = type_use g h ⨾ type_use g i ⨾ operand_use g f n ⨾ exception_use g f e
-- ALLOCA < T > exc?
allocation_use g f (allocations.Alloca t e) = type_use g t ⨾ exception_use g f e

abbrev pub addressing_use : Names Sort → FunctionNames → Addressing → Demands NameKind
-- GETIREF < T > r
addressing_use g f (addressings.Getiref t r) = type_use g t ⨾ operand_use g f r
-- GETFIELDIREF < T n > p
addressing_use g f (addressings.Getfieldiref t n p) = type_use g t ⨾ operand_use g f p
-- GETELEMIREF < T I > p i
addressing_use g f (addressings.Getelemiref t i p x) = type_use g t ⨾ type_use g i ⨾ operand_use g f p ⨾ operand_use g f x
-- SHIFTIREF < T I > p i
addressing_use g f (addressings.Shiftiref t i p x) = type_use g t ⨾ type_use g i ⨾ operand_use g f p ⨾ operand_use g f x
-- GETVARPARTIREF < H > p
addressing_use g f (addressings.Getvarpartiref h p) = type_use g h ⨾ operand_use g f p
