-- The names in each instruction that computes, from left to right.
use Rattle.demands.specs.Demands.{Demands, ◌⨾◌}
use Rattle.name_scopes.specs.Names.{Names}
use Rattle.ir_tree.specs.declared.computing.Computation.{Computation}
use Rattle.ir_tree.specs.declared.computing.Computation.TheVariants as computations
use Rattle.bundle_names.specs.declared.fault.NameKind.{NameKind}
use Rattle.bundle_names.specs.declared.globals.Sort.{Sort}
use Rattle.bundle_names.specs.declared.function_names.FunctionNames.{FunctionNames}
use Rattle.bundle_names.specs.Uses.{type_use, operand_use, exception_use}

abbrev pub computation_use : Names Sort → FunctionNames → Computation → Demands NameKind
-- BIN < T > a b exc?
computation_use g f (computations.Binary op t a b e) = type_use g t ⨾ operand_use g f a ⨾ operand_use g f b ⨾ exception_use g f e
-- CMP < T > a b
computation_use g f (computations.Compare op t a b) = type_use g t ⨾ operand_use g f a ⨾ operand_use g f b
-- TRUNC < A B > a, ZEXT < A B > a, SEXT < A B > a
computation_use g f (computations.Convert op from to a) = type_use g from ⨾ type_use g to ⨾ operand_use g f a
-- REFCAST < A B > a
computation_use g f (computations.Refcast from to a) = type_use g from ⨾ type_use g to ⨾ operand_use g f a
-- SELECT < C T > c a b
computation_use g f (computations.Select c t x a b) = type_use g c ⨾ type_use g t ⨾ operand_use g f x ⨾ operand_use g f a ⨾ operand_use g f b
-- EXTRACTVALUE < T n > a
computation_use g f (computations.Extractvalue t n a) = type_use g t ⨾ operand_use g f a
-- INSERTVALUE < T n > a b
computation_use g f (computations.Insertvalue t n a b) = type_use g t ⨾ operand_use g f a ⨾ operand_use g f b
