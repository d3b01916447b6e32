-- The names in each instruction that reads or writes memory, from left to right.
use Rattle.demands.specs.Demands.{Demands, none, ◌⨾◌}
use Rattle.name_scopes.specs.Names.{Names}
use Rattle.ir_tree.specs.declared.accessing.Access.{Access}
use Rattle.ir_tree.specs.declared.accessing.Access.TheVariants as accesses
use Rattle.bundle_names.specs.declared.fault.NameKind.{NameKind}
use Rattle.bundle_names.specs.declared.globals.Sort.{Sort}
use Rattle.bundle_names.specs.declared.function_names.FunctionNames.{FunctionNames}
use Rattle.bundle_names.specs.Uses.{type_use, operand_use, exception_use}

abbrev pub access_use : Names Sort → FunctionNames → Access → Demands NameKind
-- LOAD ord? < T > p exc?
access_use g f (accesses.Load o t p e) = type_use g t ⨾ operand_use g f p ⨾ exception_use g f e
-- STORE ord? < T > p a exc?
access_use g f (accesses.Store o t p a e) = type_use g t ⨾ operand_use g f p ⨾ operand_use g f a ⨾ exception_use g f e
-- CMPXCHG WEAK? s f < T > p e d exc?
access_use g f (accesses.Cmpxchg w s o t p a b e) = type_use g t ⨾ operand_use g f p ⨾ operand_use g f a ⨾ operand_use g f b ⨾ exception_use g f e
-- ATOMICRMW ord RMW < T > p a exc?
access_use g f (accesses.Atomicrmw o op t p a e) = type_use g t ⨾ operand_use g f p ⨾ operand_use g f a ⨾ exception_use g f e
-- FENCE ord
access_use g f (accesses.Fence o) = none
