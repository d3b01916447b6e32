-- Nothing that a reader believes of a run rests on this. It is what the operands of checked code stand for, by number, with the
-- values of the block's variables.
use Rattle.std.specs.Prelude.{ℕ, List, Option, Some, map, slice_get}
use Rattle.ir_tree.specs.declared.items.Item.{Item}
use Rattle.bundle_names.specs.declared.globals.Sort.TheVariants as sorts
use Rattle.check_tables.specs.declared.tables.Tables.{Tables}
use Rattle.check_tables.specs.Lookups.{global_class}
use Rattle.checked_code.specs.declared.code.Source.{Source}
use Rattle.checked_code.specs.declared.code.Source.TheVariants as sources
use Rattle.checked_code.specs.declared.code.Target.{Target}
use Rattle.checked_code.specs.declared.code.Entered.{Entered}
use Rattle.checked_code.specs.declared.code.Entered.TheVariants as entered
use Rattle.frames.specs.Activations.{Value, Goal}
use Rattle.mu_model.specs.Acts.{Entering}
use Rattle.mu_model.specs.Operands.{global_value, all_some, goal_to}
use Rattle.mu_model.specs.StackForms.{pass_values, throw_exc}

-- ---- operands: their values, and their classes where those of the block's variables are these

abbrev pub value_at : List Item → List Value → Source → Option Value
value_at bundle vars (sources.Variable n) = slice_get vars n
value_at bundle vars (sources.Constant n) = global_value bundle (Some (sorts.Constant n))
value_at bundle vars (sources.GlobalCell n) = global_value bundle (Some (sorts.GlobalCell n))
value_at bundle vars (sources.Function n) = global_value bundle (Some (sorts.Function n))

abbrev pub values_at : List Item → List Value → List Source → Option (List Value)
values_at bundle vars ss = all_some (map (value_at bundle vars) ss)

abbrev pub class_at : Tables → List ℕ → Source → Option ℕ
class_at p types (sources.Variable n) = slice_get types n
class_at p types (sources.Constant n) = global_class p (Some (sorts.Constant n))
class_at p types (sources.GlobalCell n) = global_class p (Some (sorts.GlobalCell n))
class_at p types (sources.Function n) = global_class p (Some (sorts.Function n))

abbrev pub classes_at : Tables → List ℕ → List Source → Option (List ℕ)
classes_at p types ss = all_some (map (class_at p types) ss)

-- ---- destinations, and what a stack is entered with

abbrev pub goal_at : List Item → List Value → Target → Option Goal
goal_at bundle vars t = goal_to (Some t.block) (values_at bundle vars t.arguments)

abbrev pub entering_at : List Item → List Value → Entered → Option Entering
entering_at bundle vars (entered.Values cs ss) = pass_values cs (values_at bundle vars ss)
entering_at bundle vars (entered.Exception s) = throw_exc (value_at bundle vars s)
