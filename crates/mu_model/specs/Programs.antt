-- A bundle as the machine sees it, by its names.
use Rattle.std.specs.Prelude.{ℕ, ◌+◌, List, [], ◌∷◌, ◌++◌, Option, Some, None, map, length, slice_get, is_some}
use Rattle.name_scopes.specs.Names.{found}
use Rattle.ir_lex.specs.declared.name.Name.{Name}
use Rattle.ir_tree.specs.declared.operands.Destination.{Destination}
use Rattle.ir_tree.specs.declared.code.Op.{Op}
use Rattle.ir_tree.specs.declared.code.Op.TheVariants as ops
use Rattle.ir_tree.specs.declared.code.Inst.{Inst}
use Rattle.ir_tree.specs.declared.code.Block.{Block}
use Rattle.ir_tree.specs.declared.items.Funcdef.{Funcdef}
use Rattle.ir_tree.specs.declared.items.Item.{Item}
use Rattle.ir_tree.specs.declared.items.Item.TheVariants as items
use Rattle.mu_values.specs.Slots.{TypedValues}
use Rattle.checked_code.specs.Checking.{bundle_tables, bundle_functions}
use Rattle.checked_code.specs.Instructions.{normal_of, exceptional_of, keepalive_of}
use Rattle.checked_code.specs.Operands.{variable_class}
use Rattle.typed_heap.specs.Places.{with_some}
use Rattle.frames.specs.Activations.{Value, Goal}
use Rattle.frames.specs.Chains.{nothing_kept}
use Rattle.mu_model.specs.Acts.{Act, Doing, Program}
use Rattle.mu_model.specs.Operands.{Scope, variables, local_value, all_some, goal_named}
use Rattle.mu_model.specs.ComputationForms.{computation_act}
use Rattle.mu_model.specs.ControlForms.{control_act}
use Rattle.mu_model.specs.ObjectForms.{allocation_act, addressing_act}
use Rattle.mu_model.specs.AccessForms.{memory_act}
use Rattle.mu_model.specs.TrappingForms.{trapping_act}
use Rattle.mu_model.specs.StackForms.{switch_stack_act, common_act}

-- ---- an instruction

abbrev pub act_named : Scope → List Value → Op → Option Act
act_named s vars (ops.Computation c) = computation_act s vars c
act_named s vars (ops.ControlFlow c) = control_act s vars c
act_named s vars (ops.Allocation a) = allocation_act s vars a
act_named s vars (ops.Addressing a) = addressing_act s vars a
act_named s vars (ops.Access a) = memory_act s vars a
act_named s vars (ops.Trapping t) = trapping_act s vars t
act_named s vars (ops.StackSwitch g) = switch_stack_act s vars g
act_named s vars (ops.Common c) = common_act s vars c

-- a destination that may be left out
abbrev pub some_goal : Option Goal → Option (Option Goal)
some_goal g = with_some g (λ goal. Some (Some goal))

abbrev pub optional_goal : Scope → List Value → Option Destination → Option (Option Goal)
optional_goal s vars None = Some None
optional_goal s vars (Some d) = some_goal (goal_named s vars d)

-- the variables that are kept: the class of each, and its value
abbrev pub kept_class : Scope → Name → Option ℕ
kept_class s n = variable_class (found (variables s).names n.text)

abbrev pub typed_values : Option (List ℕ) → Option (List Value) → Option TypedValues
typed_values cs vs = with_some cs (λ types. with_some vs (λ values. Some (record { types = types; values = values })))

abbrev pub kept_named : Scope → List Value → Option (List Name) → Option TypedValues
kept_named s vars None = Some nothing_kept
kept_named s vars (Some ns) = typed_values (all_some (map (kept_class s) ns)) (all_some (map (local_value s vars) ns))

abbrev pub does_named : Scope → List Value → Inst → Doing
does_named s vars i =
    record { act = act_named s vars i.op; exceptional = optional_goal s vars (exceptional_of i.op); kept = kept_named s vars (keepalive_of i.op) }

-- ---- the blocks of a bundle, in text order

abbrev pub scopes_in : List Item → Funcdef → ℕ → List Scope
scopes_in bundle d first = map (λ (b : Block). record { bundle = bundle; function = d; first = first; block = b }) d.blocks

abbrev pub scopes_from : List Item → ℕ → List Item → List Scope
scopes_from bundle first [] = []
scopes_from bundle first (items.Funcdef d ∷ is) = scopes_in bundle d first ++ scopes_from bundle (first + length d.blocks) is
scopes_from bundle first (i ∷ is) = scopes_from bundle first is

abbrev pub scopes_of : List Item → List Scope
scopes_of bundle = scopes_from bundle 0 bundle

-- ---- what the machine asks

abbrev pub named : List Item → Program
named bundle =
    record {
      doing = λ block at vars. with_some (slice_get (scopes_of bundle) block) (λ s. with_some (slice_get s.block.insts at) (λ i. Some (does_named s vars i)));
      going_on = λ block at vars. with_some (slice_get (scopes_of bundle) block) (λ s. with_some (slice_get s.block.insts at) (λ i. optional_goal s vars (normal_of i.op)));
      has_handler = λ block. with_some (slice_get (scopes_of bundle) block) (λ s. Some (is_some s.block.head.handler));
      body = λ n. with_some (slice_get (bundle_functions bundle) n) (λ f. Some f.first);
      tables = bundle_tables bundle;
    }
