-- The places of a bundle, by its names: the types of the variables before each instruction, and of its results.
use Rattle.std.specs.Prelude.{ℕ, List, [], ◌++◌, Bool, Option, Some, None, length, take, slice_get, is_some, not, nat_lt, ◌||◌, if◌then◌else◌}
use Rattle.ir_tree.specs.declared.code.Op.{Op}
use Rattle.ir_tree.specs.declared.code.Inst.{Inst}
use Rattle.ir_tree.specs.declared.items.Item.{Item}
use Rattle.checked_code.specs.Instructions.{gives, normal_of, is_ending}
use Rattle.bundle_laws.specs.Typed.{joined}
use Rattle.bundle_laws.specs.TypedLaws.{all_gives}
use Rattle.bundle_laws.specs.Accepted.{head_classes}
use Rattle.typed_heap.specs.Places.{with_some}
use Rattle.mu_model.specs.Operands.{Scope, tables_in}
use Rattle.mu_model.specs.ControlForms.{function_gives}
use Rattle.mu_model.specs.Programs.{scopes_of}
use Rattle.model_laws.specs.Places.{Places}

-- the variables before an instruction of a block: those of its head, and the results of the instructions that stand before
abbrev pub classes_before : Scope → ℕ → Option (List ℕ)
classes_before s at =
    if nat_lt at (length s.block.insts) then Some (head_classes (tables_in s) s.block.head ++ joined (take at (all_gives (tables_in s) s.block.insts))) else None

-- an instruction goes on with its results where it does not end its block, or has a destination for them
abbrev pub may_go_on : Op → Bool
may_go_on op = is_some (normal_of op) || not (is_ending op)

abbrev pub result_classes : Scope → Inst → Option (List ℕ)
result_classes s i = if may_go_on i.op then Some (gives (tables_in s) i.op) else None

-- what the function of a block gives; nothing where there is no such block
abbrev pub results_in : Option Scope → List ℕ
results_in None = []
results_in (Some s) = function_gives s

abbrev pub places_of : List Item → Places
places_of bundle =
    record {
      before = λ block at. with_some (slice_get (scopes_of bundle) block) (λ s. classes_before s at);
      gives = λ block at. with_some (slice_get (scopes_of bundle) block) (λ s. with_some (slice_get s.block.insts at) (result_classes s));
      results = λ block. results_in (slice_get (scopes_of bundle) block);
    }
