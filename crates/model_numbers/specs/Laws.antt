-- Laws of the two readings of a bundle, by its names and by the numbers of its checked code.
use Rattle.std.specs.Prelude.{◌≡◌, Bool, true, ℕ, ◌+◌, List, [], ◌∷◌, ◌++◌, Option, Some, None, length, map, flat_map, find, position, slice_get, bytes_eq, option_map, option_to_list, if◌then◌else◌}
use Rattle.demands.specs.Demands.{first_unmet}
use Rattle.name_scopes.specs.Names.{found}
use Rattle.ir_lex.specs.declared.name.Name.{Name}
use Rattle.ir_tree.specs.declared.code.Parameter.{Parameter}
use Rattle.ir_tree.specs.declared.code.Inst.{Inst}
use Rattle.ir_tree.specs.declared.code.Block.{Block}
use Rattle.ir_tree.specs.declared.items.Item.{Item}
use Rattle.ir_tree.specs.declared.items.Item.TheVariants as items
use Rattle.mu_values.specs.Constants.{width_of}
use Rattle.bundle_names.specs.declared.globals.Globals.{Globals}
use Rattle.bundle_names.specs.Globals.{globals_of}
use Rattle.bundle_names.specs.Naming.{name_demands}
use Rattle.check_tables.specs.Lookups.{noted_class, definition_named}
use Rattle.check_tables.specs.TypeTests.{is_int}
use Rattle.checked_code.specs.Entries.{is_function}
use Rattle.checked_code.specs.Checking.{bundle_tables, check_demands}
use Rattle.typed_heap.specs.Places.{with_some}
use Rattle.frames.specs.Activations.{Value}
use Rattle.mu_model.specs.Types.{class_width}
use Rattle.mu_model.specs.Configuration.{Configuration}
use Rattle.mu_model.specs.Operands.{Scope, local_value, target_block}
use Rattle.mu_model.specs.Programs.{scopes_of, named}
use Rattle.mu_model.specs.Step.{step}
use Rattle.mu_model.specs.Run.{Setting, program_run}
use Rattle.model_numbers.specs.Numbered.{numbered}

-- what holds of each bundle that meets its demands
abbrev pub OfAccepted : (List Item → Type 0) → Type 0
OfAccepted holds = (bundle : List Item) → first_unmet (name_demands bundle) ≡ None → first_unmet (check_demands bundle) ≡ None → holds bundle

-- it is one program by name and by number
abbrev pub ProgramsAreSame : Type 0
ProgramsAreSame = OfAccepted (λ bundle. named bundle ≡ numbered bundle)

-- the same field by field: what an instruction does, and where it goes on
abbrev pub DoingsAreSame : Type 0
DoingsAreSame = OfAccepted (λ bundle. (block at : ℕ) (vars : List Value) → (named bundle).doing block at vars ≡ (numbered bundle).doing block at vars)

abbrev pub GoingsOnAreSame : Type 0
GoingsOnAreSame = OfAccepted (λ bundle. (block at : ℕ) (vars : List Value) → (named bundle).going_on block at vars ≡ (numbered bundle).going_on block at vars)

-- whether a block has a handler
abbrev pub HandlersAreSame : Type 0
HandlersAreSame = OfAccepted (λ bundle. (block : ℕ) → (named bundle).has_handler block ≡ (numbered bundle).has_handler block)

-- the tables; so it is of every bundle
abbrev pub TablesAreSame : Type 0
TablesAreSame = (bundle : List Item) → (named bundle).tables ≡ (numbered bundle).tables

-- so each step is the same, and each run
abbrev pub StepsAreSame : Type 0
StepsAreSame = OfAccepted (λ bundle. (c : Configuration) → step (named bundle) c ≡ step (numbered bundle) c)

abbrev pub RunsAreSame : Type 0
RunsAreSame = OfAccepted (λ bundle. (setting : Setting) (function : ℕ) → program_run (named bundle) setting function ≡ program_run (numbered bundle) setting function)

-- The first block of function n among items of which the first stands behind so many blocks. A function may have a declaration and a
-- definition, in either order.
abbrev pub definition_from : Globals → ℕ → ℕ → List Item → Option ℕ
definition_from g n first [] = None
definition_from g n first (items.Funcdef d ∷ is) =
    if is_function (found g.names d.name.text) n then Some first else definition_from g n (first + length d.blocks) is
definition_from g n first (i ∷ is) = definition_from g n first is

-- a function that is there begins with the first block of its definition, where it has one; so it is of every bundle
abbrev pub BodiesAreOfDefinitions : Type 0
BodiesAreOfDefinitions = (bundle : List Item) (function : ℕ) →
    (named bundle).body function ≡ with_some (slice_get (bundle_tables bundle).functions function) (λ g. Some (definition_from (globals_of bundle) function 0 bundle))

-- what holds of each block of a bundle, in its function
abbrev pub OfBlocks : List Item → (Scope → Type 0) → Type 0
OfBlocks bundle holds = (block : ℕ) (s : Scope) → slice_get (scopes_of bundle) block ≡ Some s → holds s

abbrev pub is_named : Name → Name → Bool
is_named n own = bytes_eq n.text own.text

-- the names of a block's variables: its parameters, its handler where it has one, and the results of its instructions, in text order
abbrev pub variable_names : Block → List Name
variable_names b = map (λ (q : Parameter). q.name) b.head.parameters ++ option_to_list b.head.handler ++ flat_map (λ (i : Inst). i.results) b.insts

-- a local name has the value that stands at its place among them
abbrev pub LocalsAreInOrder : Type 0
LocalsAreInOrder = OfAccepted (λ bundle. OfBlocks bundle (λ s. (vars : List Value) (n : Name) →
    local_value s vars n ≡ with_some (position (is_named n) (variable_names s.block)) (slice_get vars)))

-- a label leads to the first block with its name in the same function, where there is one; so it is of every bundle
abbrev pub LabelsLeadToBlocks : Type 0
LabelsLeadToBlocks = (bundle : List Item) → OfBlocks bundle (λ s. (n : Name) →
    with_some (target_block s n) (slice_get (scopes_of bundle)) ≡ option_map (λ b. record s { block = b }) (find (λ (b : Block). is_named n b.head.name) s.function.blocks))

-- the width that the class of an int type has is the one that is written
abbrev pub WidthsAreWritten : Type 0
WidthsAreWritten = OfAccepted (λ bundle. (t : Name) → is_int (definition_named (bundle_tables bundle) t) ≡ true →
    class_width (bundle_tables bundle) (noted_class (bundle_tables bundle) t) ≡ width_of (definition_named (bundle_tables bundle) t))
