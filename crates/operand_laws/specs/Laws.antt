-- At each moment of a run of an accepted text, each operand of an instruction has a value, which fits the type that is asked of it.
use Rattle.std.specs.Prelude.{◌≡◌, ◌<◌, ◌^◌, ℕ, List, [], ◌∷◌, ◌++◌, Option, Some, IsSomeAnd, map, slice_get}
use Rattle.std.specs.List.{AllByRecursion}
use Rattle.std.specs.Option.{option_map_or}
use Rattle.ir_lex.specs.declared.name.Name.{Name}
use Rattle.ir_tree.specs.declared.operands.Operand.TheVariants.{Local}
use Rattle.ir_tree.specs.declared.code.Op.{Op}
use Rattle.ir_tree.specs.declared.code.Inst.{Inst}
use Rattle.ir_tree.specs.declared.items.Item.{Item}
use Rattle.mu_values.specs.declared.scalars.Scalar.TheVariants.{Int}
use Rattle.check_tables.specs.declared.tables.Tables.{Tables}
use Rattle.checked_code.specs.declared.scopes.Body.{Body}
use Rattle.checked_code.specs.Instructions.{gives, keepalive_of}
use Rattle.checked_code.specs.Functions.{body_of}
use Rattle.checked_code.specs.Checking.{bundle_tables}
use Rattle.typed_heap.specs.Fits.{World, ValueFits}
use Rattle.typed_heap.specs.Laws.{Grows}
use Rattle.frames.specs.Activations.{Value, Activation}
use Rattle.mu_model.specs.Types.{type_graph}
use Rattle.mu_model.specs.Acts.{Program}
use Rattle.mu_model.specs.Configuration.{Configuration, Thread}
use Rattle.mu_model.specs.Operands.{Scope, tables_in, value_named}
use Rattle.mu_model.specs.Programs.{kept_class, scopes_of, named}
use Rattle.mu_model.specs.Run.{Setting, first_configuration}
use Rattle.mu_model.specs.Turns.{turn_of}
use Rattle.model_laws.specs.Values.{ValuesFit, world}
use Rattle.text_programs.specs.Laws.{OfAcceptedTexts}
use Rattle.text_programs.specs.Moments.{Reaches, OfEnteredRuns}
use Rattle.operand_laws.specs.Asked.{Asked, Wanted, OfClass, Int64, of_class, operands_before, operands_after}

-- ---- an operand

-- a value of one integer of that many bits
abbrev pub IsInt : ℕ → Value → Type 0
IsInt width v = (n : ℕ) × (v ≡ Int width n ∷ []) × (n < 2 ^ width)

abbrev pub Fits : Tables → World → Wanted → Value → Type 0
Fits p w (OfClass c) v = IsSomeAnd c (λ k. ValueFits (type_graph p) w k v)
Fits p w Int64 v = IsInt 64 v

-- with these values of the block's variables the operand has a value, which fits what is asked of it
abbrev pub HasValue : Scope → World → List Value → Asked → Type 0
HasValue s w vars a = IsSomeAnd (value_named s vars a.operand) (Fits (tables_in s) w a.wanted)

abbrev pub HaveValues : Scope → World → List Value → List Asked → Type 0
HaveValues s w vars xs = AllByRecursion (HasValue s w vars) xs

-- ---- an instruction

-- the blocks and the results of the block's function
abbrev pub body_in : Scope → Body
body_in s = body_of (tables_in s) s.first s.function

-- variables that are kept may be of any type; each is of its own
abbrev pub kept_operands : Scope → Option (List Name) → List Asked
kept_operands s ns = option_map_or (map (λ n. of_class (Local n) (kept_class s n))) ns []

-- An instruction that is next, with these values of the variables before it. Where it gives results, what it reads after that has values
-- too, whatever values that fit its results stand after those of the variables. They may be of objects, stacks and threads that are made by
-- then: they fit a later world, which has all that this one has.
pub record OperandsHaveValues (s : Scope) (w : World) (vars : List Value) (i : Op) : Type 0 where
  pub before : HaveValues s w vars (operands_before (tables_in s) (body_in s) i)
  pub kept : HaveValues s w vars (kept_operands s (keepalive_of i))
  pub after : (later : World) → Grows w later → (results : List Value) → ValuesFit (type_graph (tables_in s)) later (gives (tables_in s) i) results → HaveValues s later (vars ++ results) (operands_after (body_in s) i)

-- ---- a moment

-- the frame stands before an instruction of the bundle, whose operands have values
pub record FrameHasOperands (bundle : List Item) (w : World) (f : Activation) : Type 0 where
  pub scope : Scope
  pub inst : Inst
  pub block : slice_get (scopes_of bundle) f.block ≡ Some scope
  pub next : slice_get scope.block.insts f.at ≡ Some inst
  pub operands : OperandsHaveValues scope w f.vars inst.op

-- the top frame of each thread that is left does so
abbrev pub MomentHasOperands : List Item → Configuration → Type 0
MomentHasOperands bundle c = (i : ℕ) (th : Thread) → slice_get c.threads i ≡ Some (Some th) →
    IsSomeAnd (turn_of (named bundle) c i) (λ u. FrameHasOperands bundle (world (bundle_tables bundle) c) u.top)

abbrev pub MomentsHaveOperands : List Item → Program → Setting → ℕ → Type 0
MomentsHaveOperands bundle p s function = (c d : Configuration) → first_configuration p s function ≡ Some c → Reaches p c d → MomentHasOperands bundle d

-- each moment of a run of a function that may be entered, in a setting that fits
abbrev pub MomentsOfTextsHaveOperands : Type 0
MomentsOfTextsHaveOperands = OfAcceptedTexts (λ bundle. OfEnteredRuns (MomentsHaveOperands bundle) bundle)
