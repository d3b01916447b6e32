-- What the worked examples are written with.
use Rattle.std.specs.Prelude.{ℕ, false, List, [], ◌∷◌, Option, Some, map, codes, slice_get, option_map}
use Rattle.demands.specs.declared.fault.Fault.{Fault}
use Rattle.demands.specs.declared.fault.Fault.TheVariants.{At}
use Rattle.demands.specs.Demands.{first_unmet}
use Rattle.name_scopes.specs.Names.{Names}
use Rattle.type_definitions.specs.declared.definition.TypeDef.{TypeDef}
use Rattle.type_definitions.specs.declared.definition.TypeDef.TheVariants as types
use Rattle.mu_values.specs.declared.scalars.Scalar.{Scalar}
use Rattle.mu_values.specs.declared.scalars.Scalar.TheVariants.{Int}
use Rattle.ir_lex.specs.declared.name.Name.{Name}
use Rattle.ir_lex.specs.declared.name.Numeral.{Numeral}
use Rattle.bundle_names.specs.declared.globals.Sort.{Sort}
use Rattle.bundle_names.specs.declared.globals.Sort.TheVariants as sorts
use Rattle.typed_heap.specs.Objects.{HeapObject, leaf_classes, object_of}
use Rattle.hail_load.specs.declared.fault.HailKind.{HailKind}
use Rattle.hail_load.specs.declared.fault.LoadKind.{LoadKind}
use Rattle.hail_load.specs.Texts.{hail_demands, hail_commands}
use Rattle.hail_load.specs.Code.{Code}
use Rattle.hail_load.specs.Fitting.{Store}
use Rattle.hail_load.specs.Loading.{Loaded, load}

-- @i64 = int<64>, @n = struct<@i64 @rn>, @rn = ref<@n>, @ii = iref<@i64>, @hy = hybrid<@i64>, @v = void, @arr = array<@i64 3>,
-- @fr = funcref<@s>, @i8 = int<8>, @hf = hybrid<@i8 @i64>, @s = () -> ()
abbrev pub graph : List TypeDef
graph =
    types.Int 64 ∷ types.Struct (0 ∷ 2 ∷ []) ∷ types.Ref 1 ∷ types.Iref 0 ∷ types.Hybrid [] 0 ∷ types.Void ∷ types.Array 0 3
    ∷ types.FuncRef 10 ∷ types.Int 8 ∷ types.Hybrid (8 ∷ []) 0 ∷ types.Sig [] [] ∷ []

abbrev pub names : Names Sort
names =
    (codes "@i64", sorts.Written 0) ∷ (codes "@n", sorts.Written 1) ∷ (codes "@rn", sorts.Written 2) ∷ (codes "@ii", sorts.Written 3)
    ∷ (codes "@hy", sorts.Written 4) ∷ (codes "@v", sorts.Written 5) ∷ (codes "@arr", sorts.Written 6) ∷ (codes "@fr", sorts.Written 7)
    ∷ (codes "@i8", sorts.Written 8) ∷ (codes "@hf", sorts.Written 9) ∷ (codes "@s", sorts.Signature 0) ∷ (codes "@k", sorts.Constant 0)
    ∷ (codes "@main", sorts.Function 0) ∷ (codes "@g", sorts.GlobalCell 0) ∷ (codes "@p", sorts.GlobalCell 1) ∷ (codes "@a", sorts.GlobalCell 2)
    ∷ (codes "@f", sorts.GlobalCell 3) ∷ (codes "@x", sorts.GlobalCell 4) ∷ (codes "@b", sorts.GlobalCell 5) ∷ (codes "@w", sorts.GlobalCell 6) ∷ []

-- @k <@i64> = 7, @main <@s>, @g <@rn>, @p <@ii>, @a <@arr>, @f <@fr>, @x <@i64>, @b <@i8>, @w <@n>
abbrev pub sample : Code
sample =
    record {
      names = names;
      graph = graph;
      constants = 0 ∷ [];
      values = (Int 64 7 ∷ []) ∷ [];
      globals = 2 ∷ 3 ∷ 6 ∷ 7 ∷ 0 ∷ 8 ∷ 1 ∷ [];
      signatures = 10 ∷ [];
    }

-- the objects of the globals, and so many cells left
abbrev pub start : Code → ℕ → Store
start c left = record { objects = map (λ t. object_of c.graph (leaf_classes c.graph t)) c.globals; left = left; made = [] }

-- ---- texts

-- the first fault of a text
abbrev pub text_fault : List ℕ → Option (Fault HailKind)
text_fault text = first_unmet (hail_demands names text)

abbrev pub stands : HailKind → ℕ → Option (Fault HailKind)
stands kind place = Some (At kind place)

abbrev pub named : ℕ → List ℕ → Name
named place text = record { place = place; text = text }

abbrev pub plain_number : ℕ → ℕ → Numeral
plain_number place n = record { place = place; number = record { negative = false; magnitude = n } }

-- ---- loading, with 10 cells left

abbrev pub loaded : List ℕ → Loaded
loaded text = load sample (start sample 10) (hail_commands text)

-- the first command that is refused
abbrev pub fault : List ℕ → Option (Fault LoadKind)
fault text = (loaded text).fault

abbrev pub refused : LoadKind → ℕ → Option (Fault LoadKind)
refused kind place = Some (At kind place)

-- what the cells of an object begin with
abbrev pub cells : ℕ → List ℕ → Option (List Scalar)
cells n text = option_map (λ (o : HeapObject). o.initial) (slice_get (loaded text).store.objects n)
