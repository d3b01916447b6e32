-- What the commands of a script make, one after the other.
use Rattle.std.specs.Prelude.{ℕ, ◌-◌, nat_le, true, false, List, [], ◌∷◌, ◌++◌, length, Option, Some, None, Result, Ok, Err, slice_get, if◌then◌else◌}
use Rattle.demands.specs.declared.fault.Fault.{Fault}
use Rattle.demands.specs.declared.fault.Fault.TheVariants.{At}
use Rattle.name_scopes.specs.Names.{added, found}
use Rattle.mu_values.specs.declared.scalars.Scalar.{Scalar}
use Rattle.ir_lex.specs.declared.name.Name.{Name}
use Rattle.check_tables.specs.TypeTests.{is_hybrid, is_no_hybrid}
use Rattle.check_tables.specs.Lookups.{written_number}
use Rattle.typed_heap.specs.Objects.{object_of, with_filled}
use Rattle.hail_load.specs.declared.fault.LoadKind.{LoadKind}
use Rattle.hail_load.specs.declared.fault.LoadKind.TheVariants.{WrongType, HeapFull}
use Rattle.hail_load.specs.declared.tree.Target.{Target}
use Rattle.hail_load.specs.declared.tree.Piece.{Piece}
use Rattle.hail_load.specs.declared.tree.Command.{Command}
use Rattle.hail_load.specs.declared.tree.Command.TheVariants as commands
use Rattle.hail_load.specs.Code.{Code}
use Rattle.hail_load.specs.declared.parts.Part.{Part}
use Rattle.hail_load.specs.declared.parts.Part.TheVariants.{Value, Hybrid}
use Rattle.hail_load.specs.declared.parts.Spot.{Spot}
use Rattle.hail_load.specs.Parts.{leaves_of, size_of, target_spot, ◌>>=◌}
use Rattle.hail_load.specs.Fitting.{Store}
use Rattle.hail_load.specs.Judging.{judged}

abbrev pub Stored : Type 0
Stored = Result Store (Fault LoadKind)

-- ---- objects

-- one more object, under the next number and its name
abbrev pub with_object : Code → Store → Name → Part → Store
with_object c s n part =
    record {
      objects = s.objects ++ object_of c.graph (leaves_of c.graph part) ∷ [];
      left = s.left - size_of c.graph part;
      made = added s.made n.text (record { object = length s.objects; part = part });
    }

-- it is made exactly where no more cells are asked than are left
abbrev pub make : Code → Store → ℕ → Name → Part → Stored
make c s place n part = elim (nat_le (size_of c.graph part) s.left) [ true ↦ Ok (with_object c s n part) | false ↦ Err (At HeapFull place) ]

-- any type but a hybrid
abbrev pub new_of : Code → Store → ℕ → Name → Name → Option ℕ → Stored
new_of c s place n of_type None = Err (At WrongType of_type.place)
new_of c s place n of_type (Some t) = if is_no_hybrid (slice_get c.graph t) then make c s place n (Value t) else Err (At WrongType of_type.place)

-- a hybrid, with so many elements
abbrev pub newhybrid_of : Code → Store → ℕ → Name → Name → ℕ → Option ℕ → Stored
newhybrid_of c s place n of_type many None = Err (At WrongType of_type.place)
newhybrid_of c s place n of_type many (Some t) = if is_hybrid (slice_get c.graph t) then make c s place n (Hybrid t many) else Err (At WrongType of_type.place)

-- ---- cells

-- the cells from a spot on begin with these scalars
abbrev pub fill : Store → Spot → List Scalar → Store
fill s spot ss = record s { objects = with_filled s.objects spot.object spot.at ss (slice_get s.objects spot.object) }

-- the target is found first, then the source is judged whole, and then its cells are set
abbrev pub init_of : Code → Store → Target → List Piece → Stored
init_of c s t source = target_spot c s.made t.root t.indexes >>= λ spot. judged c s (spot.part ∷ []) source >>= λ ss. Ok (fill s spot ss)

-- ---- commands

abbrev pub done : Code → Store → Command → Stored
done c s (commands.New place n of_type) = new_of c s place n of_type (written_number (found c.names of_type.text))
done c s (commands.NewHybrid place n of_type many) = newhybrid_of c s place n of_type many.number.magnitude (written_number (found c.names of_type.text))
done c s (commands.Init t source) = init_of c s t source

-- what the commands before the first that is refused made, and its fault
pub record Loaded : Type 0 where
  pub store : Store
  pub fault : Option (Fault LoadKind)

abbrev pub go_on : Store → Stored → (Store → Loaded) → Loaded
go_on s (Ok next) more = more next
go_on s (Err fault) more = record { store = s; fault = Some fault }

-- the commands in order, up to the first that is refused
abbrev pub load : Code → Store → List Command → Loaded
load c s [] = record { store = s; fault = None }
load c s (command ∷ commands) = go_on s (done c s command) (λ next. load c next commands)
