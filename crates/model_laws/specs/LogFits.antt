-- Well-typed objects, and a well-typed log.
use Rattle.std.specs.Prelude.{◌≡◌, ℕ, true, false, nat_lt, List, [], ◌∷◌, IsSomeAnd, All, length, map}
use Rattle.type_definitions.specs.declared.definition.TypeDef.{TypeDef}
use Rattle.typed_heap.specs.Objects.{HeapObject}
use Rattle.typed_heap.specs.Fits.{World, ScalarFits, ScalarsFit}
use Rattle.mem_axioms.specs.EventFits.{is_thread, wakes_at}
use Rattle.mem_axioms.specs.Sound.{IsSound}
use Rattle.mem_axioms.specs.declared.types.Event.{Event}
use Rattle.mem_axioms.specs.declared.types.Kind.{Kind}
use Rattle.mem_axioms.specs.declared.types.Kind.TheVariants as kinds
use Rattle.mu_model.specs.Types.{type_graph}
use Rattle.mu_model.specs.Acts.{Program}
use Rattle.mu_model.specs.Configuration.{Configuration}
use Rattle.model_laws.specs.Values.{world, leaf_at}

-- ---- 5: objects, cells and values

-- an object has one scalar for each leaf, which fits it
abbrev pub ObjectFits : List TypeDef → World → HeapObject → Type 0
ObjectFits graph w o = ScalarsFit graph w o.leaves o.initial

-- the cell of an access and of a wake is there, and the value of an access fits the cell's leaf
abbrev pub KindFits : List TypeDef → World → Kind → Type 0
KindFits graph w (kinds.Access mode cell order position value) = IsSomeAnd (leaf_at w.objects cell) (λ c. ScalarFits graph w c value)
KindFits graph w (kinds.Wake cell count) = IsSomeAnd (leaf_at w.objects cell) (λ c. Unit {0})
KindFits graph w _ = Unit {0}

abbrev pub LoggedFits : List TypeDef → World → Event → Type 0
LoggedFits graph w e = KindFits graph w e.kind

-- ---- 7: threads and wakes

-- after that past a thread is made that was not, and a thread was woken by a wake of the past
abbrev pub KindFollows : List Event → Kind → Type 0
KindFollows past (kinds.NewThread child) = is_thread past child ≡ false
KindFollows past (kinds.Woken wake) = wakes_at past wake ≡ true
KindFollows past _ = Unit {0}

-- Each event is of thread 0 or of one that an earlier event made; each thread is made once; each woken thread by an earlier wake.
abbrev pub EachFollows : List Event → Type 0
EachFollows [] = Unit {0}
EachFollows (e ∷ past) = (is_thread past e.thread ≡ true) × KindFollows past e.kind × EachFollows past

-- ---- 5 and 7

pub record LogFits (p : Program) (c : Configuration) : Type 0 where
  pub events : All (LoggedFits (type_graph p.tables) (world p.tables c)) c.log
  -- it meets the axioms, and no two of its events race
  pub sound : IsSound c.rule (map (λ (o : HeapObject). o.initial) c.objects) c.log
  pub follows : EachFollows c.log
  -- thread 0 and the threads that the log names are those that were made
  pub threads : (i : ℕ) → is_thread c.log i ≡ nat_lt i (length c.threads)
