-- What the operands of each act fit, and what the instruction's results are then.
use Rattle.std.specs.Prelude.{◌≡◌, ◌<◌, ◌^◌, ℕ, Bool, true, [], ◌∷◌, ◌++◌, Option, Some, IsSomeAnd, IfOk, Result}
use Rattle.type_definitions.specs.Leaves.{times}
use Rattle.type_definitions.specs.declared.definition.TypeDef.{TypeDef}
use Rattle.type_definitions.specs.declared.definition.TypeDef.TheVariants as types
use Rattle.mu_values.specs.declared.scalars.Scalar.{Scalar}
use Rattle.check_tables.specs.declared.tables.Tables.{Tables}
use Rattle.check_tables.specs.Types.{stackref, threadref, ref_void}
use Rattle.typed_heap.specs.declared.faults.PlaceFault.{PlaceFault}
use Rattle.typed_heap.specs.Objects.{leaf_classes, run_classes, object_of}
use Rattle.typed_heap.specs.Fits.{World, ScalarFits, fits, place_fits}
use Rattle.typed_heap.specs.Places.{find_place, move}
use Rattle.mu_model.specs.Types.{type_graph, class_definition, classes_taken, classes_given}
use Rattle.mu_model.specs.Acts as acts
use Rattle.mu_model.specs.Acts.{Entering, Passes, ThrowsInto, Misfits, Act, Program}
use Rattle.mu_model.specs.Objects.{cast_any}
use Rattle.model_laws.specs.Values.{ValuesFit}
use Rattle.model_laws.specs.Orders.{IsFenceOrder}
use Rattle.model_laws.specs.Places.{Places, GoalFits}
use Rattle.model_laws.specs.AccessesFit.{Gives, AccessFits, FutexFits}

-- there is a function with that number
abbrev pub IsFunction : Program → ℕ → Type 0
IsFunction p f = IsSomeAnd (p.body f) (λ b. Unit {0})

-- ---- stacks and objects

abbrev pub EnteringFits : Tables → World → Entering → Type 0
EnteringFits p w (Passes cs vs) = ValuesFit (type_graph p) w cs vs
EnteringFits p w (ThrowsInto e) = ScalarFits (type_graph p) w (ref_void p.types) e
EnteringFits p w Misfits = Unit {0}

abbrev pub StackFitsIn : Tables → World → Scalar → Type 0
StackFitsIn p w s = ScalarFits (type_graph p) w (stackref p.types) s

-- what is found or cast is there, or it is a fault, and it is of the class that the instruction gives
pub record FoundFits (p : Program) (t : Places) (w : World) (block at : ℕ) (r : Option (Result Scalar PlaceFault)) : Type 0 where
  pub class : ℕ
  pub leaf : leaf_classes (type_graph p.tables) class ≡ class ∷ []
  pub gives : Gives t block at (class ∷ [])
  pub found : IsSomeAnd r (λ x. IfOk x (ScalarFits (type_graph p.tables) w class))

-- what the instruction gives is of a class of references, and what they refer to fits what is made
pub record MadeFits (p : Program) (t : Places) (block at : ℕ) (made : ℕ → TypeDef) (fit : ℕ → Bool) : Type 0 where
  pub class : ℕ
  pub leaf : leaf_classes (type_graph p.tables) class ≡ class ∷ []
  pub gives : Gives t block at (class ∷ [])
  pub target : ℕ
  pub definition : class_definition p.tables class ≡ Some (made target)
  pub there : fit target ≡ true

-- ---- an act, at a place

abbrev pub ActFits : Program → Places → World → ℕ → ℕ → Act → Type 0
ActFits p t w block at (acts.Gives vs) = IsSomeAnd (t.gives block at) (λ gs. ValuesFit (type_graph p.tables) w gs vs)
ActFits p t w block at (acts.Faults k) = Unit {0}
ActFits p t w block at (acts.Goes g) = GoalFits p t w block g
ActFits p t w block at (acts.Calls f vs) = ValuesFit (type_graph p.tables) w (classes_taken p.tables f) vs × Gives t block at (classes_given p.tables f) × IsFunction p f
ActFits p t w block at (acts.Replaces f vs) = ValuesFit (type_graph p.tables) w (classes_taken p.tables f) vs × (classes_given p.tables f ≡ t.results block) × IsFunction p f
ActFits p t w block at (acts.Returns vs) = (vs.types ≡ t.results block) × ValuesFit (type_graph p.tables) w (t.results block) vs.values
ActFits p t w block at (acts.Throws e) = ScalarFits (type_graph p.tables) w (ref_void p.tables.types) e
ActFits p t w block at (acts.Casts d s) = FoundFits p t w block at (cast_any p.tables w.objects (class_definition p.tables d) s)
ActFits p t w block at (acts.Finds way s) = FoundFits p t w block at (find_place (type_graph p.tables) w.objects (move (type_graph p.tables) way) s)
ActFits p t w block at (acts.Makes c) = MadeFits p t block at types.Ref (λ d. fits (type_graph p.tables) d (leaf_classes (type_graph p.tables) c))
ActFits p t w block at (acts.MakesHybrid c many) =
    MadeFits p t block at types.Ref (λ d. fits (type_graph p.tables) d (leaf_classes (type_graph p.tables) c ++ times many (run_classes (type_graph p.tables) c)))
ActFits p t w block at (acts.MakesOwn c) =
    MadeFits p t block at types.Iref (λ d. place_fits (type_graph p.tables) d (object_of (type_graph p.tables) (leaf_classes (type_graph p.tables) c)) 0)
ActFits p t w block at (acts.Accesses a cell) = AccessFits p t w block at a cell
ActFits p t w block at (acts.Fences o) = Gives t block at [] × IsFenceOrder o
ActFits p t w block at (acts.Traps cs) = Gives t block at cs
ActFits p t w block at (acts.Watches n cs disabled) = Gives t block at cs × GoalFits p t w block disabled
ActFits p t w block at (acts.Chooses n disabled enabled) = GoalFits p t w block disabled × GoalFits p t w block enabled
ActFits p t w block at (acts.Swaps s cs e) = StackFitsIn p.tables w s × Gives t block at cs × EnteringFits p.tables w e
ActFits p t w block at (acts.Leaves s e) = StackFitsIn p.tables w s × EnteringFits p.tables w e
ActFits p t w block at (acts.Starts s own e) =
    StackFitsIn p.tables w s × ScalarFits (type_graph p.tables) w (ref_void p.tables.types) own × EnteringFits p.tables w e × Gives t block at (threadref p.tables.types ∷ [])
ActFits p t w block at (acts.MakesStack f) = Gives t block at (stackref p.tables.types ∷ []) × IsFunction p f
ActFits p t w block at (acts.KillsStack s) = StackFitsIn p.tables w s × Gives t block at []
ActFits p t w block at acts.Tells = Gives t block at (stackref p.tables.types ∷ [])
ActFits p t w block at acts.Exits = Unit {0}
ActFits p t w block at (acts.SetsOwn r) = ScalarFits (type_graph p.tables) w (ref_void p.tables.types) r × Gives t block at []
ActFits p t w block at acts.TellsOwn = Gives t block at (ref_void p.tables.types ∷ [])
ActFits p t w block at (acts.Waits timed v cell) = FutexFits p t w block at cell
ActFits p t w block at (acts.Wakes many cell) = FutexFits p t w block at cell × (many < 2 ^ 32)
