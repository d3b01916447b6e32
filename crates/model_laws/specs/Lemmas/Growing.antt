-- What fits still fits where more was made.
use Rattle.std.specs.Prelude.{◌≡◌, ◌≤◌, ◌<◌, ℕ, zero, suc, Bool, true, false, List, [], ◌∷◌, ◌++◌, Option, Some, None, IsSomeAnd, slice_get, map, refl}
use Rattle.std.proofs.Common.{◌∙◌, ap}
use Rattle.mem_axioms.specs.declared.types.Event.{Event}
use Rattle.mem_axioms.specs.declared.types.Kind.{Kind}
use Rattle.mem_axioms.specs.declared.types.Kind.TheVariants as kinds
use Rattle.mu_values.specs.declared.cells.CellId.{CellId}
use Rattle.std.specs.Prelude.{fold}
use Rattle.frames.specs.Activations.{Activation}
use Rattle.model_laws.specs.Lemmas.Basics.{some_is, some_more, some_of}
use Rattle.model_laws.specs.Lemmas.Fitting.{Grows, scalar_more, scalars_more, values_more}
use Rattle.model_laws.specs.FramesFit.{ActiveFit, BelowWait, FrameWaits, FreshOrWaits, ReadyFit, StackFits, Stands}
use Rattle.model_laws.specs.LogFits.{KindFits, LoggedFits, ObjectFits}
use Rattle.model_laws.specs.Places.{Places}
use Rattle.model_laws.specs.ThreadsFit.{ThreadFits}
use Rattle.model_laws.specs.Values.{leaf_at}
use Rattle.mu_model.specs.Acts.{Program}
use Rattle.mu_model.specs.Changes.{changed}
use Rattle.mu_model.specs.Configuration.{Active, Dead, Ready, Stack, Thread}
use Rattle.mu_model.specs.Types.{type_graph}
use Rattle.typed_heap.specs.Fits.{ScalarFits, World}
use Rattle.typed_heap.specs.Objects.{HeapObject, killed}
use Rattle.typed_heap.specs.Places.{with_some}

module _ (p : Program) (t : Places) (w v : World) (g : Grows w v) where
  pub stands_more : (f : Activation) → Stands p t w f → Stands p t v f
  stands_more f h = record { classes = h.classes; place = h.place; values = values_more (type_graph p.tables) w v h.classes f.vars g h.values; entered = h.entered; waits = h.waits; handler = h.handler; kept = h.kept }

  waits_by : (f : Activation) (b : Bool) → FreshOrWaits p t w f b → FreshOrWaits p t v f b
  waits_by f true h = h
  waits_by f false h = record {
    classes = h.classes;
    place = h.place;
    values = values_more (type_graph p.tables) w v h.classes f.vars g h.values;
    doing = h.doing;
    there = h.there;
    waits = h.waits;
    handler = h.handler;
    kept = h.kept;
    kept_fit = values_more (type_graph p.tables) w v f.kept.types f.kept.values g h.kept_fit;
  }

  pub waits_more : (f : Activation) → FrameWaits p t w f → FrameWaits p t v f
  waits_more f h = waits_by f f.fresh h

  pub below_more : (rs : List ℕ) (fs : List Activation) → BelowWait p t w rs fs → BelowWait p t v rs fs
  below_more rs [] h = tt
  below_more rs (f ∷ fs) h = (waits_more f h.0, h.1, below_more (t.results f.block) fs h.2)

  pub active_more : (fs : List Activation) → ActiveFit p t w fs → ActiveFit p t v fs
  active_more [] h = h
  active_more (f ∷ fs) h = (stands_more f h.0, below_more (t.results f.block) fs h.1)

  pub ready_more : (fs : List Activation) → ReadyFit p t w fs → ReadyFit p t v fs
  ready_more [] h = h
  ready_more (f ∷ fs) h = (waits_more f h.0, below_more (t.results f.block) fs h.1)

  pub stack_more : (s : Stack) → StackFits p t w s → StackFits p t v s
  stack_more (Ready fs) h = ready_more fs h
  stack_more (Active i fs) h = active_more fs h
  stack_more Dead h = tt

  pub object_more : (o : HeapObject) → ObjectFits (type_graph p.tables) w o → ObjectFits (type_graph p.tables) v o
  object_more o h = scalars_more (type_graph p.tables) w v o.leaves o.initial g h

  pub thread_more : (o : Option Thread) → ThreadFits p.tables w o → ThreadFits p.tables v o
  thread_more None h = tt
  thread_more (Some o) h = scalar_more (type_graph p.tables) w v _ o.own g h

  leaf_more : (cell : CellId) (c : ℕ) → leaf_at w.objects cell ≡ Some c → leaf_at v.objects cell ≡ Some c
  leaf_more cell c e = by (slice_get w.objects cell.object) refl e
    where
      by : (o : Option HeapObject) → slice_get w.objects cell.object ≡ o → with_some o (λ q. slice_get q.leaves cell.at) ≡ Some c → leaf_at v.objects cell ≡ Some c
      by None at k = cc
      by (Some o) at k =
          let r : (q : HeapObject) × (slice_get v.objects cell.object ≡ Some q) × (q.leaves ≡ o.leaves) = some_of _ (λ q. q.leaves ≡ o.leaves) (g.objects cell.object o at) in
          ap (λ x. with_some x (λ q. slice_get q.leaves cell.at)) r.1 ∙ ap (λ ls. slice_get ls cell.at) r.2 ∙ k

  kind_more : (k : Kind) → KindFits (type_graph p.tables) w k → KindFits (type_graph p.tables) v k
  kind_more (kinds.Access mode cell order position value) h =
      let r : (c : ℕ) × (leaf_at w.objects cell ≡ Some c) × ScalarFits (type_graph p.tables) w c value = some_of _ (λ c. ScalarFits (type_graph p.tables) w c value) h in
      some_is _ _ r.0 (leaf_more cell r.0 r.1) (scalar_more (type_graph p.tables) w v r.0 value g r.2)
  kind_more (kinds.Wake cell count) h =
      let r : (c : ℕ) × (leaf_at w.objects cell ≡ Some c) × Unit {0} = some_of _ (λ c. Unit {0}) h in
      some_is _ _ r.0 (leaf_more cell r.0 r.1) tt
  kind_more _ h = tt

  pub logged_more : (e : Event) → LoggedFits (type_graph p.tables) w e → LoggedFits (type_graph p.tables) v e
  logged_more e h = kind_more e.kind h

-- ---- objects that die keep their leaves and their initial scalars

dies_at : (os : List HeapObject) (n k : ℕ) (o : HeapObject) → slice_get os k ≡ Some o → IsSomeAnd (slice_get (changed killed n os) k) (λ q. q.leaves ≡ o.leaves)
dies_at [] n k o e = cc
dies_at (x ∷ os) zero zero o e = cc
dies_at (x ∷ os) zero (suc k) o e = some_is _ _ o e refl
dies_at (x ∷ os) (suc n) zero o e = cc
dies_at (x ∷ os) (suc n) (suc k) o e = dies_at os n k o e

pub die_at : (os : List HeapObject) (ns : List ℕ) (k : ℕ) (o : HeapObject) → slice_get os k ≡ Some o → IsSomeAnd (slice_get (fold (λ qs n. changed killed n qs) os ns) k) (λ q. q.leaves ≡ o.leaves)
die_at os [] k o e = some_is _ _ o e refl
die_at os (n ∷ ns) k o e =
    let r : (q : HeapObject) × (slice_get (changed killed n os) k ≡ Some q) × (q.leaves ≡ o.leaves) = some_of _ (λ q. q.leaves ≡ o.leaves) (dies_at os n k o e) in
    some_more _ (λ q. q.leaves ≡ r.0.leaves) (λ q. q.leaves ≡ o.leaves) (λ q same. same ∙ r.2) (die_at (changed killed n os) ns k r.0 r.1)

dies_initial : (os : List HeapObject) (n : ℕ) → map (λ (o : HeapObject). o.initial) (changed killed n os) ≡ map (λ (o : HeapObject). o.initial) os
dies_initial [] n = refl
dies_initial (o ∷ os) zero = refl
dies_initial (o ∷ os) (suc n) = ap (λ l. o.initial ∷ l) (dies_initial os n)

pub die_initial : (os : List HeapObject) (ns : List ℕ) → map (λ (o : HeapObject). o.initial) (fold (λ qs n. changed killed n qs) os ns) ≡ map (λ (o : HeapObject). o.initial) os
die_initial os [] = refl
die_initial os (n ∷ ns) = die_initial (changed killed n os) ns ∙ dies_initial os n
