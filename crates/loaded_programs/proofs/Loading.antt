-- What commands make fits.
use Rattle.std.proofs.Common.{◌≡◌, inl, inr, ℕ, ◌+◌, ◌<◌, Bool, true, false, nat_le, List, [], ◌∷◌, ◌++◌, length, take, drop, Option, Some, None, IsSomeAnd, Ok, Err, slice_get, option_map, if◌then◌else◌, refl, sym, ap, subst, ◌∙◌, arith}
use Rattle.std.specs.Prelude.{slice_set}
use Rattle.std.specs.List.{All, flat_map}
use Rattle.std.proofs.lemmas.List.{append-nil}
use Rattle.std.proofs.lemmas.List.Concat.{flat_map-cons}
use Rattle.std.proofs.lemmas.List.Elements.{All-nil, All-cons, All-append, All-weaker, All-set}
use Rattle.std.proofs.lemmas.Option.{slice_get-map}
use Rattle.demands.specs.declared.fault.Fault.TheVariants.{At}
use Rattle.name_scopes.specs.Names.{found}
use Rattle.bundle_laws.specs.Lemmas.Bodies.{found_added}
use Rattle.checked_code.specs.Lemmas.ConstantMembers.{holds_at}
use Rattle.type_definitions.specs.declared.definition.TypeDef.{TypeDef}
use Rattle.mu_values.specs.declared.scalars.Scalar.{Scalar}
use Rattle.ir_lex.specs.declared.name.Name.{Name}
use Rattle.bundle_names.specs.declared.globals.Sort.{Sort}
use Rattle.bundle_names.specs.declared.globals.Sort.TheVariants as sorts
use Rattle.check_tables.specs.TypeTests.{is_hybrid, is_no_hybrid}
use Rattle.check_tables.specs.Lookups.{written_number}
use Rattle.typed_heap.specs.Objects.{HeapObject, leaf_classes, object_of, filled, with_filled}
use Rattle.typed_heap.specs.Fits.{World, ScalarsFit}
use Rattle.typed_heap.specs.Laws.{ObjectFits, KeepsLeaves, Grows}
use Rattle.typed_heap.specs.Lemmas.Fitted.{has, some_and, object_fits, hybrid_fits, scalars_grow, added_keeps, set_keeps}
use Rattle.hail_load.specs.declared.fault.LoadKind.TheVariants.{WrongType, HeapFull}
use Rattle.hail_load.specs.declared.parts.Part.{Part}
use Rattle.hail_load.specs.declared.parts.Part.TheVariants.{Value, Hybrid}
use Rattle.hail_load.specs.declared.parts.Spot.{Spot}
use Rattle.hail_load.specs.declared.parts.Made.{Made}
use Rattle.hail_load.specs.declared.tree.Root.{Root}
use Rattle.hail_load.specs.declared.tree.Root.TheVariants as roots
use Rattle.hail_load.specs.declared.tree.Target.{Target}
use Rattle.hail_load.specs.declared.tree.Piece.{Piece}
use Rattle.hail_load.specs.declared.tree.Command.{Command}
use Rattle.hail_load.specs.declared.tree.Command.TheVariants as commands
use Rattle.hail_load.specs.Answering.{IsThere}
use Rattle.hail_load.specs.Code.{Code}
use Rattle.hail_load.specs.Known.{IsKnown}
use Rattle.hail_load.specs.LoadAnswers.{AreGlobals}
use Rattle.hail_load.specs.Parts.{leaves_of, size_of, indexed, made_spot, typed_spot, global_spot, root_spot, target_spot, ◌>>=◌}
use Rattle.hail_load.specs.Fitting.{Store}
use Rattle.hail_load.specs.Judging.{judged}
use Rattle.hail_load.specs.Loading.{Stored, Loaded, with_object, make, new_of, newhybrid_of, fill, init_of, done, go_on, load}
use Rattle.loaded_programs.proofs.Filling.{FitFirst, first_behind, set_fits}
use Rattle.loaded_programs.proofs.Parts.{went, Stands, indexed_stands}
use Rattle.loaded_programs.proofs.Sources.{Lawful, world_of}
use Rattle.loaded_programs.proofs.Judging.{judged_fits}

-- an object is this part, and no more
abbrev pub IsWhole : List TypeDef → List HeapObject → ℕ → Part → Type 0
IsWhole g os n part = IsThere g part × IsSomeAnd (slice_get os n) (λ o. o.leaves ≡ leaves_of g part)

-- all objects fit; those that there were before are there with their leaves; and each name stands for an object that is what it says
pub record IsSound (c : Code) (base : List HeapObject) (s : Store) : Type 0 where
  pub objects : All (ObjectFits c.graph (world_of c s.objects)) s.objects
  pub keeps : KeepsLeaves base s.objects
  pub made : (name : List ℕ) (m : Made) → found s.made name ≡ Some m → IsWhole c.graph s.objects m.object m.part

-- ---- objects that keep their leaves

keeps_on : (os ps qs : List HeapObject) → KeepsLeaves os ps → KeepsLeaves ps qs → KeepsLeaves os qs
keeps_on os ps qs f g n o e =
    let one = has (λ (p : HeapObject). p.leaves ≡ o.leaves) (slice_get ps n) (f n o e) in
    let two = has (λ (q : HeapObject). q.leaves ≡ one.value.leaves) (slice_get qs n) (g n one.value one.is) in
    some_and (λ (q : HeapObject). q.leaves ≡ o.leaves) (slice_get qs n) two.value two.is (two.holds ∙ one.holds)

pub grown : (c : Code) (os ps : List HeapObject) → KeepsLeaves os ps → Grows (world_of c os) (world_of c ps)
grown c os ps f = record { objects = f; signatures = refl; stacks = omega arith; threads = omega arith }

all_grown : (c : Code) (os ps qs : List HeapObject) → KeepsLeaves os ps → All (ObjectFits c.graph (world_of c os)) qs → All (ObjectFits c.graph (world_of c ps)) qs
all_grown c os ps qs f a =
    All-weaker (ObjectFits c.graph (world_of c os)) (ObjectFits c.graph (world_of c ps)) (λ o h. scalars_grow c.graph (world_of c os) (world_of c ps) o.leaves o.initial (grown c os ps f) h) qs a

whole_on : (g : List TypeDef) (os ps : List HeapObject) (n : ℕ) (part : Part) → KeepsLeaves os ps → IsWhole g os n part → IsWhole g ps n part
whole_on g os ps n part f h =
    let one = has (λ (o : HeapObject). o.leaves ≡ leaves_of g part) (slice_get os n) h.1 in
    let two = has (λ (p : HeapObject). p.leaves ≡ one.value.leaves) (slice_get ps n) (f n one.value one.is) in
    (h.0, some_and (λ (p : HeapObject). p.leaves ≡ leaves_of g part) (slice_get ps n) two.value two.is (two.holds ∙ one.holds))

whole_stands : (g : List TypeDef) (os : List HeapObject) (n : ℕ) (part : Part) → IsWhole g os n part → Stands g os (record { object = n; at = 0; part = part })
whole_stands g os n part h =
    let one = has (λ (o : HeapObject). o.leaves ≡ leaves_of g part) (slice_get os n) h.1 in
    record { object = one.value; is = one.is; before = []; behind = []; leaves = one.holds ∙ sym (append-nil (leaves_of g part)); offset = refl; there = h.0 }

newest_at : (os : List HeapObject) (o : HeapObject) → slice_get (os ++ o ∷ []) (length os) ≡ Some o
newest_at [] o = refl
newest_at (x ∷ xs) o = newest_at xs o

module _ (c : Code) (l : Lawful c) (k : IsKnown c) (base : List HeapObject) (globals : AreGlobals c base) where
  global_whole : (n t : ℕ) → slice_get c.globals n ≡ Some t → IsWhole c.graph base n (Value t)
  global_whole n t e =
      let there : slice_get base n ≡ Some (object_of c.graph (leaf_classes c.graph t)) =
      ap (λ (os : List HeapObject). slice_get os n) globals ∙ slice_get-map (λ (x : ℕ). object_of c.graph (leaf_classes c.graph x)) c.globals n ∙ ap (option_map (λ (x : ℕ). object_of c.graph (leaf_classes c.graph x))) e in
      (holds_at (λ x. x < length c.graph) c.globals n t k.globals e, some_and (λ (o : HeapObject). o.leaves ≡ leaf_classes c.graph t) (slice_get base n) (object_of c.graph (leaf_classes c.graph t)) there refl)

  -- ---- targets

  object_root : (s : Store) (n : Name) (o : Option Made) (spot : Spot) → IsSound c base s → found s.made n.text ≡ o → made_spot n o ≡ Ok spot → Stands c.graph s.objects spot
  object_root s n None spot h e f = cc
  object_root s n (Some m) spot h e f =
      let same : record { object = m.object; at = 0; part = m.part } ≡ spot = cc in
      subst (Stands c.graph s.objects) same (whole_stands c.graph s.objects m.object m.part (h.made n.text m e))

  type_root : (s : Store) (n : Name) (g : ℕ) (o : Option ℕ) (spot : Spot) → IsSound c base s → slice_get c.globals g ≡ o → typed_spot n g o ≡ Ok spot → Stands c.graph s.objects spot
  type_root s n g None spot h e f = cc
  type_root s n g (Some t) spot h e f =
      let same : record { object = g; at = 0; part = Value t } ≡ spot = cc in
      subst (Stands c.graph s.objects) same (whole_stands c.graph s.objects g (Value t) (whole_on c.graph base s.objects g (Value t) h.keeps (global_whole g t e)))

  global_root : (s : Store) (n : Name) (o : Option Sort) (spot : Spot) → IsSound c base s → global_spot c.globals n o ≡ Ok spot → Stands c.graph s.objects spot
  global_root s n (Some (sorts.GlobalCell g)) spot h f = type_root s n g (slice_get c.globals g) spot h refl f
  global_root s n _ spot h f = cc

  root_stands : (s : Store) (r : Root) (spot : Spot) → IsSound c base s → root_spot c s.made r ≡ Ok spot → Stands c.graph s.objects spot
  root_stands s (roots.Object n) spot h f = object_root s n (found s.made n.text) spot h refl f
  root_stands s (roots.Global n) spot h f = global_root s n (found c.names n.text) spot h f

  -- ---- new objects

  object_made : (s : Store) (n : Name) (part : Part) → IsSound c base s → IsThere c.graph part → ((w : World) → ObjectFits c.graph w (object_of c.graph (leaves_of c.graph part))) →
      IsSound c base (with_object c s n part)
  object_made s n part h there fit =
      let g = c.graph in
      let new : HeapObject = object_of g (leaves_of g part) in
      let os = s.objects ++ new ∷ [] in
      let kept : KeepsLeaves s.objects os = added_keeps s.objects new in
      let P = ObjectFits g (world_of c os) in
      let here : IsWhole g os (length s.objects) part = (there, some_and (λ (o : HeapObject). o.leaves ≡ leaves_of g part) (slice_get os (length s.objects)) new (newest_at s.objects new) refl) in
      record {
        objects = All-append P s.objects (new ∷ []) (all_grown c s.objects os s.objects kept h.objects) (All-cons P new [] (fit (world_of c os)) (All-nil P));
        keeps = keeps_on base s.objects os h.keeps kept;
        made = λ name m e. elim (found_added s.made n.text name (record { object = length s.objects; part = part }) m e) [
          | inl is ↦ subst (λ (x : Made). IsWhole g os x.object x.part) (sym is) here
          | inr old ↦ whole_on g s.objects os m.object m.part kept (h.made name m old)
        ];
      }

  make_sound : (s next : Store) (place : ℕ) (n : Name) (part : Part) → IsSound c base s → IsThere c.graph part → ((w : World) → ObjectFits c.graph w (object_of c.graph (leaves_of c.graph part))) →
      make c s place n part ≡ Ok next → IsSound c base next
  make_sound s next place n part h there fit e = by (nat_le (size_of c.graph part) s.left) e
    where
      by : (b : Bool) → (elim b as (λ _. Stored) [ true ↦ Ok (with_object c s n part) | false ↦ Err (At HeapFull place) ]) ≡ Ok next → IsSound c base next
      by true f = let same : with_object c s n part ≡ next = cc in subst (IsSound c base) same (object_made s n part h there fit)
      by false f = cc

  new_sound : (s next : Store) (place : ℕ) (n of_type : Name) (o : Option ℕ) → IsSound c base s → written_number (found c.names of_type.text) ≡ o → new_of c s place n of_type o ≡ Ok next → IsSound c base next
  new_sound s next place n of_type None h e f = cc
  new_sound s next place n of_type (Some t) h e f = by (is_no_hybrid (slice_get c.graph t)) f
    where
      by : (b : Bool) → (if b then make c s place n (Value t) else Err (At WrongType of_type.place)) ≡ Ok next → IsSound c base next
      by true g = make_sound s next place n (Value t) h (k.types of_type.text t e) (λ w. object_fits c.graph w t l.graph) g
      by false g = cc

  hybrid_sound : (s next : Store) (place : ℕ) (n of_type : Name) (many : ℕ) (o : Option ℕ) → IsSound c base s → written_number (found c.names of_type.text) ≡ o → newhybrid_of c s place n of_type many o ≡ Ok next →
      IsSound c base next
  hybrid_sound s next place n of_type many None h e f = cc
  hybrid_sound s next place n of_type many (Some t) h e f = by (is_hybrid (slice_get c.graph t)) f
    where
      by : (b : Bool) → (if b then make c s place n (Hybrid t many) else Err (At WrongType of_type.place)) ≡ Ok next → IsSound c base next
      by true g = make_sound s next place n (Hybrid t many) h (k.types of_type.text t e) (λ w. hybrid_fits c.graph w t many l.graph) g
      by false g = cc

  -- ---- cells

  cells_fit : (s : Store) (spot : Spot) (ss : List Scalar) → Stands c.graph s.objects spot → (w : World) → (o : HeapObject) → ScalarsFit c.graph w o.leaves o.initial → (before cs : List ℕ) → o.leaves ≡ before ++ cs →
      length before ≡ spot.at → FitFirst c.graph w cs ss → ScalarsFit c.graph w o.leaves (filled spot.at ss o).initial
  cells_fit s spot ss st w o fit before cs e at first =
      let g = c.graph in
      let was : ScalarsFit g w (before ++ cs) o.initial = subst (λ (xs : List ℕ). ScalarsFit g w xs o.initial) e fit in
      subst (λ (n : ℕ). ScalarsFit g w o.leaves ((take n o.initial ++ ss) ++ drop (n + length ss) o.initial)) at
      (subst (λ (xs : List ℕ). ScalarsFit g w xs ((take (length before) o.initial ++ ss) ++ drop (length before + length ss) o.initial)) (sym e) (set_fits g w before cs o.initial ss was first))

  fill_sound : (s : Store) (spot : Spot) (ss : List Scalar) → IsSound c base s → (st : Stands c.graph s.objects spot) → FitFirst c.graph (world_of c s.objects) (leaves_of c.graph spot.part) ss → IsSound c base (fill s spot ss)
  fill_sound s spot ss h st first =
      let g = c.graph in
      let w = world_of c s.objects in
      let o : HeapObject = st.object in
      let os : List HeapObject = slice_set s.objects spot.object (filled spot.at ss o) in
      let kept : KeepsLeaves s.objects os = set_keeps s.objects spot.object o (filled spot.at ss o) st.is refl in
      let old : ScalarsFit g w o.leaves o.initial = holds_at (ObjectFits g w) s.objects spot.object o h.objects st.is in
      let new : ScalarsFit g w o.leaves (filled spot.at ss o).initial =
      cells_fit s spot ss st w o old st.before (leaves_of g spot.part ++ st.behind) st.leaves st.offset (first_behind g w (leaves_of g spot.part) st.behind ss first) in
      let P = ObjectFits g w in
      let same : os ≡ with_filled s.objects spot.object spot.at ss (slice_get s.objects spot.object) = ap (with_filled s.objects spot.object spot.at ss) (sym st.is) in
      subst (λ (xs : List HeapObject). IsSound c base (record s { objects = xs })) same
      (record {
        objects = all_grown c s.objects os os kept (All-set P s.objects spot.object (filled spot.at ss o) new h.objects);
        keeps = keeps_on base s.objects os h.keeps kept;
        made = λ name m e. whole_on g s.objects os m.object m.part kept (h.made name m e);
      })

  init_sound : (s next : Store) (t : Target) (source : List Piece) → IsSound c base s → init_of c s t source ≡ Ok next → IsSound c base next
  init_sound s next t source h e =
      let g = c.graph in
      let one = went (target_spot c s.made t.root t.indexes) (λ spot. judged c s (spot.part ∷ []) source >>= λ ss. Ok (fill s spot ss)) next e in
      let two = went (judged c s (one.0.part ∷ []) source) (λ ss. Ok (fill s one.0 ss)) next one.2 in
      let same : fill s one.0 two.0 ≡ next = (let z = two.2 in cc) in
      let root = went (root_spot c s.made t.root) (λ x. indexed g x t.indexes) one.0 one.1 in
      let stands : Stands g s.objects one.0 = indexed_stands g l.graph l.leaves s.objects root.0 one.0 t.indexes (root_stands s t.root root.0 h root.1) root.2 in
      let alone : flat_map (leaves_of g) (one.0.part ∷ []) ≡ leaves_of g one.0.part = flat_map-cons (leaves_of g) one.0.part [] ∙ append-nil (leaves_of g one.0.part) in
      let first = judged_fits c l s (one.0.part ∷ []) source two.0 (All-cons (IsThere g) one.0.part [] stands.there (All-nil (IsThere g))) two.1 in
      subst (IsSound c base) same (fill_sound s one.0 two.0 h stands (subst (λ (cs : List ℕ). FitFirst g (world_of c s.objects) cs two.0) alone first))

  -- ---- commands

  done_sound : (s next : Store) (command : Command) → IsSound c base s → done c s command ≡ Ok next → IsSound c base next
  done_sound s next (commands.New place n of_type) h e = new_sound s next place n of_type (written_number (found c.names of_type.text)) h refl e
  done_sound s next (commands.NewHybrid place n of_type many) h e = hybrid_sound s next place n of_type many.number.magnitude (written_number (found c.names of_type.text)) h refl e
  done_sound s next (commands.Init t source) h e = init_sound s next t source h e

  went_on : (s : Store) (r : Stored) (more : Store → Loaded) → IsSound c base s → ((next : Store) → r ≡ Ok next → IsSound c base (more next).store) → IsSound c base (go_on s r more).store
  went_on s (Ok next) more h f = f next refl
  went_on s (Err fault) more h f = h

  pub load_sound : (s : Store) (xs : List Command) → IsSound c base s → IsSound c base (load c s xs).store
  load_sound s [] h = h
  load_sound s (x ∷ xs) h = went_on s (done c s x) (λ next. load c next xs) h (λ next e. load_sound next xs (done_sound s next x h e))
