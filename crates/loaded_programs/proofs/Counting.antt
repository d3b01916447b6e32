-- How many cells are left behind some commands.
use Rattle.std.proofs.Common.{◌≡◌, ℕ, zero, suc, ◌+◌, ◌≤◌, Bool, true, false, nat_le, List, [], ◌∷◌, ◌++◌, length, drop, map, Option, Some, None, Ok, Err, slice_get, if◌then◌else◌, refl, sym, ◌∙◌, ap, subst, arith, inl, inr}
use Rattle.std.specs.Prelude.{slice_set, sum_by}
use Rattle.std.proofs.lemmas.List.{drop-append-le}
use Rattle.std.proofs.lemmas.List.Sums.{sum_by-append, sum_by-cons}
use Rattle.std.proofs.lemmas.Bool.Decides.{leb_tells}
use Rattle.demands.specs.declared.fault.Fault.TheVariants.{At}
use Rattle.name_scopes.specs.Names.{found}
use Rattle.mu_values.specs.declared.scalars.Scalar.{Scalar}
use Rattle.ir_lex.specs.declared.name.Name.{Name}
use Rattle.check_tables.specs.TypeTests.{is_hybrid, is_no_hybrid}
use Rattle.check_tables.specs.Lookups.{written_number}
use Rattle.checked_code.specs.Checking.{bundle_tables}
use Rattle.typed_heap.specs.Objects.{HeapObject, object_of, filled, with_filled}
use Rattle.hail_load.specs.declared.fault.LoadKind.TheVariants.{WrongType, HeapFull}
use Rattle.hail_load.specs.declared.parts.Part.{Part}
use Rattle.hail_load.specs.declared.parts.Part.TheVariants.{Value, Hybrid}
use Rattle.hail_load.specs.declared.parts.Spot.{Spot}
use Rattle.hail_load.specs.declared.tree.Target.{Target}
use Rattle.hail_load.specs.declared.tree.Piece.{Piece}
use Rattle.hail_load.specs.declared.tree.Command.{Command}
use Rattle.hail_load.specs.declared.tree.Command.TheVariants as commands
use Rattle.hail_load.specs.Code.{Code, code_of}
use Rattle.hail_load.specs.Parts.{leaves_of, size_of, target_spot, ◌>>=◌}
use Rattle.hail_load.specs.Fitting.{Store}
use Rattle.hail_load.specs.Judging.{judged}
use Rattle.hail_load.specs.Loading.{Stored, Loaded, with_object, make, new_of, newhybrid_of, fill, done, go_on, load}
use Rattle.hail_load.specs.Lemmas.Steps.{hybrid_size}
use Rattle.mu_model.specs.Run.{global_objects}
use Rattle.loaded_programs.specs.Laws.{CellsAreCounted}
use Rattle.loaded_programs.proofs.Parts.{went}

-- ---- the cells of the objects behind the first g

abbrev taken : ℕ → List HeapObject → ℕ
taken g os = sum_by (λ (o : HeapObject). length o.leaves) (drop g os)

taken_more : (g : ℕ) (os : List HeapObject) (o : HeapObject) → g ≤ length os → taken g (os ++ o ∷ []) ≡ taken g os + length o.leaves
taken_more g os o l =
    ap (sum_by (λ (o : HeapObject). length o.leaves)) (drop-append-le g os (o ∷ []) l)
    ∙ sum_by-append (λ (o : HeapObject). length o.leaves) (drop g os) (o ∷ [])
    ∙ ap (λ n. taken g os + n) (sum_by-cons (λ (o : HeapObject). length o.leaves) o [] ∙ omega arith)

length_more : (os : List HeapObject) (o : HeapObject) → length os ≤ length (os ++ o ∷ [])
length_more [] o = omega arith
length_more (x ∷ os) o = let more = length_more os o in omega (arith, more)

-- setting cells of an object changes none of it
taken_set : (os : List HeapObject) (n : ℕ) (o p : HeapObject) → slice_get os n ≡ Some o → p.leaves ≡ o.leaves → (g : ℕ) → (taken g (slice_set os n p) ≡ taken g os) × (length os ≤ length (slice_set os n p))
taken_set [] n o p e same g = cc
taken_set (x ∷ os) zero o p e same zero =
    let is : x ≡ o = cc in
    let long : length p.leaves ≡ length x.leaves = ap length (same ∙ ap (λ (o : HeapObject). o.leaves) (sym is)) in
    (sum_by-cons (λ (o : HeapObject). length o.leaves) p os ∙ ap (λ n. n + taken 0 os) long ∙ sym (sum_by-cons (λ (o : HeapObject). length o.leaves) x os), omega arith)
taken_set (x ∷ os) zero o p e same (suc g) = (refl, omega arith)
taken_set (x ∷ os) (suc n) o p e same zero =
    let more = taken_set os n o p e same zero in
    (sum_by-cons (λ (o : HeapObject). length o.leaves) x (slice_set os n p) ∙ ap (λ k. length x.leaves + k) more.0 ∙ sym (sum_by-cons (λ (o : HeapObject). length o.leaves) x os), omega (arith, more.1))
taken_set (x ∷ os) (suc n) o p e same (suc g) = let more = taken_set os n o p e same g in (more.0, omega (arith, more.1))

-- ---- what is left and what was taken are the cells that there may be

record IsCounted (g cells : ℕ) (s : Store) : Type 0 where
  pub globals : g ≤ length s.objects
  pub counted : s.left + taken g s.objects ≡ cells

module _ (g cells : ℕ) where
  fill_counted : (s : Store) (spot : Spot) (ss : List Scalar) → IsCounted g cells s → IsCounted g cells (fill s spot ss)
  fill_counted s spot ss h = by (slice_get s.objects spot.object) refl
    where
      by : (o : Option HeapObject) → slice_get s.objects spot.object ≡ o → IsCounted g cells (record s { objects = with_filled s.objects spot.object spot.at ss o })
      by None e = h
      by (Some o) e =
          let more = taken_set s.objects spot.object o (filled spot.at ss o) e refl g in
          let enough = h.globals in
          let all = h.counted in
          record { globals = omega (arith, enough, more.1); counted = omega (arith, all, more.0) }

  made_counted : (c : Code) (s : Store) (n : Name) (part : Part) → length (leaves_of c.graph part) ≡ size_of c.graph part → size_of c.graph part ≤ s.left → IsCounted g cells s → IsCounted g cells (with_object c s n part)
  made_counted c s n part long l h =
      let more = taken_more g s.objects (object_of c.graph (leaves_of c.graph part)) h.globals in
      let longer = length_more s.objects (object_of c.graph (leaves_of c.graph part)) in
      let enough = h.globals in
      let all = h.counted in
      record { globals = omega (arith, enough, longer); counted = omega (arith, all, more, long, l) }

  make_counted : (c : Code) (s next : Store) (place : ℕ) (n : Name) (part : Part) → length (leaves_of c.graph part) ≡ size_of c.graph part → IsCounted g cells s → make c s place n part ≡ Ok next → IsCounted g cells next
  make_counted c s next place n part long h e = by (nat_le (size_of c.graph part) s.left) refl e
    where
      made : (b : Bool) → Stored
      made b = elim b [ true ↦ Ok (with_object c s n part) | false ↦ Err (At HeapFull place) ]

      by : (b : Bool) → nat_le (size_of c.graph part) s.left ≡ b → made b ≡ Ok next → IsCounted g cells next
      by true t k =
          let same : with_object c s n part ≡ next = cc in
          let l : size_of c.graph part ≤ s.left = elim (leb_tells (size_of c.graph part) s.left) [ inl y ↦ y.1 | inr z ↦ (let no = z.0 in cc) ] in
          subst (IsCounted g cells) same (made_counted c s n part long l h)
      by false t k = cc

  new_counted : (c : Code) (s next : Store) (place : ℕ) (n of_type : Name) (o : Option ℕ) → IsCounted g cells s → new_of c s place n of_type o ≡ Ok next → IsCounted g cells next
  new_counted c s next place n of_type None h e = cc
  new_counted c s next place n of_type (Some t) h e = by (is_no_hybrid (slice_get c.graph t)) e
    where
      by : (b : Bool) → (if b then make c s place n (Value t) else Err (At WrongType of_type.place)) ≡ Ok next → IsCounted g cells next
      by true k = make_counted c s next place n (Value t) refl h k
      by false k = cc

  hybrid_counted : (c : Code) (s next : Store) (place : ℕ) (n of_type : Name) (many : ℕ) (o : Option ℕ) → IsCounted g cells s → newhybrid_of c s place n of_type many o ≡ Ok next → IsCounted g cells next
  hybrid_counted c s next place n of_type many None h e = cc
  hybrid_counted c s next place n of_type many (Some t) h e = by (is_hybrid (slice_get c.graph t)) e
    where
      by : (b : Bool) → (if b then make c s place n (Hybrid t many) else Err (At WrongType of_type.place)) ≡ Ok next → IsCounted g cells next
      by true k = make_counted c s next place n (Hybrid t many) (hybrid_size c.graph t many) h k
      by false k = cc

  init_counted : (c : Code) (s next : Store) (t : Target) (source : List Piece) → IsCounted g cells s → done c s (commands.Init t source) ≡ Ok next → IsCounted g cells next
  init_counted c s next t source h e =
      let one = went (target_spot c s.made t.root t.indexes) (λ spot. judged c s (spot.part ∷ []) source >>= λ ss. Ok (fill s spot ss)) next e in
      let two = went (judged c s (one.0.part ∷ []) source) (λ ss. Ok (fill s one.0 ss)) next one.2 in
      let same : fill s one.0 two.0 ≡ next = (let z = two.2 in cc) in
      subst (IsCounted g cells) same (fill_counted s one.0 two.0 h)

  done_counted : (c : Code) (s next : Store) (command : Command) → IsCounted g cells s → done c s command ≡ Ok next → IsCounted g cells next
  done_counted c s next (commands.New place n of_type) h e = new_counted c s next place n of_type (written_number (found c.names of_type.text)) h e
  done_counted c s next (commands.NewHybrid place n of_type many) h e = hybrid_counted c s next place n of_type many.number.magnitude (written_number (found c.names of_type.text)) h e
  done_counted c s next (commands.Init t source) h e = init_counted c s next t source h e

  went_on : (s : Store) (r : Stored) (more : Store → Loaded) → IsCounted g cells s → ((next : Store) → r ≡ Ok next → IsCounted g cells (more next).store) → IsCounted g cells (go_on s r more).store
  went_on s (Ok next) more h f = f next refl
  went_on s (Err fault) more h f = h

  load_counted : (c : Code) (s : Store) (xs : List Command) → IsCounted g cells s → IsCounted g cells (load c s xs).store
  load_counted c s [] h = h
  load_counted c s (x ∷ xs) h = went_on s (done c s x) (λ next. load c next xs) h (λ next e. load_counted c next xs (done_counted c s next x h e))

-- ---- a run begins with no object but those of the globals

none_behind : (f : ℕ → HeapObject) (xs : List ℕ) → (drop (length xs) (map f xs) ≡ []) × (length xs ≤ length (map f xs))
none_behind f [] = (refl, omega arith)
none_behind f (x ∷ xs) = let more = none_behind f xs in (more.0, omega (arith, more.1))

pub cells_are_counted : CellsAreCounted
cells_are_counted bundle commands cells =
    let p = bundle_tables bundle in
    let g = length p.global_cells in
    let s : Store = record { objects = global_objects p; left = cells; made = [] } in
    let none = none_behind _ p.global_cells in
    let nothing : taken g s.objects ≡ 0 = ap (sum_by (λ (o : HeapObject). length o.leaves)) none.0 in
    let first : IsCounted g cells s = record { globals = none.1; counted = omega (arith, nothing) } in
    let last = load_counted g cells (code_of bundle) s commands first in
    let all = last.counted in
    omega (arith, all)
