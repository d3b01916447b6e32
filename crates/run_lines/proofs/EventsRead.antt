-- Each event of a run's log can be read back from its line.
use Rattle.std.specs.Prelude.{◌≡◌, ◌≤◌, ◌<◌, ◌==◌, ◌^◌, ◌||◌, ◌&&◌, ℕ, suc, Bool, true, false, nat_lt, List, [], ◌∷◌, Some, All, length, slice_get, refl}
use Rattle.std.proofs.Common.{sym, ◌∙◌, arith, lit<, lit≤, cond}
use Rattle.std.proofs.Math.Nat.{pow-le-pow_right}
use Rattle.std.proofs.lemmas.Bool.{eqb-true}
use Rattle.std.proofs.lemmas.Bool.Decides.{nat_tests}
use Rattle.std.proofs.lemmas.List.Elements.{All-cons, All-nil, All-head, All-tail}
use Rattle.std.proofs.lemmas.Option.{slice_get_within}
use Rattle.type_definitions.specs.declared.definition.TypeDef.{TypeDef}
use Rattle.type_definitions.specs.declared.definition.TypeDef.TheVariants as types
use Rattle.mu_base.specs.declared.order.Order.{Order}
use Rattle.mu_base.specs.declared.order.Order.TheVariants as orders
use Rattle.mu_values.specs.declared.scalars.Scalar.{Scalar}
use Rattle.mu_values.specs.declared.scalars.Scalar.TheVariants as scalars
use Rattle.mu_values.specs.declared.cells.CellId.{CellId}
use Rattle.mu_values.specs.CellLaws.{same_cell-refl}
use Rattle.typed_heap.specs.Objects.{HeapObject}
use Rattle.typed_heap.specs.Fits.{World, DefinitionFits, ScalarFits, place_fits, fits}
use Rattle.mem_axioms.specs.Events.{is_wake}
use Rattle.mem_axioms.specs.EventFits.{is_thread, wakes_at}
use Rattle.mem_axioms.specs.Form.{has_form, fits_form_by, is_value_at}
use Rattle.mem_axioms.specs.Logs.{newest}
use Rattle.mem_axioms.specs.Events.{modifies}
use Rattle.mem_axioms.specs.Lemmas.Positions.{form-parts, fits-position}
use Rattle.mem_axioms.specs.declared.types.Mode.{Mode}
use Rattle.mem_axioms.specs.declared.types.Mode.TheVariants as modes
use Rattle.mem_axioms.specs.declared.types.Kind.{Kind}
use Rattle.mem_axioms.specs.declared.types.Kind.TheVariants as kinds
use Rattle.mem_axioms.specs.declared.types.Event.{Event}
use Rattle.model_laws.specs.LogFits.{EachFollows, KindFits, KindFollows, LoggedFits}
use Rattle.checked_code.specs.Accesses.{may_fence}
use Rattle.model_laws.specs.Orders as model
use Rattle.model_laws.specs.Printable.{EventIsPrintable, KindIsPrintable}
use Rattle.model_laws.specs.Values.{leaf_at}
use Rattle.model_laws.specs.Lemmas.Basics.{some_of}
use Rattle.model_laws.specs.Lemmas.Bounded.{some_inside}
use Rattle.model_laws.specs.Lemmas.Keeps.{at_place}
use Rattle.log_lines.specs.Words.{is_order_of, is_fence_order}
use Rattle.log_lines.specs.Values.{is_name}
use Rattle.log_lines.specs.EventTexts.{NameOf}
use Rattle.log_lines.specs.Readable.{ScalarIsReadable, CellIsReadable, KindIsReadable, EventIsReadable}

-- ---- orders: those that an event line may have are those that instructions may be written with

order_same : (m : Mode) (o : Order) → model.may_access m o ≡ is_order_of m o
order_same modes.Read orders.NotAtomic = refl
order_same modes.Read orders.Relaxed = refl
order_same modes.Read orders.Consume = refl
order_same modes.Read orders.Acquire = refl
order_same modes.Read orders.Release = refl
order_same modes.Read orders.AcqRel = refl
order_same modes.Read orders.SeqCst = refl
order_same modes.Write orders.NotAtomic = refl
order_same modes.Write orders.Relaxed = refl
order_same modes.Write orders.Consume = refl
order_same modes.Write orders.Acquire = refl
order_same modes.Write orders.Release = refl
order_same modes.Write orders.AcqRel = refl
order_same modes.Write orders.SeqCst = refl
order_same modes.Update orders.NotAtomic = refl
order_same modes.Update orders.Relaxed = refl
order_same modes.Update orders.Consume = refl
order_same modes.Update orders.Acquire = refl
order_same modes.Update orders.Release = refl
order_same modes.Update orders.AcqRel = refl
order_same modes.Update orders.SeqCst = refl

fence_same : (o : Order) → may_fence o ≡ is_fence_order o
fence_same orders.NotAtomic = refl
fence_same orders.Relaxed = refl
fence_same orders.Consume = refl
fence_same orders.Acquire = refl
fence_same orders.Release = refl
fence_same orders.AcqRel = refl
fence_same orders.SeqCst = refl

-- ---- threads, wakes and positions, by the log only

or_more : (a b c : Bool) → (a || b) ≡ true → (a || (c || b)) ≡ true
or_more true b c h = refl
or_more false b true h = refl
or_more false b false h = h

or_made : (a b c : Bool) → b ≡ true → (a || (b || c)) ≡ true
or_made true b c h = refl
or_made false b c h = rw h refl

itself : (n : ℕ) → (n == n) ≡ true
itself n = grind (arith, nat_tests)

wake_below : (past : List Event) (wake : ℕ) → wakes_at past wake ≡ true → wake < length past
wake_below [] wake h = absurd (cc)
wake_below (e ∷ past) wake h = by (length past == wake) (is_wake e) refl h (wake_below past wake)
  where
    by : (b i : Bool) → (length past == wake) ≡ b → ((b && i) || wakes_at past wake) ≡ true → (wakes_at past wake ≡ true → wake < length past) → wake < suc (length past)
    by true i q h ih = let same : length past ≡ wake = eqb-true (length past) wake q in omega (arith, same)
    by false i q h ih = omega (arith, ih h)

newest_short : (log : List Event) (cell : CellId) → newest log cell ≤ length log
newest_short [] cell = omega arith
newest_short (e ∷ past) cell = by (modifies cell e) (newest_short past cell)
  where
    by : (b : Bool) → newest past cell ≤ length past → cond b (suc (newest past cell)) (newest past cell) ≤ suc (length past)
    by true l = omega (arith, l)
    by false l = omega (arith, l)

-- ---- values

-- the numbers of objects, cells and stacks fit 32 bits, integers 128, and functions have names
pub record IsBounded (name_of : NameOf) (graph : List TypeDef) (w : World) : Type 0 where
  pub wide : (c v : ℕ) → slice_get graph c ≡ Some (types.Int v) → v ≤ 128
  pub functions : (f : ℕ) → f < length w.signatures → is_name (name_of f) ≡ true
  pub objects : length w.objects < 2 ^ 32
  pub cells : All (λ (o : HeapObject). length o.leaves < 2 ^ 32) w.objects
  pub stacks : w.stacks < 2 ^ 32
  pub threads : w.threads ≤ 64

place_within : (at n : ℕ) (b : Bool) → ((at == n) || (nat_lt at n && b)) ≡ true → at ≤ n
place_within at n b h = grind (arith, nat_tests)

module _ (name_of : NameOf) (graph : List TypeDef) (w : World) (b : IsBounded name_of graph w) where
  scalar_readable : (c : ℕ) (s : Scalar) → ScalarFits graph w c s → ScalarIsReadable name_of s
  scalar_readable c s h = let d : (d : TypeDef) × (slice_get graph c ≡ Some d) × DefinitionFits graph w d s = some_of (slice_get graph c) (λ d. DefinitionFits graph w d s) h in by d.0 s d.1 d.2
    where
      by : (d : TypeDef) (s : Scalar) → slice_get graph c ≡ Some d → DefinitionFits graph w d s → ScalarIsReadable name_of s
      by (types.Int width) (scalars.Int v n) e h = let most : 2 ^ width ≤ 2 ^ 128 = pow-le-pow_right (lit≤ tt) (b.wide c width e) in omega (arith, h.1, most)
      by (types.Ref t) scalars.Null e h = tt
      by (types.Ref t) (scalars.Object n) e h =
          let o : (o : HeapObject) × (slice_get w.objects n ≡ Some o) × (fits graph t o.leaves ≡ true) = some_of (slice_get w.objects n) (λ o. fits graph t o.leaves ≡ true) h in
          omega (arith, b.objects, slice_get_within w.objects n o.0 o.1)
      by (types.Iref t) scalars.Null e h = tt
      by (types.Iref t) (scalars.Place n at) e h =
          let o : (o : HeapObject) × (slice_get w.objects n ≡ Some o) × (place_fits graph t o at ≡ true) = some_of (slice_get w.objects n) (λ o. place_fits graph t o at ≡ true) h in
          let small : length o.0.leaves < 2 ^ 32 = at_place (λ (o : HeapObject). length o.leaves < 2 ^ 32) w.objects n o.0 b.cells o.1 in
          (omega (arith, b.objects, slice_get_within w.objects n o.0 o.1), omega (arith, small, place_within at (length o.0.leaves) _ o.2))
      by (types.FuncRef s) scalars.Null e h = tt
      by (types.FuncRef s) (scalars.Func f) e h =
          let g : (g : ℕ) × (slice_get w.signatures f ≡ Some g) × _ = some_of (slice_get w.signatures f) _ h in
          b.functions f (slice_get_within w.signatures f g.0 g.1)
      by types.StackRef scalars.Null e h = tt
      by types.StackRef (scalars.Stack k) e h = omega (arith, h, b.stacks)
      by types.ThreadRef scalars.Null e h = tt
      by types.ThreadRef (scalars.Thread i) e h = omega (arith, h, b.threads)
      by d s e h = absurd h

  cell_readable : (cell : CellId) (c : ℕ) → leaf_at w.objects cell ≡ Some c → CellIsReadable cell
  cell_readable cell c e =
      let o = some_inside (slice_get w.objects cell.object) (λ (o : HeapObject). slice_get o.leaves cell.at) c e in
      let small : length o.0.leaves < 2 ^ 32 = at_place (λ (o : HeapObject). length o.leaves < 2 ^ 32) w.objects cell.object o.0 b.cells o.1 in
      (omega (arith, b.objects, slice_get_within w.objects cell.object o.0 o.1), omega (arith, small, slice_get_within o.0.leaves cell.at c o.2))

  -- ---- events

  module _ (initial : CellId → Scalar) where
    kind_readable : (i : ℕ) (k : Kind) (past : List Event) → KindFits graph w k → KindIsPrintable w.stacks k → KindFollows past k → fits_form_by (is_value_at initial) past (record { thread = i; kind = k }) ≡ true →
        ((j : ℕ) → is_thread (record { thread = i; kind = k } ∷ past) j ≡ true → j < 64) → suc (length past) < 2 ^ 32 → KindIsReadable name_of k
    kind_readable i (kinds.Access mode cell order position value) past fit names follows form threads short =
        let e : Event = record { thread = i; kind = kinds.Access mode cell order position value } in
        let leaf : (c : ℕ) × (leaf_at w.objects cell ≡ Some c) × ScalarFits graph w c value = some_of (leaf_at w.objects cell) (λ c. ScalarFits graph w c value) fit in
        let at : position ≤ newest (e ∷ past) cell = fits-position (is_value_at initial) past e cell form (same_cell-refl cell) in
        (sym (order_same mode order) ∙ names, cell_readable cell leaf.0 leaf.1, omega (arith, at, newest_short (e ∷ past) cell, short), scalar_readable leaf.0 value leaf.2)
    kind_readable i (kinds.Fence order) past fit names follows form threads short = sym (fence_same order) ∙ names
    kind_readable i (kinds.NewStack k) past fit names follows form threads short = omega (arith, names, b.stacks)
    kind_readable i (kinds.NewThread j) past fit names follows form threads short = threads j (or_made (j == 0) (j == j) _ (itself j))
    kind_readable i (kinds.Leave k) past fit names follows form threads short = omega (arith, names, b.stacks)
    kind_readable i (kinds.Enter k) past fit names follows form threads short = omega (arith, names, b.stacks)
    kind_readable i (kinds.Wake cell many) past fit names follows form threads short =
        let leaf : (c : ℕ) × (leaf_at w.objects cell ≡ Some c) × _ = some_of (leaf_at w.objects cell) _ fit in
        let big : 64 < 2 ^ 32 = lit< tt in
        (cell_readable cell leaf.0 leaf.1, omega (arith, names, big))
    kind_readable i (kinds.Woken n) past fit names follows form threads short = omega (arith, wake_below past n follows, short)

    pub log_readable : (log : List Event) → All (LoggedFits graph w) log → All (EventIsPrintable w.stacks) log → EachFollows log → has_form initial log ≡ true → ((j : ℕ) → is_thread log j ≡ true → j < 64) → length log < 2 ^ 32 →
        All (EventIsReadable name_of) log
    log_readable [] fit names follows form threads short = All-nil (EventIsReadable name_of)
    log_readable (e ∷ past) fit names follows form threads short =
        let parts = form-parts (is_value_at initial) e past form in
        let before : (j : ℕ) → is_thread past j ≡ true → j < 64 = λ j h. threads j (or_more (j == 0) _ _ h) in
        All-cons (EventIsReadable name_of) e past
        (before e.thread follows.0, kind_readable e.thread e.kind past (All-head (LoggedFits graph w) e past fit) (All-head (EventIsPrintable w.stacks) e past names) follows.1 parts.0 threads short)
        (log_readable past (All-tail (LoggedFits graph w) e past fit) (All-tail (EventIsPrintable w.stacks) e past names) follows.2 parts.1 before (omega (arith, short)))
