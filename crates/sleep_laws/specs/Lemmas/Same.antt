-- The test that two moves are the same.
use Rattle.std.specs.Prelude.{◌≡◌, ℕ, zero, suc, Bool, true, false, ◌==◌, ◌&&◌, ◌||◌, List, [], ◌∷◌, Option, Some, None, refl}
use Rattle.std.proofs.Common.{sym, ◌∙◌, ap, inl, inr, ◌⊎◌}
use Rattle.std.specs.List.{list_any}
use Rattle.std.proofs.lemmas.Bool.{and_parts, eqb-true, or_cases, false≢true}
use Rattle.mu_base.specs.declared.order.Order.{Order}
use Rattle.mu_base.specs.declared.order.Order.TheVariants as orders
use Rattle.mu_values.specs.declared.scalars.Scalar.{Scalar}
use Rattle.mu_values.specs.declared.cells.CellId.{CellId}
use Rattle.mu_values.specs.SameScalar.{same_scalar}
use Rattle.mu_values.specs.ScalarLaws.{same_scalar-true}
use Rattle.mu_values.specs.SameCell.{same_cell}
use Rattle.mu_values.specs.CellLaws.{same_cell-true}
use Rattle.mem_axioms.specs.declared.types.Mode.{Mode}
use Rattle.mem_axioms.specs.declared.types.Mode.TheVariants as modes
use Rattle.mem_axioms.specs.declared.types.Kind.{Kind}
use Rattle.mem_axioms.specs.declared.types.Kind.TheVariants as kinds
use Rattle.mem_axioms.specs.declared.types.Event.{Event}
use Rattle.exchange_laws.specs.Sleep.{At, Member}
use Rattle.sleep_moves.specs.Moves.{Move, order_number, mode_number, same_kind, same_event, same_move, sleeps}

abbrev order_by : ℕ → Order
order_by zero = orders.NotAtomic
order_by (suc zero) = orders.Relaxed
order_by (suc (suc zero)) = orders.Consume
order_by (suc (suc (suc zero))) = orders.Acquire
order_by (suc (suc (suc (suc zero)))) = orders.Release
order_by (suc (suc (suc (suc (suc zero))))) = orders.AcqRel
order_by _ = orders.SeqCst

order_back : (o : Order) → order_by (order_number o) ≡ o
order_back orders.NotAtomic = refl
order_back orders.Relaxed = refl
order_back orders.Consume = refl
order_back orders.Acquire = refl
order_back orders.Release = refl
order_back orders.AcqRel = refl
order_back orders.SeqCst = refl

same_order : (o q : Order) → (order_number o == order_number q) ≡ true → o ≡ q
same_order o q h = sym (order_back o) ∙ ap order_by (eqb-true (order_number o) (order_number q) h) ∙ order_back q

abbrev mode_by : ℕ → Mode
mode_by zero = modes.Read
mode_by (suc zero) = modes.Write
mode_by _ = modes.Update

mode_back : (m : Mode) → mode_by (mode_number m) ≡ m
mode_back modes.Read = refl
mode_back modes.Write = refl
mode_back modes.Update = refl

same_mode : (m n : Mode) → (mode_number m == mode_number n) ≡ true → m ≡ n
same_mode m n h = sym (mode_back m) ∙ ap mode_by (eqb-true (mode_number m) (mode_number n) h) ∙ mode_back n

same_kind-true : (k l : Kind) → same_kind k l ≡ true → k ≡ l
same_kind-true (kinds.Access m cell order position value) (kinds.Access n other order_too place scalar) h =
    let p = and_parts ((((mode_number m == mode_number n) && same_cell cell other) && (order_number order == order_number order_too)) && (position == place)) (same_scalar value scalar) h in
    let q = and_parts (((mode_number m == mode_number n) && same_cell cell other) && (order_number order == order_number order_too)) (position == place) p.0 in
    let r = and_parts ((mode_number m == mode_number n) && same_cell cell other) (order_number order == order_number order_too) q.0 in
    let s = and_parts (mode_number m == mode_number n) (same_cell cell other) r.0 in
    ap (λ m. kinds.Access m cell order position value) (same_mode m n s.0)
    ∙ ap (λ cell. kinds.Access n cell order position value) (same_cell-true cell other s.1)
    ∙ ap (λ order. kinds.Access n other order position value) (same_order order order_too r.1)
    ∙ ap (λ position. kinds.Access n other order_too position value) (eqb-true position place q.1)
    ∙ ap (kinds.Access n other order_too place) (same_scalar-true value scalar p.1)
same_kind-true (kinds.Fence o) (kinds.Fence q) h = ap kinds.Fence (same_order o q h)
same_kind-true _ _ h = absurd (false≢true h)

same_event-true : (x y : Option Event) → same_event x y ≡ true → x ≡ y
same_event-true (Some e) (Some f) h =
    let p = and_parts (e.thread == f.thread) (same_kind e.kind f.kind) h in
    ap (λ t. Some (record { thread = t; kind = e.kind })) (eqb-true e.thread f.thread p.0) ∙ ap (λ k. Some (record { thread = f.thread; kind = k })) (same_kind-true e.kind f.kind p.1)
same_event-true (Some e) None h = absurd (false≢true h)
same_event-true None y h = absurd (false≢true h)

same_move-true : (a b : Move) → same_move a b ≡ true → a ≡ b
same_move-true a b h =
    let p = and_parts (a.thread == b.thread) (same_event a.event b.event) h in
    ap (λ t. record { thread = t; event = a.event }) (eqb-true a.thread b.thread p.0) ∙ ap (λ e. record { thread = b.thread; event = e }) (same_event-true a.event b.event p.1)

-- what the test finds asleep is among what sleeps
pub among : (a : Move) (sleep : List Move) → sleeps a sleep ≡ true → Member a sleep
among a [] h = absurd (false≢true h)
among a (b ∷ sleep) h = by (or_cases (same_move a b) (list_any (same_move a) sleep) h) (among a sleep)
  where
    by : (same_move a b ≡ true) ⊎ (list_any (same_move a) sleep ≡ true) → (list_any (same_move a) sleep ≡ true → Member a sleep) → Member a (b ∷ sleep)
    by (inl q) more = (0, same_move-true a b q)
    by (inr q) more = let r = more q in (suc r.0, r.1)
