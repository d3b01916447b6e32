-- Laws of the acts that make objects, cast references and find places.
use Rattle.std.specs.Prelude.{◌≡◌, ◌≢◌, ℕ, ◌+◌, ◌-◌, ◌^◌, ◌<◌, ◌≤◌, Bool, true, false, min, List, ◌++◌, Option, Some, None, IsSome, Result, Err, IfErr, if◌then◌else◌, refl}
use Rattle.std.proofs.Common.{sym, ◌∙◌, ap, subst, arith, inl, inr}
use Rattle.std.proofs.lemmas.Bool.Decides.{leb_tells}
use Rattle.std.proofs.Math.Nat.{min-eq_left, min-eq_right}
use Rattle.ir_tree.specs.declared.items.Item.{Item}
use Rattle.mu_values.specs.declared.scalars.Scalar.{Scalar}
use Rattle.mu_values.specs.declared.scalars.Scalar.TheVariants.{Object}
use Rattle.checked_code.specs.Checking.{bundle_tables}
use Rattle.typed_heap.specs.declared.faults.PlaceFault.{PlaceFault}
use Rattle.typed_heap.specs.declared.faults.HeapFault.{HeapFault}
use Rattle.typed_heap.specs.declared.faults.HeapFault.TheVariants as heaps
use Rattle.typed_heap.specs.Heap.{told_cells}
use Rattle.typed_heap.specs.Places.{with_some, Way, move, find_place}
use Rattle.frames.specs.Activations.{Value, Goal, Activation}
use Rattle.frames.specs.Chains.{stands}
use Rattle.mu_model.specs.declared.endings.Ending.TheVariants.{HeapFull}
use Rattle.mu_model.specs.Types.{class_definition}
use Rattle.mu_model.specs.Acts.{Casts, Finds, Doing}
use Rattle.mu_model.specs.Objects.{cast_any}
use Rattle.mu_model.specs.Frames.{onward}
use Rattle.mu_model.specs.Outcomes.{Outcome, Stuck, has_result}
use Rattle.model_numbers.specs.Numbered.{numbered}
use Rattle.object_acts.specs.declared.making.Making.{Making}
use Rattle.object_acts.specs.declared.making.Making.TheVariants as kinds
use Rattle.run_state.specs.Held.{Held}
use Rattle.run_state.specs.Acting.{begun, turn, acting, goes_on}
use Rattle.object_acts.specs.Making.{tells, graph_of, owns, frame_made, IsFull}
use Rattle.run_state.specs.StepLaws.{acting_there, acting_is, tried_found, tried_at}

-- ---- what is found

-- it is the result of the instruction
abbrev gives_by : List Item → Held → Doing → Scalar → Outcome
gives_by bundle s d x = has_result (numbered bundle) (begun s) (turn s d) x

pub finds_there : (bundle : List Item) (s : Held) (way : Way) (x : Scalar) → acting bundle s (Finds way x) ≢ Stuck → IsSome (find_place (graph_of bundle) s.objects (move (graph_of bundle) way) x)
finds_there bundle s way x h =
    let r = acting_there bundle s (Finds way x) h in
    tried_found (numbered bundle) s r.0 (find_place (graph_of bundle) s.objects (move (graph_of bundle) way) x) (gives_by bundle s r.0) r.2

pub finds_is : (bundle : List Item) (s : Held) (way : Way) (x : Scalar) (r : Result Scalar PlaceFault) → acting bundle s (Finds way x) ≢ Stuck
    → find_place (graph_of bundle) s.objects (move (graph_of bundle) way) x ≡ Some r → acting bundle s (Finds way x) ≡ tells bundle s r
unfolding acting
finds_is bundle s way x r h e =
    let d = acting_there bundle s (Finds way x) h in
    acting_is bundle s (Finds way x) d.0 d.1 ∙ tried_at bundle s d.0 (find_place (graph_of bundle) s.objects (move (graph_of bundle) way) x) r (gives_by bundle s) d.1 e

pub casts_there : (bundle : List Item) (s : Held) (class : ℕ) (x : Scalar) → acting bundle s (Casts class x) ≢ Stuck → IsSome (cast_any (bundle_tables bundle) s.objects (class_definition (bundle_tables bundle) class) x)
casts_there bundle s class x h =
    let r = acting_there bundle s (Casts class x) h in
    tried_found (numbered bundle) s r.0 (cast_any (bundle_tables bundle) s.objects (class_definition (bundle_tables bundle) class) x) (gives_by bundle s r.0) r.2

pub casts_is : (bundle : List Item) (s : Held) (class : ℕ) (x : Scalar) (r : Result Scalar PlaceFault) → acting bundle s (Casts class x) ≢ Stuck
    → cast_any (bundle_tables bundle) s.objects (class_definition (bundle_tables bundle) class) x ≡ Some r → acting bundle s (Casts class x) ≡ tells bundle s r
unfolding acting
casts_is bundle s class x r h e =
    let d = acting_there bundle s (Casts class x) h in
    acting_is bundle s (Casts class x) d.0 d.1 ∙ tried_at bundle s d.0 (cast_any (bundle_tables bundle) s.objects (class_definition (bundle_tables bundle) class) x) r (gives_by bundle s) d.1 e

pub ruleset finding = (finds_there, finds_is)

pub ruleset casting = (casts_there, casts_is)

-- ---- what a heap answers

-- a fault tells the number of cells exactly, save the greatest
min_exact : (n m a : ℕ) → a ≡ min n m → a < m → a ≡ n
min_exact n m a e h =
    elim (leb_tells n m) [
      | inl t ↦ e ∙ min-eq_left t.1
      | inr f ↦ (
          let less : m ≤ n = omega (arith, f.1) in
          let much : a ≡ m = e ∙ min-eq_right less in
          absurd (omega (arith, much, h)))
    ]

pub told_exact : (n a : ℕ) → a ≡ told_cells n → a < 2 ^ 128 - 1 → a ≡ n
told_exact n a e h = min_exact n (2 ^ 128 - 1) a e h

pub made_there : (left now n : ℕ) → now + n ≡ left → (n ≤ left) × (now ≡ left - n)
made_there left now n e = (omega (arith, e), omega (arith, e))

pub full_so : (n left : ℕ) (r : Result ℕ HeapFault) (f : HeapFault) → (left < n → r ≡ Err (heaps.HeapFull (told_cells n) left)) → (n ≤ left → IfErr r (λ fault. fault ≡ heaps.Memory)) → r ≡ Err f → IsFull f n left
full_so n left r f full enough e =
    elim (leb_tells n left) [
      | inl t ↦ (
          let is : f ≡ heaps.Memory = subst (λ (r : Result ℕ HeapFault). IfErr r (λ fault. fault ≡ heaps.Memory)) e (enough t.1) in
          subst (λ f. IsFull f n left) (sym is) tt)
      | inr g ↦ (
          let less : left < n = omega (arith, g.1) in
          let told : r ≡ Err (heaps.HeapFull (told_cells n) left) = full less in
          let is : f ≡ heaps.HeapFull (told_cells n) left = cc in
          subst (λ f. IsFull f n left) (sym is) (less, refl, refl))
    ]

-- ---- a frame that gets one more object

owns_there_by : (o : Option (Option Goal)) (f : Activation) (n : ℕ) (vs : List Value) → IsSome (with_some o (λ g. Some (onward (owns f n) vs g))) → IsSome (with_some o (λ g. Some (onward f vs g)))
owns_there_by None f n vs h = cc
owns_there_by (Some g) f n vs h = refl

passes : Bool → Option (Option Goal) → Activation → List Value → Option Activation
passes fresh o f vs = if fresh then Some (stands f f.block 0 vs) else with_some o (λ g. Some (onward f (f.vars ++ vs) g))

owns_passes : (fresh : Bool) (o : Option (Option Goal)) (f : Activation) (n : ℕ) (vs : List Value) → IsSome (passes fresh o (owns f n) vs) → IsSome (passes fresh o f vs)
unfolding passes
owns_passes true o f n vs h = refl
owns_passes false o f n vs h = owns_there_by o f n (f.vars ++ vs) h

owns_there : (bundle : List Item) (f : Activation) (n : ℕ) (vs : List Value) → IsSome (goes_on bundle (owns f n) vs) → IsSome (goes_on bundle f vs)
unfolding goes_on passes
owns_there bundle f n vs h = owns_passes f.fresh ((numbered bundle).going_on f.block f.at (f.vars ++ vs)) f n vs h

stands_same : (f g : Activation) (block at : ℕ) (out : List Value) (n : ℕ) → g ≡ stands f block at out → owns g n ≡ stands (owns f n) block at out
stands_same f g block at out n e = ap (λ g. owns g n) e

some_onward : (f : Activation) (n : ℕ) (vs : List Value) (g : Option Goal) → onward (owns f n) vs g ≡ owns (onward f vs g) n
some_onward f n vs None = refl
some_onward f n vs (Some g) = refl

owned_by : (o : Option (Option Goal)) (f : Activation) (n block at : ℕ) (vs out : List Value) → with_some o (λ g. Some (onward f vs g)) ≡ Some (stands f block at out)
    → with_some o (λ g. Some (onward (owns f n) vs g)) ≡ Some (stands (owns f n) block at out)
owned_by None f n block at vs out h = cc
owned_by (Some g) f n block at vs out h =
    let is : onward f vs g ≡ stands f block at out = cc in
    ap Some (some_onward f n vs g ∙ stands_same f (onward f vs g) block at out n is)

owned_passes : (fresh : Bool) (o : Option (Option Goal)) (f : Activation) (n block at : ℕ) (vs out : List Value) → passes fresh o f vs ≡ Some (stands f block at out) → passes fresh o (owns f n) vs ≡ Some (stands (owns f n) block at out)
unfolding passes
owned_passes true o f n block at vs out h =
    let is : stands f f.block 0 vs ≡ stands f block at out = cc in
    ap Some (stands_same f (stands f f.block 0 vs) block at out n is)
owned_passes false o f n block at vs out h = owned_by o f n block at (f.vars ++ vs) out h

owns_goes : (bundle : List Item) (f : Activation) (n block at : ℕ) (vs out : List Value) → goes_on bundle f vs ≡ Some (stands f block at out) → goes_on bundle (owns f n) vs ≡ Some (stands (owns f n) block at out)
unfolding goes_on passes
owns_goes bundle f n block at vs out h = owned_passes f.fresh ((numbered bundle).going_on f.block f.at (f.vars ++ vs)) f n block at vs out h

pub frame_there : (bundle : List Item) (f : Activation) (m : Making) (n : ℕ) (vs : List Value) → IsSome (goes_on bundle (frame_made m f n) vs) → IsSome (goes_on bundle f vs)
frame_there bundle f kinds.Own n vs h = owns_there bundle f n vs h
frame_there bundle f kinds.Object n vs h = h
frame_there bundle f (kinds.Hybrid many) n vs h = h

pub frame_goes : (bundle : List Item) (f : Activation) (m : Making) (n block at : ℕ) (vs out : List Value) → goes_on bundle f vs ≡ Some (stands f block at out)
    → goes_on bundle (frame_made m f n) vs ≡ Some (stands (frame_made m f n) block at out)
frame_goes bundle f kinds.Own n block at vs out h = owns_goes bundle f n block at vs out h
frame_goes bundle f kinds.Object n block at vs out h = h
frame_goes bundle f (kinds.Hybrid many) n block at vs out h = h

pub ruleset frames_made = (frame_there, frame_goes)
