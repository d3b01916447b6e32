-- Lemmas of wakes, over the parts of a state.
use Rattle.std.proofs.Common.{◌≡◌, ◌≢◌, ℕ, suc, ◌+◌, Bool, true, false, List, [], ◌∷◌, ◌++◌, Option, Some, None, IsSome, IsSomeAnd, Result, Ok, Err, OnOk, length, slice_get, slice_set, refl, sym, ◌∙◌, ap, subst, arith, add-one}
use Rattle.std.proofs.lemmas.List.{append-nil, append_assoc}
use Rattle.std.proofs.lemmas.Option.{same_Some}
use Rattle.ir_tree.specs.declared.items.Item.{Item}
use Rattle.mu_values.specs.declared.scalars.Scalar.{Scalar}
use Rattle.mu_values.specs.declared.scalars.Scalar.TheVariants.{Int, Place}
use Rattle.mu_values.specs.declared.cells.CellId.{CellId}
use Rattle.typed_heap.specs.declared.faults.PlaceFault.{PlaceFault}
use Rattle.typed_heap.specs.Places.{with_some, cell_of}
use Rattle.frames.specs.Activations.{Value, Activation}
use Rattle.frames.specs.Chains.{Chain, frames_of, stands}
use Rattle.mem_axioms.specs.declared.types.Rule.{Rule}
use Rattle.mem_axioms.specs.declared.types.Event.{Event}
use Rattle.mem_axioms.specs.EventFits.{is_thread, wakes_at, EventFits}
use Rattle.mem_axioms.specs.Lemmas.Fitting.{thread-same}
use Rattle.mu_model.specs.declared.lines.Line.{Line}
use Rattle.mu_model.specs.declared.lines.Line.TheVariants as lines
use Rattle.mu_model.specs.declared.endings.StepEnd.TheVariants.{Went}
use Rattle.mu_model.specs.declared.endings.Case.{Case}
use Rattle.mu_model.specs.Acts as acts
use Rattle.mu_model.specs.Configuration.{Stack, Active, Thread}
use Rattle.mu_model.specs.Outcomes.{Stuck, case_of_fault}
use Rattle.futex.specs.Waiting.{without, oldest_at}
use Rattle.mu_model.specs.Waiting.{was_woken}
use Rattle.seats.specs.Seats.{Seats, IsOn}
use Rattle.run_state.specs.Held.{Held}
use Rattle.run_state.specs.Acting.{answers, acting, goes_on}
use Rattle.run_state.specs.Hand.{IsSound}
use Rattle.run_state.specs.StepLaws.{GoesOn, set_there, get_below, some_there, some_of, with_there, with_is, set_again, set_same}
use Rattle.memory_acts.specs.FutexLaws.{found_or}
use Rattle.run_state.specs.AnsweredLines.{answers_lines}
use Rattle.wake_acts.specs.Waking.{frames_at, behind, stood, with_vars, vars_of, emptied, undone, finished, IsHeld, goes_behind, all_go, AreDistinct, wake_event, woken_event, logs_woken, woken_lines, AreThreads}
use Rattle.wake_acts.specs.WakeLaws.{IsSeated, seated_from, seated_at, goes_at, go_last, woken_threads, next_wakes, logs_same, logs_many, all_go_many, all_threads, waking_at, woken_of, woke, Wakes, wakes, wake_cell_there, wake_is}

-- ---- where a thread goes on that is woken

frames_same : (ss : List Stack) (k i : ℕ) (fs gs : List Activation) → slice_get ss k ≡ Some (Active i fs) → slice_get ss k ≡ Some (Active i gs) → fs ≡ gs
frames_same ss k i fs gs a b = let same : Active i fs ≡ Active i gs = cc in cc

seat_on : (s : Seats) (i k : ℕ) → IsOn s i k → (t : Thread) × (slice_get s.threads i ≡ Some (Some t)) × (t.stack ≡ k)
seat_on s i k h = by (slice_get s.threads i) refl h
  where
    by : (o : Option (Option Thread)) → slice_get s.threads i ≡ o → IsSomeAnd (with_some o (λ t. t)) (λ (t : Thread). t.stack ≡ k) → (t : Thread) × (slice_get s.threads i ≡ Some (Some t)) × (t.stack ≡ k)
    by None e h = absurd h
    by (Some None) e h = absurd h
    by (Some (Some t)) e h = (t, e, h)

pub woken_goes_on : (bundle : List Item) (s : Seats) (i k : ℕ) (c : Chain) (f : Activation) → IsOn s i k → slice_get s.stacks k ≡ Some (Active i (frames_of c)) → f ≡ c.top → IsSome (goes_behind bundle s.threads i s.stacks)
    → IsSome (goes_on bundle f ((was_woken ∷ []) ∷ []))
woken_goes_on bundle s i k c f on there top h =
    let vs = (was_woken ∷ []) ∷ [] in
    let r = some_of (goes_behind bundle s.threads i s.stacks) h in
    let a = with_there (frames_at s.threads s.stacks i) (λ at. with_some (behind bundle at.1) (λ fs. Some (slice_set s.stacks at.0 (Active i fs)))) r.0 r.1 in
    let q = seat_on s i k on in
    let here : frames_at s.threads s.stacks i ≡ Some (k, frames_of c) = seated_at s.threads s.stacks i k (frames_of c) (record { seat = q.0; there = q.1; on = q.2; stack = there }) in
    let same : a.0 ≡ (k, frames_of c) = same_Some a.0 (k, frames_of c) (sym a.1 ∙ here) in
    let b = with_there (behind bundle a.0.1) (λ fs. Some (slice_set s.stacks a.0.0 (Active i fs))) r.0 a.2 in
    let way : with_some (goes_on bundle c.top vs) (λ g. Some (g ∷ c.below)) ≡ Some b.0 = ap (λ (p : ℕ × List Activation). behind bundle p.1) (sym same) ∙ b.1 in
    let g = with_there (goes_on bundle c.top vs) (λ g. Some (g ∷ c.below)) b.0 way in
    subst (λ f. IsSome (goes_on bundle f vs)) (sym top) (some_there (goes_on bundle c.top vs) g.0 g.1)

-- ---- frames that are exchanged, and exchanged back

chain_same : (c d : Chain) → frames_of c ≡ frames_of d → c ≡ d
chain_same c d e =
    let top : c.top ≡ d.top = cc in
    let below : c.below ≡ d.below = cc in
    ap (λ f. record { top = f; below = c.below }) top ∙ ap (λ fs. record { top = d.top; below = fs }) below

-- what is there after both exchanges
pub back_again : (s mid : Seats) (i k : ℕ) (c before last : Chain) → mid ≡ record s { stacks = slice_set s.stacks k (Active i (frames_of before)) } → slice_get s.stacks k ≡ Some (Active i (frames_of c))
    → slice_get mid.stacks k ≡ Some (Active i (frames_of last)) → last ≡ before
back_again s mid i k c before last e there back =
    let low = get_below s.stacks k (Active i (frames_of c)) there in
    let at : slice_get mid.stacks k ≡ Some (Active i (frames_of before)) = ap (λ (x : Seats). slice_get x.stacks k) e ∙ set_there s.stacks k (Active i (frames_of before)) low in
    chain_same last before (frames_same mid.stacks k i (frames_of last) (frames_of before) back at)

-- what holds of the frames that stand there
pub there_as : (s : Seats) (i k : ℕ) (c : Chain) (P : ℕ × List Activation → Type 0) → IsOn s i k → slice_get s.stacks k ≡ Some (Active i (frames_of c)) → P (k, frames_of c) → IsSomeAnd (frames_at s.threads s.stacks i) P
there_as s i k c P on there h =
    let q = seat_on s i k on in
    let seated : IsSeated s.threads s.stacks i k (frames_of c) = record { seat = q.0; there = q.1; on = q.2; stack = there } in
    subst (λ (o : Option (ℕ × List Activation)). IsSomeAnd o P) (sym (seated_at s.threads s.stacks i k (frames_of c) seated)) h

changed_there : (s mid after : Seats) (i k : ℕ) (c before now : Chain) (g : List Activation → List Activation) → IsOn s i k → slice_get s.stacks k ≡ Some (Active i (frames_of c)) → mid ≡ record s { stacks = slice_set s.stacks k (Active i (frames_of before)) }
    → frames_of now ≡ g (frames_of c) → after ≡ record mid { stacks = slice_set mid.stacks k (Active i (frames_of now)) }
    → IsSomeAnd (frames_at s.threads s.stacks i) (λ here. after ≡ record s { stacks = slice_set s.stacks k (Active i (g here.1)) })
changed_there s mid after i k c before now g on there first so second =
    there_as s i k c (λ here. after ≡ record s { stacks = slice_set s.stacks k (Active i (g here.1)) }) on there
    (second ∙ ap (λ (x : Seats). record x { stacks = slice_set x.stacks k (Active i (frames_of now)) }) first
    ∙ ap (λ ss. record s { stacks = ss }) (set_again s.stacks k (Active i (frames_of before)) (Active i (frames_of now)))
    ∙ ap (λ fs. record s { stacks = slice_set s.stacks k (Active i fs) }) so)

pub stood_there : (s mid after : Seats) (i k block at : ℕ) (vs : List Value) (c before now : Chain) → IsOn s i k → slice_get s.stacks k ≡ Some (Active i (frames_of c)) → mid ≡ record s { stacks = slice_set s.stacks k (Active i (frames_of before)) }
    → now ≡ record c { top = stands c.top block at vs } → after ≡ record mid { stacks = slice_set mid.stacks k (Active i (frames_of now)) }
    → IsSomeAnd (frames_at s.threads s.stacks i) (λ here. after ≡ record s { stacks = slice_set s.stacks k (Active i (stood block at vs here.1)) })
stood_there s mid after i k block at vs c before now on there first so second = changed_there s mid after i k c before now (stood block at vs) on there first (ap frames_of so) second

pub vars_there : (s mid after : Seats) (i k : ℕ) (vs : List Value) (c before now : Chain) → IsOn s i k → slice_get s.stacks k ≡ Some (Active i (frames_of c)) → mid ≡ record s { stacks = slice_set s.stacks k (Active i (frames_of before)) }
    → now ≡ record c { top = record c.top { vars = vs } } → after ≡ record mid { stacks = slice_set mid.stacks k (Active i (frames_of now)) }
    → IsSomeAnd (frames_at s.threads s.stacks i) (λ here. after ≡ record s { stacks = slice_set s.stacks k (Active i (with_vars vs here.1)) })
vars_there s mid after i k vs c before now on there first so second = changed_there s mid after i k c before now (with_vars vs) on there first (ap frames_of so) second

-- ---- variables that are taken

frames_there : (s : Seats) (i k : ℕ) (fs : List Activation) (P : ℕ × List Activation → Type 0) → frames_at s.threads s.stacks i ≡ Some (k, fs) → IsSomeAnd (frames_at s.threads s.stacks i) P → P (k, fs)
frames_there s i k fs P e h = subst (λ (o : Option (ℕ × List Activation)). IsSomeAnd o P) e h

-- where a thread is that has frames with this stack
some_frames : (o : Option (ℕ × List Activation)) (k : ℕ) (P : ℕ × List Activation → Type 0) → IsSomeAnd o (λ at. (at.0 ≡ k) × P at) → (fs : List Activation) × (o ≡ Some (k, fs)) × P (k, fs)
some_frames None k P h = absurd h
some_frames (Some (m, fs)) k P (same, h) = (fs, ap (λ m. Some (m, fs)) same, subst (λ m. P (m, fs)) same h)

vars_back : (fs : List Activation) (vs ws : List Value) → ws ≡ vars_of fs → with_vars ws (with_vars vs fs) ≡ fs
vars_back [] vs ws e = refl
vars_back (f ∷ fs) vs ws e = ap (λ vs. record f { vars = vs } ∷ fs) e

set_seated : (s : Seats) (i k : ℕ) (fs : List Activation) → IsSeated s.threads s.stacks i k fs → record s { stacks = slice_set s.stacks k (Active i fs) } ≡ s
set_seated s i k fs seated = ap (λ ss. record s { stacks = ss }) (set_same s.stacks k (Active i fs) seated.stack)

-- a thread's frames, once others were put in their place
seated_then : (ts : List (Option Thread)) (ss : List Stack) (i k : ℕ) (fs gs : List Activation) → IsSeated ts ss i k fs → IsSeated ts (slice_set ss k (Active i gs)) i k gs
seated_then ts ss i k fs gs seated = record { seat = seated.seat; there = seated.there; on = seated.on; stack = set_there ss k (Active i gs) (get_below ss k (Active i fs) seated.stack) }

pub taken_back : (s mid after : Seats) (i k : ℕ) (vs ws xs : List Value) → IsSomeAnd (frames_at s.threads s.stacks i) (λ at. mid ≡ record s { stacks = slice_set s.stacks k (Active i (with_vars vs at.1)) })
    → IsSomeAnd (frames_at s.threads s.stacks i) (λ at. (at.0 ≡ k) × (ws ≡ vars_of at.1)) → xs ≡ ws
    → IsSomeAnd (frames_at mid.threads mid.stacks i) (λ at. after ≡ record mid { stacks = slice_set mid.stacks k (Active i (with_vars xs at.1)) }) → after ≡ s
taken_back s mid after i k vs ws xs first had same second =
    let q = some_frames (frames_at s.threads s.stacks i) k (λ at. ws ≡ vars_of at.1) had in
    let fs = q.0 in
    let seated = seated_from s.threads s.stacks i k fs q.1 in
    let emptied_so = slice_set s.stacks k (Active i (with_vars vs fs)) in
    let mid_is : mid ≡ record s { stacks = emptied_so } = frames_there s i k fs (λ at. mid ≡ record s { stacks = slice_set s.stacks k (Active i (with_vars vs at.1)) }) q.1 first in
    let then : IsSomeAnd (frames_at s.threads emptied_so i) (λ at. after ≡ record s { stacks = slice_set emptied_so k (Active i (with_vars xs at.1)) }) =
    subst (λ (x : Seats). IsSomeAnd (frames_at x.threads x.stacks i) (λ at. after ≡ record x { stacks = slice_set x.stacks k (Active i (with_vars xs at.1)) })) mid_is second in
    let now = seated_at s.threads emptied_so i k (with_vars vs fs) (seated_then s.threads s.stacks i k fs (with_vars vs fs) seated) in
    let after_is : after ≡ record s { stacks = slice_set emptied_so k (Active i (with_vars xs (with_vars vs fs))) } =
    subst (λ (o : Option (ℕ × List Activation)). IsSomeAnd o (λ at. after ≡ record s { stacks = slice_set emptied_so k (Active i (with_vars xs at.1)) })) now then in
    after_is ∙ ap (λ gs. record s { stacks = slice_set emptied_so k (Active i gs) }) (vars_back fs vs xs (same ∙ q.2))
    ∙ ap (λ ss. record s { stacks = ss }) (set_again s.stacks k (Active i (with_vars vs fs)) (Active i fs)) ∙ set_seated s i k fs seated

-- ---- what is held for a thread

pub copied_stays : (bundle : List Item) (s : Seats) (i k block at : ℕ) (vs : List Value) → IsSomeAnd (frames_at s.threads s.stacks i) (λ here. (here.0 ≡ k) × (behind bundle here.1 ≡ Some (stood block at vs here.1)))
    → IsSomeAnd (frames_at s.threads s.stacks i) (λ here. s ≡ record s { stacks = slice_set s.stacks k (Active i here.1) })
copied_stays bundle s i k block at vs told =
    let q = some_frames (frames_at s.threads s.stacks i) k (λ here. behind bundle here.1 ≡ Some (stood block at vs here.1)) told in
    subst (λ (o : Option (ℕ × List Activation)). IsSomeAnd o (λ here. s ≡ record s { stacks = slice_set s.stacks k (Active i here.1) })) (sym q.1) (sym (set_seated s i k q.0 (seated_from s.threads s.stacks i k q.0 q.1)))

pub nothing_back : (s : Seats) (i k : ℕ) (taken : Bool) (vs : List Value) (fs : List Activation) → taken ≡ false → frames_at s.threads s.stacks i ≡ Some (k, fs) → s ≡ record s { stacks = slice_set s.stacks k (Active i (undone taken vs fs)) }
nothing_back s i k taken vs fs e there =
    sym (set_seated s i k fs (seated_from s.threads s.stacks i k fs there)) ∙ ap (λ taken. record s { stacks = slice_set s.stacks k (Active i (undone taken vs fs)) }) (sym e)

-- ---- all that go on

pub none_go : {A E : Type 0} (bundle : List Item) (s : Seats) (is : List ℕ) (r : Result A E) → is ≡ [] → OnOk r (IsSomeAnd (all_go bundle s.threads is s.stacks) (λ ss. s ≡ record s { stacks = ss }))
unfolding all_go
none_go bundle s is (Ok a) e = subst (λ is. IsSomeAnd (all_go bundle s.threads is s.stacks) (λ ss. s ≡ record s { stacks = ss })) (sym e) refl
none_go bundle s is (Err x) e = tt

pub first_goes : (bundle : List Item) (s : Seats) (is js : List ℕ) (i : ℕ) → is ≡ i ∷ js → IsSome (all_go bundle s.threads is s.stacks) → IsSome (goes_behind bundle s.threads i s.stacks)
unfolding all_go
first_goes bundle s is js i e h =
    let r = some_of (all_go bundle s.threads (i ∷ js) s.stacks) (subst (λ is. IsSome (all_go bundle s.threads is s.stacks)) e h) in
    let g = with_there (goes_behind bundle s.threads i s.stacks) (all_go bundle s.threads js) r.0 r.1 in
    some_there (goes_behind bundle s.threads i s.stacks) g.0 g.1

-- the first of them, once it is held how it goes on
record First (bundle : List Item) (s : Seats) (js : List ℕ) (i k block at : ℕ) (taken : Bool) (vs : List Value) : Type 0 where
  pub frames : List Activation
  pub out : List Stack
  pub rest : List Stack
  pub seated : IsSeated s.threads s.stacks i k frames
  pub held : IsHeld bundle frames block at taken vs
  pub all : all_go bundle s.threads (i ∷ js) s.stacks ≡ Some out
  pub go : all_go bundle s.threads js (slice_set s.stacks k (Active i (emptied taken frames))) ≡ Some rest
  pub later : IsSeated s.threads rest i k (emptied taken frames)
  pub is : slice_set rest k (Active i (stood block at (finished taken vs) frames)) ≡ out

abbrev pub HoldsFirst : List Item → Seats → ℕ → ℕ → ℕ → ℕ → Bool → List Value → Type 0
HoldsFirst bundle s i k block at taken vs = IsSomeAnd (frames_at s.threads s.stacks i) (λ here. (here.0 ≡ k) × IsHeld bundle here.1 block at taken vs)

first_by : (bundle : List Item) (s : Seats) (js : List ℕ) (i k block at : ℕ) (taken : Bool) (vs : List Value) → AreDistinct (i ∷ js) → IsSome (all_go bundle s.threads (i ∷ js) s.stacks) → HoldsFirst bundle s i k block at taken vs → First bundle s js i k block at taken vs
unfolding all_go
first_by bundle s js i k block at taken vs distinct h told =
    let t = some_frames (frames_at s.threads s.stacks i) k (λ here. IsHeld bundle here.1 block at taken vs) told in
    let fs = t.0 in
    let held : IsHeld bundle fs block at taken vs = t.2 in
    let gs = stood block at (finished taken vs) fs in
    let left = emptied taken fs in
    let ss = slice_set s.stacks k (Active i left) in
    let seated = seated_from s.threads s.stacks i k fs t.1 in
    let r = some_of (all_go bundle s.threads (i ∷ js) s.stacks) h in
    let one = goes_at bundle s.threads i k s.stacks fs gs seated held.goes in
    let then : all_go bundle s.threads js (slice_set s.stacks k (Active i gs)) ≡ Some r.0 = sym (with_is (goes_behind bundle s.threads i s.stacks) (slice_set s.stacks k (Active i gs)) (all_go bundle s.threads js) one) ∙ r.1 in
    let q = go_last bundle s.threads js ss r.0 i k left gs distinct.0 (seated_then s.threads s.stacks i k fs left seated) (ap (all_go bundle s.threads js) (set_again s.stacks k (Active i left) (Active i gs)) ∙ then) in
    record { frames = fs; out = r.0; rest = q.rest; seated = seated; held = held; all = r.1; go = q.go; later = q.seated; is = q.is }

stood_again : (fs : List Activation) (block at : ℕ) (taken : Bool) (vs : List Value) → stood block at vs (emptied taken fs) ≡ stood block at vs fs
stood_again fs block at false vs = refl
stood_again [] block at true vs = refl
stood_again (f ∷ fs) block at true vs = refl

pub rest_distinct : (is js : List ℕ) (i : ℕ) → is ≡ i ∷ js → AreDistinct is → AreDistinct js
rest_distinct is js i e h = (subst AreDistinct e h).1

rested : (bundle : List Item) (s mid : Seats) (js : List ℕ) (rest : List Stack) → all_go bundle s.threads js s.stacks ≡ Some rest → IsSomeAnd (all_go bundle s.threads js s.stacks) (λ ss. mid ≡ record s { stacks = ss }) → mid ≡ record s { stacks = rest }
rested bundle s mid js rest e h = subst (λ (o : Option (List Stack)). IsSomeAnd o (λ ss. mid ≡ record s { stacks = ss })) e h

module _ (bundle : List Item) (s mid : Seats) (is js : List ℕ) (i k block at : ℕ) (taken : Bool) (vs : List Value) (e : is ≡ i ∷ js) (distinct : AreDistinct is) (h : IsSome (all_go bundle s.threads is s.stacks))
    (told : HoldsFirst bundle s i k block at taken vs) (went : IsSomeAnd (frames_at s.threads s.stacks i) (λ here. mid ≡ record s { stacks = slice_set s.stacks k (Active i (emptied taken here.1)) })) where
  first : First bundle s js i k block at taken vs
  first = first_by bundle s js i k block at taken vs (subst AreDistinct e distinct) (subst (λ is. IsSome (all_go bundle s.threads is s.stacks)) e h) told

  abbrev left : List Stack
  left = slice_set s.stacks k (Active i (emptied taken first.frames))

  mid_is : mid ≡ record s { stacks = left }
  mid_is = frames_there s i k first.frames (λ here. mid ≡ record s { stacks = slice_set s.stacks k (Active i (emptied taken here.1)) }) (seated_at s.threads s.stacks i k first.frames first.seated) went

  go_mid : all_go bundle mid.threads js mid.stacks ≡ Some first.rest
  go_mid = ap (λ (x : Seats). all_go bundle x.threads js x.stacks) mid_is ∙ first.go

  pub rest_goes : IsSome (all_go bundle mid.threads js mid.stacks)
  rest_goes = some_there (all_go bundle mid.threads js mid.stacks) first.rest go_mid

  last_is : (last : Seats) → IsSomeAnd (all_go bundle mid.threads js mid.stacks) (λ ss. last ≡ record mid { stacks = ss }) → last ≡ record s { stacks = first.rest }
  last_is last there = rested bundle mid last js first.rest go_mid there ∙ ap (λ (x : Seats). record x { stacks = first.rest }) mid_is

  pub all_gone : (last after : Seats) → IsSomeAnd (all_go bundle mid.threads js mid.stacks) (λ ss. last ≡ record mid { stacks = ss })
      → IsSomeAnd (frames_at last.threads last.stacks i) (λ here. after ≡ record last { stacks = slice_set last.stacks k (Active i (stood block at (finished taken vs) here.1)) })
      → IsSomeAnd (all_go bundle s.threads is s.stacks) (λ ss. after ≡ record s { stacks = ss })
  all_gone last after there moved =
      let now : IsSomeAnd (frames_at s.threads first.rest i) (λ here. after ≡ record s { stacks = slice_set first.rest k (Active i (stood block at (finished taken vs) here.1)) }) =
      subst (λ (x : Seats). IsSomeAnd (frames_at x.threads x.stacks i) (λ here. after ≡ record x { stacks = slice_set x.stacks k (Active i (stood block at (finished taken vs) here.1)) })) (last_is last there) moved in
      let is_so : after ≡ record s { stacks = slice_set first.rest k (Active i (stood block at (finished taken vs) (emptied taken first.frames))) } =
      subst (λ (o : Option (ℕ × List Activation)). IsSomeAnd o (λ here. after ≡ record s { stacks = slice_set first.rest k (Active i (stood block at (finished taken vs) here.1)) })) (seated_at s.threads first.rest i k (emptied taken first.frames) first.later) now in
      subst (λ (o : Option (List Stack)). IsSomeAnd o (λ ss. after ≡ record s { stacks = ss })) (sym (ap (λ is. all_go bundle s.threads is s.stacks) e ∙ first.all))
      (is_so ∙ ap (λ fs. record s { stacks = slice_set first.rest k (Active i fs) }) (stood_again first.frames block at taken (finished taken vs)) ∙ ap (λ ss. record s { stacks = ss }) first.is)

  pub none_gone : (last after : Seats) → last ≡ mid
      → ((fs : List Activation) → frames_at last.threads last.stacks i ≡ Some (k, fs) → after ≡ record last { stacks = slice_set last.stacks k (Active i (undone taken vs fs)) }) → after ≡ s
  none_gone last after same back =
      let fs = emptied taken first.frames in
      let last_so : last ≡ record s { stacks = left } = same ∙ mid_is in
      let there : frames_at last.threads last.stacks i ≡ Some (k, fs) =
      ap (λ (x : Seats). frames_at x.threads x.stacks i) last_so ∙ seated_at s.threads left i k fs (seated_then s.threads s.stacks i k first.frames fs first.seated) in
      back fs there ∙ ap (λ (x : Seats). record x { stacks = slice_set x.stacks k (Active i (undone taken vs fs)) }) last_so
      ∙ ap (λ gs. record s { stacks = slice_set left k (Active i gs) }) first.held.back
      ∙ ap (λ ss. record s { stacks = ss }) (set_again s.stacks k (Active i fs) (Active i first.frames)) ∙ set_seated s i k first.frames first.seated

-- ---- the cell of a wake

pub wake_place : (bundle : List Item) (s v : Held) (many : ℕ) (cell : CellId) → v ≡ s → acting bundle s (acts.Wakes many cell) ≢ Stuck → IsSome (cell_of v.objects (Place cell.object cell.at))
wake_place bundle s v many cell view h = subst (λ (s : Held). IsSome (cell_of s.objects (Place cell.object cell.at))) (sym view) (wake_cell_there bundle s many cell h)

pub wake_found : (bundle : List Item) (s v : Held) (many : ℕ) (cell there : CellId) (r : Result CellId PlaceFault) → v ≡ s → acting bundle s (acts.Wakes many cell) ≢ Stuck
    → cell_of v.objects (Place cell.object cell.at) ≡ Some r → r ≡ Ok there → acting bundle s (acts.Wakes many cell) ≡ waking_at bundle s many there
wake_found bundle s v many cell there r view h e is =
    wake_is bundle s many cell r h (ap (λ (s : Held). cell_of s.objects (Place cell.object cell.at)) (sym view) ∙ e) ∙ ap (found_or bundle s (waking_at bundle s many)) is

pub wake_fails : (bundle : List Item) (s v : Held) (many : ℕ) (cell : CellId) (f : PlaceFault) (k : Case) (r : Result CellId PlaceFault) → v ≡ s → acting bundle s (acts.Wakes many cell) ≢ Stuck
    → cell_of v.objects (Place cell.object cell.at) ≡ Some r → r ≡ Err f → k ≡ case_of_fault f → acting bundle s (acts.Wakes many cell) ≡ acting bundle s (acts.Faults k)
wake_fails bundle s v many cell f k r view h e is case =
    wake_is bundle s many cell r h (ap (λ (s : Held). cell_of s.objects (Place cell.object cell.at)) (sym view) ∙ e) ∙ ap (found_or bundle s (waking_at bundle s many)) is ∙ ap (λ k. acting bundle s (acts.Faults k)) (sym case)

-- ---- a wake at a cell that is there

pub record Woke (s v : Held) (many : ℕ) (cell : CellId) (is : List ℕ) : Type 0 where
  pub view : v ≡ s
  pub left : s.left ≡ true
  pub sound : IsSound v.left v.thread v.stack v.seats v.log
  pub alone : GoesOn s
  pub those : is ≡ woken_of v many cell

module _ (bundle : List Item) (s v : Held) (many : ℕ) (cell : CellId) (is : List ℕ) (q : Woke s v many cell is) (h : waking_at bundle s many cell ≢ Stuck) where
  parts : Wakes bundle v many cell
  parts =
      wakes bundle v many cell (subst GoesOn (sym q.view) q.alone) (q.sound.within (ap (λ (s : Held). s.left) q.view ∙ q.left))
      (subst (λ (s : Held). waking_at bundle s many cell ≢ Stuck) (sym q.view) h)

  all : all_go bundle v.seats.threads is v.seats.stacks ≡ Some parts.stacks
  all = ap (λ is. all_go bundle v.seats.threads is v.seats.stacks) q.those ∙ parts.go

  results : (n : ℕ) → n ≡ length is → n ≡ length (woken_of v many cell)
  results n e = e ∙ ap length q.those

  pub wake_goes_on : (n : ℕ) (vs : List Value) → n ≡ length is → vs ≡ (Int 32 n ∷ []) ∷ [] → IsSome (goes_on bundle v.frames.top vs)
  wake_goes_on n vs count told =
      subst (λ vs. IsSome (goes_on bundle v.frames.top vs)) (sym told) (subst (λ n. IsSome (goes_on bundle v.frames.top ((Int 32 n ∷ []) ∷ []))) (sym (results n count)) parts.goes)

  pub wake_all_go : IsSome (all_go bundle v.seats.threads is v.seats.stacks)
  wake_all_go = some_there (all_go bundle v.seats.threads is v.seats.stacks) parts.stacks all

  pub wake_threads : (lg : List Event) → lg ≡ v.log → AreThreads lg is
  wake_threads lg e = subst (λ lg. AreThreads lg is) (sym e) (all_threads bundle v.seats.threads is v.seats.stacks parts.stacks v.log q.sound.made all)

  seats_so : (mid after : Seats) → IsSomeAnd (all_go bundle v.seats.threads is v.seats.stacks) (λ ss. mid ≡ record v.seats { stacks = ss }) → after ≡ record mid { waiters = without (oldest_at cell many mid.waiters) mid.waiters }
      → after ≡ record v.seats { stacks = parts.stacks; waiters = without (oldest_at cell many v.seats.waiters) v.seats.waiters }
  seats_so mid after went woken =
      let same : mid ≡ record v.seats { stacks = parts.stacks } = subst (λ (o : Option (List Stack)). IsSomeAnd o (λ ss. mid ≡ record v.seats { stacks = ss })) all went in
      woken ∙ ap (λ (x : Seats). record x { waiters = without (oldest_at cell many x.waiters) x.waiters }) same

  pub wake_sound : (mid after : Seats) (number n : ℕ) (lg new : List Event) → IsSomeAnd (all_go bundle v.seats.threads is v.seats.stacks) (λ ss. mid ≡ record v.seats { stacks = ss })
      → after ≡ record mid { waiters = without (oldest_at cell many mid.waiters) mid.waiters } → lg ≡ v.log → new ≡ logs_woken number is (wake_event v.thread cell n ∷ lg) → IsSound v.left v.thread v.stack after new
  wake_sound mid after number n lg new went woken log added =
      let so = seats_so mid after went woken in
      let many_so = all_go_many bundle v.seats.threads is v.seats.stacks parts.stacks all in
      subst (λ (x : Seats). IsSound v.left v.thread v.stack x new) (sym so)
      (record {
        on_stack = q.sound.on_stack;
        within = λ e. let low = q.sound.within e in omega (arith, low, many_so);
        made =
            λ i.
            ap (λ lg. is_thread lg i) added ∙ logs_same number is (wake_event v.thread cell n ∷ lg) i ∙ thread-same lg (wake_event v.thread cell n) i refl ∙ ap (λ lg. is_thread lg i) log ∙ q.sound.made i;
      })

  pub waked : (vs : List Value) (n number : ℕ) (mid after : Seats) (fr : Chain) (lg new : List Event) (rl kept : Rule) (ls : List Line) → n ≡ length is → number ≡ length v.log → vs ≡ (Int 32 n ∷ []) ∷ []
      → goes_on bundle v.frames.top vs ≡ Some fr.top → fr.below ≡ v.frames.below
      → IsSomeAnd (all_go bundle v.seats.threads is v.seats.stacks) (λ ss. mid ≡ record v.seats { stacks = ss }) → after ≡ record mid { waiters = without (oldest_at cell many mid.waiters) mid.waiters }
      → lg ≡ v.log → new ≡ logs_woken number is (wake_event v.thread cell (length is) ∷ lg) → rl ≡ v.rule → kept ≡ rl
      → ls ≡ lines.Event number (wake_event v.thread cell (length is)) ∷ woken_lines number is (number + 1)
      → answers (Went ls) (record v { frames = fr; seats = after; log = new; rule = kept; steps = v.steps + 1 }) ≡ waking_at bundle s many cell
  waked vs n number mid after fr lg new rl kept ls count numbered_so told way below went woken log added rule same written =
      let now = fr.top in
      let t = woke v many cell parts.stacks now in
      let lines_so : List ℕ → ℕ → List Line = λ is number. lines.Event number (wake_event v.thread cell (length is)) ∷ woken_lines number is (suc number) in
      let ls_is : ls ≡ lines_so (woken_of v many cell) (length v.log) =
      written ∙ ap (λ m. lines.Event number (wake_event v.thread cell (length is)) ∷ woken_lines number is m) (add-one number) ∙ ap (lines_so is) numbered_so ∙ ap (λ is. lines_so is (length v.log)) q.those in
      let log_is : new ≡ t.log =
      added ∙ ap (λ lg. logs_woken number is (wake_event v.thread cell (length is) ∷ lg)) log ∙ ap (λ m. logs_woken m is (wake_event v.thread cell (length is) ∷ v.log)) numbered_so
      ∙ ap (λ is. logs_woken (length v.log) is (wake_event v.thread cell (length is) ∷ v.log)) q.those in
      let on : goes_on bundle v.frames.top ((Int 32 (length (woken_of v many cell)) ∷ []) ∷ []) ≡ Some now =
      ap (λ m. goes_on bundle v.frames.top ((Int 32 m ∷ []) ∷ [])) (sym (results n count)) ∙ ap (goes_on bundle v.frames.top) (sym told) ∙ way in
      ap (λ ls. answers (Went ls) (record v { frames = fr; seats = after; log = new; rule = kept; steps = v.steps + 1 })) ls_is
      ∙ ap (λ bs. answers (Went (lines_so (woken_of v many cell) (length v.log))) (record v { frames = record { top = now; below = bs }; seats = after; log = new; rule = kept; steps = v.steps + 1 })) below
      ∙ ap (λ seats. answers (Went (lines_so (woken_of v many cell) (length v.log))) (record v { frames = record v.frames { top = now }; seats = seats; log = new; rule = kept; steps = v.steps + 1 })) (seats_so mid after went woken)
      ∙ ap (λ new. answers (Went (lines_so (woken_of v many cell) (length v.log))) (record t { log = new; rule = kept; steps = v.steps + 1 })) log_is
      ∙ ap (λ rl. answers (Went (lines_so (woken_of v many cell) (length v.log))) (record t { rule = rl; steps = v.steps + 1 })) (same ∙ rule)
      ∙ answers_lines t (lines_so (woken_of v many cell) (length v.log)) (ap (λ (s : Held). s.left) q.view ∙ q.left)
      ∙ sym (parts.is now on)
      ∙ ap (λ (s : Held). waking_at bundle s many cell) q.view

-- ---- events and lines of those that are woken, the first and then the rest

pub woken_fits : (rule : Rule) (objects : List (List Scalar)) (log : List Event) (is js : List ℕ) (i wake : ℕ) → is ≡ i ∷ js → AreThreads log is → wakes_at log wake ≡ true → EventFits rule objects log (woken_event wake i)
woken_fits rule objects log is js i wake e threads there = let h = subst (AreThreads log) e threads in record { thread = h.0; child = tt; cell = tt; wake = there; position = tt }

pub rest_threads : (log new : List Event) (is js : List ℕ) (i wake : ℕ) → is ≡ i ∷ js → AreThreads log is → new ≡ woken_event wake i ∷ log → AreThreads new js
rest_threads log new is js i wake e threads added = let h = subst (AreThreads log) e threads in subst (λ lg. AreThreads lg js) (sym added) (woken_threads (woken_event wake i) log js h.1)

pub rest_wake : (log new : List Event) (x : Event) (wake : ℕ) → wakes_at log wake ≡ true → new ≡ x ∷ log → wakes_at new wake ≡ true
rest_wake log new x wake h added = ap (λ lg. wakes_at lg wake) added ∙ next_wakes wake x log h

pub logged_none : (wake : ℕ) (is : List ℕ) (log : List Event) → is ≡ [] → log ≡ logs_woken wake is log
unfolding logs_woken
logged_none wake is log e = sym (ap (λ is. logs_woken wake is log) e)

pub logged_rest : (wake : ℕ) (is js : List ℕ) (i : ℕ) (log new last : List Event) → is ≡ i ∷ js → new ≡ woken_event wake i ∷ log → last ≡ logs_woken wake js new → last ≡ logs_woken wake is log
unfolding logs_woken
logged_rest wake is js i log new last e added rest = rest ∙ ap (logs_woken wake js) added ∙ sym (ap (λ is. logs_woken wake is log) e)

pub lines_none : (wake n : ℕ) (is : List ℕ) (ls : List Line) → is ≡ [] → ls ≡ ls ++ woken_lines wake is n
unfolding woken_lines
lines_none wake n is ls e = sym (append-nil ls) ∙ sym (ap (λ is. ls ++ woken_lines wake is n) e)

pub lines_rest : (wake n : ℕ) (is js : List ℕ) (i : ℕ) (ls new last : List Line) → is ≡ i ∷ js → new ≡ ls ++ lines.Event n (woken_event wake i) ∷ [] → last ≡ new ++ woken_lines wake js (n + 1) → last ≡ ls ++ woken_lines wake is n
unfolding woken_lines
lines_rest wake n is js i ls new last e added rest =
    let x = lines.Event n (woken_event wake i) in
    rest ∙ ap (λ new. new ++ woken_lines wake js (n + 1)) added ∙ append_assoc ls (x ∷ []) (woken_lines wake js (n + 1)) ∙ ap (λ m. ls ++ x ∷ woken_lines wake js m) (add-one n)
    ∙ sym (ap (λ is. ls ++ woken_lines wake is n) e)

pub lines_rest_ok : {A E : Type 0} (wake n : ℕ) (is js : List ℕ) (i : ℕ) (ls new last : List Line) (r : Result A E) → is ≡ i ∷ js → new ≡ ls ++ lines.Event n (woken_event wake i) ∷ [] → OnOk r (last ≡ new ++ woken_lines wake js (n + 1)) → OnOk r (last ≡ ls ++ woken_lines wake is n)
lines_rest_ok wake n is js i ls new last (Ok a) e added rest = lines_rest wake n is js i ls new last e added rest
lines_rest_ok wake n is js i ls new last (Err a) e added rest = tt

pub empty_is : (is : List ℕ) → length is ≡ 0 → is ≡ []
empty_is [] h = refl
empty_is (i ∷ is) h = absurd (omega (arith, h))

pub logged_empty : (wake : ℕ) (is : List ℕ) (log : List Event) → length is ≡ 0 → log ≡ logs_woken wake is log
logged_empty wake is log h = logged_none wake is log (empty_is is h)

pub ruleset woken_log = (woken_fits, rest_threads, rest_wake, logged_empty, logged_rest)

pub all_threads_still : (log new : List Event) (is : List ℕ) (x : Event) → AreThreads log is → new ≡ x ∷ log → AreThreads new is
all_threads_still log new is x h added = subst (λ lg. AreThreads lg is) (sym added) (woken_threads x log is h)

pub wake_many : (number n m i : ℕ) (cell : CellId) (is : List ℕ) (log lg new : List Event) → number ≡ length log → n ≡ length is → lg ≡ log → new ≡ logs_woken number is (wake_event i cell m ∷ lg) → number + (n + 1) ≡ length new
wake_many number n m i cell is log lg new a b c d =
    let all = ap length d ∙ logs_many number is (wake_event i cell m ∷ lg) in
    let same : length lg ≡ length log = ap length c in
    omega (arith, all, same, a, b)
