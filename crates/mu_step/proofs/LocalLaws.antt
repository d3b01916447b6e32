-- Whether a thread's next step is local, once it is taken up.
use Rattle.std.specs.Prelude.{◌≡◌, ◌≢◌, ℕ, zero, suc, ◌+◌, ◌<◌, ◌≤◌, ◌==◌, nat_le, Bool, true, false, List, [], ◌∷◌, Option, Some, None, IfOk, IsSomeAnd, Result, Ok, Err, drop, find, length, slice_get, if◌then◌else◌, refl}
use Rattle.std.proofs.Common.{sym, ◌∙◌, ap, subst, arith, add-one, inl, inr}
use Rattle.std.proofs.lemmas.List.{drop_all}
use Rattle.std.proofs.lemmas.Bool.Decides.{leb_tells, eqb_tells}
use Rattle.std.proofs.Math.Nat.{mod-eq_of_lt}
use Rattle.ir_tree.specs.declared.items.Item.{Item}
use Rattle.mu_values.specs.declared.cells.CellId.{CellId}
use Rattle.typed_heap.specs.Places.{with_some}
use Rattle.futex.specs.declared.waiters.Waiter.{Waiter}
use Rattle.futex.specs.Waiting.{is_of, cell_of}
use Rattle.mu_threads.specs.Picks.{pick, picked_from}
use Rattle.mu_model.specs.Configuration.{Configuration}
use Rattle.mu_model.specs.Acts.{Act, Doing, Program}
use Rattle.mu_model.specs.Outcomes.{Outcome, Stuck, on}
use Rattle.mu_model.specs.Step.{runnable, turned, step}
use Rattle.local_steps.specs.IsLocal.{is_local_act, does_local_act, is_local_turn, is_local, least_local}
use Rattle.model_numbers.specs.Numbered.{numbered}
use Rattle.client_hooks.specs.Ways.{Way}
use Rattle.seats.specs.Seats.{runnable_of}
use Rattle.run_state.specs.Held.{Held, ahead, configuration}
use Rattle.run_state.specs.Acting.{begun, left_configuration, turn, doing_of, stepping, told}
use Rattle.run_state.specs.StepLaws.{configuration_left}
use Rattle.run_state.specs.Hand.{IsSound, IsTakenUp, turn_there, picks_so}
use Rattle.memory_acts.specs.Counting.{act_of}
use Rattle.mu_step.specs.Locals.{stepping_local, AllHaveRules}

-- ---- what the instruction asks

pub waits_so : (bundle : List Item) (s : Held) (cell : CellId) → Some cell ≡ cell_of (find (is_of s.thread) s.seats.waiters) → stepping_local bundle s ≡ false
unfolding stepping_local
waits_so bundle s cell e = by (find (is_of s.thread) s.seats.waiters) e
  where
    by : (w : Option Waiter) → Some cell ≡ cell_of w → is_local_turn (numbered bundle) w (with_some (doing_of (numbered bundle) s) (λ d. Some (turn s d))) ≡ false
    by None e = cc
    by (Some w) e = refl

pub asks_so : (bundle : List Item) (s : Held) (a : Act) (b : Bool) → find (is_of s.thread) s.seats.waiters ≡ None → act_of bundle s ≡ Some a → ((d : Doing) → b ≡ is_local_act (numbered bundle) (turn s d) a) → b ≡ stepping_local bundle s
unfolding stepping_local
asks_so bundle s a b e asked h =
    by (doing_of (numbered bundle) s) asked ∙ sym (ap (λ o. is_local_turn (numbered bundle) o (with_some (doing_of (numbered bundle) s) (λ d. Some (turn s d)))) e)
  where
    by : (o : Option Doing) → with_some o (λ (d : Doing). d.act) ≡ Some a → b ≡ is_local_turn (numbered bundle) None (with_some o (λ d. Some (turn s d)))
    by None e = cc
    by (Some d) e = h d ∙ ap (does_local_act (numbered bundle) (turn s d)) (sym e)

-- ---- the thread that is taken up

pub taken_local : (bundle : List Item) (s u : Held) (i : ℕ) → IsTakenUp s u i → IsSound u.left u.thread u.stack u.seats u.log → is_local (numbered bundle) (configuration s) i ≡ stepping_local bundle u
unfolding stepping_local
taken_local bundle s u i up sound =
    let p = numbered bundle in
    ap (λ c. is_local p c i) (sym up.same ∙ configuration_left u up.left) ∙ ap (is_local p (left_configuration u)) (sym up.thread)
    ∙ ap (is_local_turn p (find (is_of u.thread) u.seats.waiters)) (turn_there bundle u (sound.on_stack up.left) (sound.within up.left))

pub local_place : {E : Type 0} (bundle : List Item) (s u : Held) (k i : ℕ) (r : Result Bool E) → slice_get (runnable_of s.seats) k ≡ Some i → IsTakenUp s u i → IsSound u.left u.thread u.stack u.seats u.log → IfOk r (λ is. is ≡ stepping_local bundle u)
    → IfOk r (λ is. IsSomeAnd (slice_get (runnable_of s.seats) k) (λ i. is ≡ is_local (numbered bundle) (configuration s) i))
local_place bundle s u k i (Ok is) there up sound h = subst (λ o. IsSomeAnd o (λ i. is ≡ is_local (numbered bundle) (configuration s) i)) (sym there) (h ∙ sym (taken_local bundle s u i up sound))
local_place bundle s u k i (Err e) there up sound h = tt

-- ---- a step by numbers that pick this thread

-- numbers that pick this place
picks_of : ℕ → ℕ → List ℕ → List ℕ
picks_of many k rest = if nat_le many 1 then rest else k ∷ rest

-- how many of them are taken
takes : ℕ → ℕ
takes many = if nat_le many 1 then 0 else 1

module _ (many k : ℕ) (rest : List ℕ) (low : k < many) where
  picks_place : k ≡ (pick many (picks_of many k rest)).0
  unfolding picks_of
  picks_place =
      elim (leb_tells many 1) [
        | inl t ↦ let none : k ≡ 0 = omega (arith, low, t.1) in none ∙ sym (ap (λ (b : Bool). (if b then (0, picks_of many k rest) else picked_from many (picks_of many k rest)).0) t.0)
        | inr f ↦ sym (mod-eq_of_lt low) ∙ sym (ap (λ (b : Bool). (picked_from many (if b then rest else k ∷ rest)).0) f.0) ∙ sym (ap (λ (b : Bool). (if b then (0, picks_of many k rest) else picked_from many (picks_of many k rest)).0) f.0)
      ]

  takes_rest : drop (takes many) (picks_of many k rest) ≡ rest
  unfolding picks_of takes
  takes_rest =
      elim (leb_tells many 1) [
        | inl t ↦ ap (λ (b : Bool). drop (if b then 0 else 1) (if b then rest else k ∷ rest)) t.0
        | inr f ↦ ap (λ (b : Bool). drop (if b then 0 else 1) (if b then rest else k ∷ rest)) f.0
      ]

takes_more : (many : ℕ) → 1 < many → takes many ≡ 1
unfolding takes
takes_more many h = elim (leb_tells many 1) [ inl t ↦ absurd (omega (arith, t.1, h)) | inr f ↦ ap (λ (b : Bool). if b then 0 else 1) f.0 ]

takes_one : (many : ℕ) → many ≤ 1 → takes many ≡ 0
unfolding takes
takes_one many h = elim (leb_tells many 1) [ inl t ↦ ap (λ (b : Bool). if b then 0 else 1) t.0 | inr f ↦ absurd (omega (arith, f.1, h)) ]

-- the step depends on the numbers only by those that are left
stepping_by : List Item → Held → List ℕ → Outcome
stepping_by bundle s ps = on (doing_of (numbered bundle) s) (λ d. turned (numbered bundle) (record (begun s) { picks = ps }) (find (is_of s.thread) s.seats.waiters) (turn s d))

stepping_is : (bundle : List Item) (s : Held) → stepping bundle s ≡ stepping_by bundle s (ahead s)
unfolding stepping stepping_by
stepping_is bundle s = refl

stepping_other : (bundle : List Item) (s : Held) (ps : List ℕ) (n : ℕ) → drop n ps ≡ ahead s → stepping bundle (record s { picks = ps; skip = n }) ≡ stepping bundle s
unfolding stepping stepping_by
stepping_other bundle s ps n e = ap (stepping_by bundle s) e

-- other numbers are left for both
other_picks : (s u : Held) (i : ℕ) (ps : List ℕ) → IsTakenUp s u i → IsTakenUp (record s { picks = ps }) (record u { picks = ps }) i
other_picks s u i ps up =
    record {
      left = up.left;
      thread = up.thread;
      same = ap (λ (c : Configuration). record c { picks = drop u.skip ps }) up.same ∙ ap (λ n. record (configuration s) { picks = drop n ps }) up.skip;
      client = up.client;
      picks = refl;
      skip = up.skip;
    }

pub step_as : (how : Way) (bundle : List Item) (s u : Held) (k i : ℕ) → AllHaveRules how bundle (configuration s) → IsTakenUp s u i → IsSound u.left u.thread u.stack u.seats u.log → s.skip ≡ 0 → s.steps < s.budget → k < length (runnable_of s.seats)
    → slice_get (runnable_of s.seats) k ≡ Some i → told how bundle u.client (stepping bundle u) ≢ Stuck
step_as how bundle s u k i rules up sound whole room low there = λ e. rules q (ap (told how bundle s.client) (at ∙ same) ∙ ap (λ k. told how bundle k (stepping bundle u)) (sym up.client) ∙ e)
  where
    many : ℕ
    many = length (runnable_of s.seats)

    q : List ℕ
    q = picks_of many k (ahead s)

    left : ahead s ≡ ahead u
    left = ap (λ n. drop n s.picks) (sym up.skip) ∙ ap (drop u.skip) (sym up.picks)

    at : step (numbered bundle) (record (configuration s) { picks = q }) ≡ stepping bundle (record u { picks = q; skip = takes many })
    at =
        ap (λ n. step (numbered bundle) (record (configuration s) { picks = drop n q })) (sym whole)
        ∙ picks_so (record s { picks = q }) (record u { picks = q }) many k i (takes many) (other_picks s u i q up) whole refl room (picks_place many k (ahead s) low) there (takes_more many) (takes_one many) sound bundle

    same : stepping bundle (record u { picks = q; skip = takes many }) ≡ stepping bundle u
    same = stepping_other bundle u q (takes many) (takes_rest many k (ahead s) low ∙ left)

-- ---- the least one, from a place on

pub none_from : (test : ℕ → Bool) (xs : List ℕ) (n i : ℕ) → slice_get xs n ≡ Some i → test i ≡ false → find test (drop n xs) ≡ find test (drop (suc n) xs)
none_from test [] n i there other = cc
none_from test (x ∷ xs) zero i there other = let same : x ≡ i = cc in ap (λ (b : Bool). if b then Some x else find test xs) (ap test same ∙ other)
none_from test (x ∷ xs) (suc n) i there other = none_from test xs n i there other

pub found_from : (test : ℕ → Bool) (xs : List ℕ) (n i : ℕ) → slice_get xs n ≡ Some i → test i ≡ true → find test (drop n xs) ≡ Some i
found_from test [] n i there is = cc
found_from test (x ∷ xs) zero i there is = let same : x ≡ i = cc in ap (λ (b : Bool). if b then Some x else find test xs) (ap test same ∙ is) ∙ ap Some same
found_from test (x ∷ xs) (suc n) i there is = found_from test xs n i there is

-- ---- a place of the loop

module _ (p : Program) (c d : Configuration) (k : ℕ) (is : Bool) (same : d ≡ c) (far : find (is_local p c) (runnable c) ≡ find (is_local p c) (drop k (runnable c))) (h : IsSomeAnd (slice_get (runnable d) k) (λ i. is ≡ is_local p d i)) where
  here : IsSomeAnd (slice_get (runnable c) k) (λ i. is ≡ is_local p c i)
  here = subst (λ d. IsSomeAnd (slice_get (runnable d) k) (λ i. is ≡ is_local p d i)) same h

  pub place_found : (c.steps == c.budget) ≡ false → is ≡ true → IsSomeAnd (slice_get (runnable c) k) (λ i. least_local p c ≡ Some i)
  place_found room local = by (slice_get (runnable c) k) refl here
    where
      by : (o : Option ℕ) → slice_get (runnable c) k ≡ o → IsSomeAnd o (λ i. is ≡ is_local p c i) → IsSomeAnd o (λ i. least_local p c ≡ Some i)
      by None there h = h
      by (Some i) there h = ap (λ (b : Bool). if b then None else find (is_local p c) (runnable c)) room ∙ far ∙ found_from (is_local p c) (runnable c) k i there (sym h ∙ local)

  pub place_passed : is ≡ false → find (is_local p c) (runnable c) ≡ find (is_local p c) (drop (k + 1) (runnable c))
  place_passed other = far ∙ by (slice_get (runnable c) k) refl here ∙ ap (λ n. find (is_local p c) (drop n (runnable c))) (sym (add-one k))
    where
      by : (o : Option ℕ) → slice_get (runnable c) k ≡ o → IsSomeAnd o (λ i. is ≡ is_local p c i) → find (is_local p c) (drop k (runnable c)) ≡ find (is_local p c) (drop (suc k) (runnable c))
      by None there h = absurd h
      by (Some i) there h = none_from (is_local p c) (runnable c) k i there (sym h ∙ other)

pub place_none : (p : Program) (c : Configuration) (k : ℕ) → find (is_local p c) (runnable c) ≡ find (is_local p c) (drop k (runnable c)) → length (runnable c) ≤ k → least_local p c ≡ None
place_none p c k far all = by (c.steps == c.budget)
  where
    by : (b : Bool) → (if b then None else find (is_local p c) (runnable c)) ≡ None
    by true = refl
    by false = far ∙ ap (find (is_local p c)) (drop_all k (runnable c) all)

pub not_over : (v s : Held) → v ≡ s → (v.steps ≡ v.budget → ⊥) → ((configuration s).steps == (configuration s).budget) ≡ false
not_over v s same no_end = subst (λ (s : Held). (s.steps == s.budget) ≡ false) same (elim (eqb_tells v.steps v.budget) [ inl t ↦ absurd (no_end t.1) | inr f ↦ f.0 ])
