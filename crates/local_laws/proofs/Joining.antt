-- Runs by schedules, the tree in which local steps come first, and the front.
use Rattle.std.specs.Prelude.{◌≡◌, ◌≢◌, ◌<◌, ◌+◌, ◌%◌, ℕ, zero, suc, Bool, true, false, ◌==◌, not, nat_le, List, [], ◌∷◌, Option, Some, None, length, filter, reverse, slice_get, refl, if◌then◌else◌}
use Rattle.std.proofs.Common.{sym, ◌∙◌, ap, subst, arith, inl, inr}
use Rattle.std.proofs.Math.Nat.{mod-eq_of_lt}
use Rattle.std.proofs.lemmas.Bool.Decides.{eqb_tells, leb_tells}
use Rattle.std.proofs.lemmas.Nat.{mod_below}
use Rattle.mu_model.specs.declared.lines.Line.{Line}
use Rattle.mu_model.specs.declared.endings.Ending.TheVariants as endings
use Rattle.mu_model.specs.Clients.{Client}
use Rattle.mu_model.specs.Answers.{answer_of, advanced}
use Rattle.mu_model.specs.Configuration.{Configuration}
use Rattle.mu_model.specs.Acts.{Program}
use Rattle.mu_model.specs.Outcomes.{Outcome, Next, End, Asks, Stuck, on}
use Rattle.mu_model.specs.Step.{threads_from, is_blocked, runnable, turns, picked, picking_thread, ends_or_picks, step}
use Rattle.mu_model.specs.Run.{Run, behind, client_answers, with_client, goes_on, run}
use Rattle.mu_threads.specs.Picks.{pick, picked_from}
use Rattle.odometer.specs.Trees.{Tree, Leaf, Node, branches, leaf, rest, grown}
use Rattle.odometer.specs.GrownLaws.{leaf_grown}
use Rattle.search_laws.specs.Moved.{with_picks, moved, thread_tree, ends_or_branches, step_tree, goes_on_tree, StepsAreTrees}
use Rattle.local_steps.specs.IsLocal.{least_local}
use Rattle.local_laws.specs.LocalSteps.{first_tree, local_tree, made, plain}
use Rattle.local_laws.specs.Lemmas.Forms.{on_some}
use Rattle.local_laws.proofs.Meeting.{made_counts}
use Rattle.local_laws.proofs.Front.{Runs, goes, cuts, ends, over, Finds, first, sticks, each, halts, stops, spent}
use Rattle.local_laws.proofs.Seeing.{Shown, Nothing, shown_at, shown_of, add, shown_behind}
use Rattle.local_laws.specs.Lemmas.Running.{In}
use Rattle.local_laws.proofs.Places.{IsOver, ending_by, GoesOn, CutsOff, IsDone, IsFull, IsFirst, places}

-- ---- picks

pick_below : (n : ℕ) (ps : List ℕ) → (pick (suc n) ps).0 < suc n
pick_below n ps = by (nat_le (suc n) 1) ps
  where
    by : (b : Bool) (ps : List ℕ) → (if b then (0, ps) else picked_from (suc n) ps).0 < suc n
    by true ps = omega arith
    by false [] = omega arith
    by false (p ∷ ps) = mod_below p (suc n) (omega arith)

get_below : {A : Type 0} (xs : List A) (k : ℕ) → k < length xs → (x : A) × (slice_get xs k ≡ Some x)
get_below [] k l = absurd (omega (arith, l))
get_below (x ∷ xs) zero l = (x, refl)
get_below (x ∷ xs) (suc k) l = get_below xs k (omega (arith, l))

get_within : {A : Type 0} (xs : List A) (k : ℕ) (x : A) → slice_get xs k ≡ Some x → k < length xs
get_within [] k x e = cc
get_within (y ∷ xs) zero x e = omega arith
get_within (y ∷ xs) (suc k) x e = let r = get_within xs k x e in omega (arith, r)

-- numbers by which option n is picked, with these left
pick_given : (many n : ℕ) (picks : List ℕ) → n < many → (given : List ℕ) × (pick many given ≡ (n, picks))
pick_given many n picks l = elim (leb_tells many 1) [
  | inl q ↦
      let zero_is : 0 ≡ n = omega (arith, l, q.1) in
      (picks, ap (λ (b : Bool). if b then (0, picks) else picked_from many picks) q.0 ∙ ap (λ n. (n, picks)) zero_is)
  | inr q ↦ (n ∷ picks, ap (λ (b : Bool). if b then (0, n ∷ picks) else picked_from many (n ∷ picks)) q.0 ∙ ap (λ n. (n, picks)) (mod-eq_of_lt l))
]

-- ---- trees

-- the same leaf by numbers that leave others
pub again : {A : Type 0} (t : Tree A) (ks qs : List ℕ) → (ps : List ℕ) × (leaf t ps ≡ leaf t ks) × (rest t ps ≡ qs)
again (Leaf a) ks qs = (qs, refl, refl)
again (Node n kids) [] qs =
    let r = again (kids 0) [] qs in
    let z : 0 % suc (suc n) ≡ 0 = mod-eq_of_lt (omega arith) in
    (0 ∷ r.0, ap (λ k. leaf (kids k) r.0) z ∙ r.1, ap (λ k. rest (kids k) r.0) z ∙ r.2)
again (Node n kids) (k ∷ ks) qs = let r = again (kids (k % suc (suc n))) ks qs in (k ∷ r.0, r.1, r.2)

client_moved : (k : Client) (qs : List ℕ) (o : Outcome) → with_client k (moved qs o) ≡ moved qs (with_client k o)
client_moved k qs (Next c) = refl
client_moved k qs (End ls e) = refl
client_moved k qs (Asks view go) = refl
client_moved k qs Stuck = refl

pub told_moved : (p : Program) (k : Client) (qs : List ℕ) (o : Outcome) → client_answers p k (moved qs o) ≡ moved qs (client_answers p k o)
told_moved p k qs (Next c) = refl
told_moved p k qs (End ls e) = refl
told_moved p k qs (Asks view go) = client_moved (advanced k) qs (go (answer_of p.tables view k))
told_moved p k qs Stuck = refl

module _ (p : Program) where
  -- the tree has no numbers and no lines of its own
  step_plain : (d : Configuration) (qs : List ℕ) (ls : List Line) → step_tree p (record d { picks = qs; lines = ls }) ≡ step_tree p d
  step_plain d qs ls = by (threads_from 0 d.threads) (runnable d)
    where
      by : (ts is : List ℕ) → ends_or_branches p (record d { picks = qs; lines = ls }) ts is ≡ ends_or_branches p d ts is
      by [] is = refl
      by (t ∷ ts) [] = refl
      by (t ∷ ts) (i ∷ is) = refl

  pub local_plain : (n : ℕ) (d : Configuration) (qs : List ℕ) (ls : List Line) → local_tree p n (record d { picks = qs; lines = ls }) ≡ local_tree p n d
  local_plain zero d qs ls = refl
  local_plain (suc n) d qs ls = ap (λ t. grown t (λ o. goes_on_tree (local_tree p n) (client_answers p d.client o))) (by (least_local p d))
    where
      by : (o : Option ℕ) → first_tree p (record d { picks = qs; lines = ls }) o ≡ first_tree p d o
      by None = step_plain d qs ls
      by (Some i) = refl

  -- ---- the step of each thread that may run, by some numbers

  pub none_of : (c : Configuration) → threads_from 0 c.threads ≡ [] → runnable c ≡ []
  none_of c e = ap (filter (λ i. not (is_blocked c.waiters i))) e

  pub step_given : (c : Configuration) (j : ℕ) (picks : List ℕ) → In j (runnable c) → (c.steps == c.budget) ≡ false → (given : List ℕ) × (step p (with_picks given c) ≡ turns p (picked c picks) j)
  step_given c j picks r room = by (threads_from 0 c.threads) (runnable c) refl refl
    where
      by : (ts is : List ℕ) → threads_from 0 c.threads ≡ ts → runnable c ≡ is → (given : List ℕ) × (ends_or_picks p (with_picks given c) ts is ≡ turns p (picked c picks) j)
      by ts [] a b = let none : None ≡ Some j = sym (ap (λ xs. slice_get xs r.0) b) ∙ r.1 in cc
      by [] (i ∷ is) a b = let none : [] ≡ i ∷ is = sym (none_of c a) ∙ b in cc
      by (t ∷ ts) (i ∷ is) a b =
          let at : slice_get (i ∷ is) r.0 ≡ Some j = sym (ap (λ xs. slice_get xs r.0) b) ∙ r.1 in
          let g = pick_given (length (i ∷ is)) r.0 picks (get_within (i ∷ is) r.0 j at) in (
            g.0,
            ap (λ (x : Bool). if x then End [] (endings.Budget c.steps) else picking_thread p (with_picks g.0 c) (i ∷ is)) room
                ∙ ap (λ (k : ℕ × List ℕ). on (slice_get (i ∷ is) k.0) (turns p (picked c k.1))) g.1
                ∙ on_some (slice_get (i ∷ is) r.0) j (turns p (picked c picks)) at,
          )

  -- ---- the run by a schedule, as steps from place to place

  MoreRuns : ℕ → Type 0
  MoreRuns m = 0 < m → (x : Configuration) → m + x.steps ≡ suc x.budget → Runs (places p) (plain x) (shown_of (run p m x))

  -- a thread is picked
  picked_run : (m : ℕ) (c : Configuration) (j : ℕ) (picks : List ℕ) → In j (runnable c) → c.steps < c.budget → m + c.steps ≡ c.budget → MoreRuns m → (o : Outcome) → made p c j picks ≡ o
      → Runs (places p) (plain c) (shown_of (goes_on (run p m) o))
  unfolding MoreRuns
  picked_run m c j picks r room e more (Next x) q =
      let n = made_counts p c x j picks q in
      let n0 = n.0 in let n1 = n.1 in
      let some : 0 < m = omega (arith, room, e) in
      let few : m + x.steps ≡ suc x.budget = omega (arith, e, n0, n1) in
      subst (Runs (places p) (plain c)) (sym (shown_behind (reverse x.lines) (run p m x)))
      (goes (record { j = j; picks = picks; runs = r; room = room; x = x; made = q; lines = refl; place = refl }) (more some x few))
  picked_run m c j picks r room e more (End ls x) q = cuts (record { j = j; picks = picks; runs = r; room = room; stops = subst (λ o. IsOver o (shown_at ls x)) (sym q) refl })
  picked_run m c j picks r room e more (Asks view go) q = cuts (record { j = j; picks = picks; runs = r; room = room; stops = subst (λ o. IsOver o Nothing) (sym q) refl })
  picked_run m c j picks r room e more Stuck q = cuts (record { j = j; picks = picks; runs = r; room = room; stops = subst (λ o. IsOver o Nothing) (sym q) refl })

  run_at : (m : ℕ) (c : Configuration) → m + c.steps ≡ c.budget → MoreRuns m → Runs (places p) (plain c) (shown_of (run p (suc m) c))
  run_at m c e more = by (threads_from 0 c.threads) (runnable c) refl refl
    where
      some : (t i : ℕ) (ts is : List ℕ) → runnable c ≡ i ∷ is → (x : Bool) → (c.steps == c.budget) ≡ x → (x ≡ true → c.steps ≡ c.budget) → (x ≡ false → c.steps < c.budget)
          → Runs (places p) (plain c) (shown_of (goes_on (run p m) (client_answers p c.client (if x then End [] (endings.Budget c.steps) else picking_thread p c (i ∷ is)))))
      some t i ts is b true q full room = over (record { j = i; runs = (0, ap (λ xs. slice_get xs 0) b); spent = full refl })
      some t i ts is b false q full room =
          let k : ℕ × List ℕ = pick (length (i ∷ is)) c.picks in
          let j = get_below (i ∷ is) k.0 (pick_below (length is) c.picks) in
          let step_is : picking_thread p c (i ∷ is) ≡ turns p (picked c k.1) j.0 = on_some (slice_get (i ∷ is) k.0) j.0 (turns p (picked c k.1)) j.1 in
          subst (λ o. Runs (places p) (plain c) (shown_of (goes_on (run p m) (client_answers p c.client o)))) (sym step_is)
          (picked_run m c j.0 k.1 (k.0, ap (λ xs. slice_get xs k.0) b ∙ j.1) (room refl) e more (made p c j.0 k.1) refl)

      by : (ts is : List ℕ) → threads_from 0 c.threads ≡ ts → runnable c ≡ is → Runs (places p) (plain c) (shown_of (goes_on (run p m) (client_answers p c.client (ends_or_picks p c ts is))))
      by [] is a b = ends (record { none = none_of c a; says = ap (λ ts. shown_at [] (ending_by ts)) (sym a) })
      by (t ∷ ts) [] a b = ends (record { none = b; says = ap (λ ts. shown_at [] (ending_by ts)) (sym a) })
      by (t ∷ ts) (i ∷ is) a b = elim (eqb_tells c.steps c.budget) [
        | inl q ↦ some t i ts is b (c.steps == c.budget) refl (λ z. q.1) (λ z. let no : true ≡ false = sym q.0 ∙ z in cc)
        | inr q ↦ some t i ts is b (c.steps == c.budget) refl (λ z. let no : false ≡ true = sym q.0 ∙ z in cc) (λ z. below q.1)
      ]
        where
          below : c.steps ≢ c.budget → c.steps < c.budget
          below ne = elim (leb_tells c.budget c.steps) [
            | inl q ↦ absurd (ne (omega (arith, e, q.1)))
            | inr q ↦ q.1
          ]

  pub from_run : (m : ℕ) (c : Configuration) → m + c.steps ≡ c.budget → Runs (places p) (plain c) (shown_of (run p (suc m) c))
  unfolding MoreRuns
  from_run zero c e = run_at zero c e (λ l x q. absurd (omega (arith, l)))
  from_run (suc m) c e = run_at (suc m) c e (λ l x q. from_run m x (omega (arith, q)))

  -- ---- what is found, as a leaf of the tree

  Leafs : ℕ → Configuration → Shown → Type 0
  Leafs m c s = (ks : List ℕ) × (shown_of (leaf (local_tree p (suc m) c) ks) ≡ s)

  over_unmoved : (qs : List ℕ) (o : Outcome) (s : Shown) → IsOver (moved qs o) s → IsOver o s
  over_unmoved qs (Next d) s h = absurd h
  over_unmoved qs (End ls e) s h = h
  over_unmoved qs (Asks view go) s h = h
  over_unmoved qs Stuck s h = h

  -- a step that goes on, and the rest by these numbers
  next_leaf : (m : ℕ) (x y : Configuration) (s : Shown) (ks : List ℕ) (ls : List Line) → plain x ≡ y → ls ≡ reverse x.lines → shown_of (leaf (local_tree p m y) ks) ≡ s
      → shown_of (leaf (goes_on_tree (local_tree p m) (Next x)) ks) ≡ add ls s
  next_leaf m x y s ks ls place lines e =
      ap shown_of (leaf_grown (λ r. Leaf (behind (reverse x.lines) r)) (local_tree p m x) ks)
      ∙ shown_behind (reverse x.lines) (leaf (local_tree p m x) ks)
      ∙ ap (λ ls. add ls (shown_of (leaf (local_tree p m x) ks))) (sym lines)
      ∙ ap (λ t. add ls (shown_of (leaf t ks))) (sym (local_plain m x [] []) ∙ ap (local_tree p m) place)
      ∙ ap (add ls) e

  -- a step that ends the run
  over_leaf : (m : ℕ) (o : Outcome) (s : Shown) (ks : List ℕ) → IsOver o s → shown_of (leaf (goes_on_tree (local_tree p m) o) ks) ≡ s
  over_leaf m (Next d) s ks h = absurd h
  over_leaf m (End ls e) s ks h = sym h
  over_leaf m (Asks view go) s ks h = sym h
  over_leaf m Stuck s ks h = sym h

  -- the leaf of a step, and of what goes on behind it
  step_leaf : (m : ℕ) (c : Configuration) (given ks : List ℕ) → least_local p c ≡ None
      → (numbers : List ℕ) × (leaf (local_tree p (suc m) c) numbers ≡ leaf (goes_on_tree (local_tree p m) (client_answers p c.client (leaf (step_tree p c) given))) ks)
  step_leaf m c given ks none =
      let a = again (step_tree p c) given ks in
      let more : Outcome → Tree Run = λ o. goes_on_tree (local_tree p m) (client_answers p c.client o) in (
        a.0,
        ap (λ o. leaf (grown (first_tree p c o) more) a.0) none
            ∙ leaf_grown more (step_tree p c) a.0
            ∙ ap (λ o. leaf (more o) (rest (step_tree p c) a.0)) a.1
            ∙ ap (leaf (more (leaf (step_tree p c) given))) a.2,
      )

  module _ (trees : StepsAreTrees) where
    -- what the leaf of some numbers comes to
    told_leaf : (c : Configuration) (j : ℕ) (picks given : List ℕ) → step p (with_picks given c) ≡ turns p (picked c picks) j
        → moved (rest (step_tree p c) given) (client_answers p c.client (leaf (step_tree p c) given)) ≡ made p c j picks
    told_leaf c j picks given e =
        sym (told_moved p c.client (rest (step_tree p c) given) (leaf (step_tree p c) given)) ∙ ap (client_answers p c.client) (sym (trees p c given) ∙ e)

    each_leaf : (m : ℕ) (c d : Configuration) (ls : List Line) (s : Shown) → least_local p c ≡ None → GoesOn p c ls d → (c.steps == c.budget) ≡ false → (ks : List ℕ) → shown_of (leaf (local_tree p m d) ks) ≡ s
        → Leafs m c (add ls s)
    unfolding Leafs
    each_leaf m c d ls s none g room ks e =
        let h = step_given c g.j g.picks g.runs room in
        let n = step_leaf m c h.0 ks none in
        (n.0, ap shown_of n.1 ∙ by (rest (step_tree p c) h.0) (client_answers p c.client (leaf (step_tree p c) h.0)) (told_leaf c g.j g.picks h.0 h.1 ∙ g.made))
      where
        by : (qs : List ℕ) (o : Outcome) → moved qs o ≡ Next g.x → shown_of (leaf (goes_on_tree (local_tree p m) o) ks) ≡ add ls s
        by qs (Next x) q =
            let same : with_picks qs x ≡ g.x = cc in
            next_leaf m x d s ks ls (ap plain same ∙ sym g.place) (g.lines ∙ ap (λ (c : Configuration). reverse c.lines) (sym same)) e
        by qs (End ls x) q = cc
        by qs (Asks view go) q = cc
        by qs Stuck q = cc

    halt_leaf : (m : ℕ) (c : Configuration) (s : Shown) → least_local p c ≡ None → CutsOff p c s → (c.steps == c.budget) ≡ false → Leafs m c s
    unfolding Leafs
    halt_leaf m c s none g room =
        let h = step_given c g.j g.picks g.runs room in
        let n = step_leaf m c h.0 [] none in
        let stops : IsOver (client_answers p c.client (leaf (step_tree p c) h.0)) s =
        over_unmoved (rest (step_tree p c) h.0) (client_answers p c.client (leaf (step_tree p c) h.0)) s (subst (λ o. IsOver o s) (sym (told_leaf c g.j g.picks h.0 h.1)) g.stops) in
        (n.0, ap shown_of n.1 ∙ over_leaf m (client_answers p c.client (leaf (step_tree p c) h.0)) s [] stops)

    -- where the step is a leaf without a pick
    plain_leaf : (m : ℕ) (c : Configuration) (o : Outcome) (s : Shown) → least_local p c ≡ None → step_tree p c ≡ Leaf o → IsOver (client_answers p c.client o) s → Leafs m c s
    unfolding Leafs
    plain_leaf m c o s none e h = (
      [],
      ap (λ w. shown_of (leaf (grown (first_tree p c w) (λ o. goes_on_tree (local_tree p m) (client_answers p c.client o))) [])) none
          ∙ ap (λ t. shown_of (leaf (grown t (λ o. goes_on_tree (local_tree p m) (client_answers p c.client o))) [])) e
          ∙ over_leaf m (client_answers p c.client o) s [] h,
    )

    stop_leaf : (m : ℕ) (c : Configuration) (s : Shown) → least_local p c ≡ None → IsDone p c s → Leafs m c s
    stop_leaf m c s none h =
        by (threads_from 0 c.threads) refl
      where
        tree : (ts : List ℕ) → threads_from 0 c.threads ≡ ts → step_tree p c ≡ ends_or_branches p c ts []
        tree ts e = ap (λ ts. ends_or_branches p c ts (runnable c)) e ∙ ap (ends_or_branches p c ts) h.none

        by : (ts : List ℕ) → threads_from 0 c.threads ≡ ts → Leafs m c s
        by [] e = plain_leaf m c (End [] endings.Done) s none (tree [] e) (h.says ∙ ap (λ ts. shown_at [] (ending_by ts)) e)
        by (t ∷ ts) e = plain_leaf m c (End [] (endings.AllWaiting (t ∷ ts))) s none (tree (t ∷ ts) e) (h.says ∙ ap (λ ts. shown_at [] (ending_by ts)) e)

    spent_leaf : (m : ℕ) (c : Configuration) → least_local p c ≡ None → IsFull p c → (c.steps == c.budget) ≡ true → Leafs m c Nothing
    spent_leaf m c none h full = by (threads_from 0 c.threads) (runnable c) refl refl
      where
        by : (ts is : List ℕ) → threads_from 0 c.threads ≡ ts → runnable c ≡ is → Leafs m c Nothing
        by ts [] a b = let no : None ≡ Some h.j = sym (ap (λ xs. slice_get xs h.runs.0) b) ∙ h.runs.1 in cc
        by [] (i ∷ is) a b = let no : [] ≡ i ∷ is = sym (none_of c a) ∙ b in cc
        by (t ∷ ts) (i ∷ is) a b =
            plain_leaf m c (End [] (endings.Budget c.steps)) Nothing none (tree ∙ ap (λ (x : Bool). if x then Leaf (End [] (endings.Budget c.steps)) else picks) full) refl
          where
            picks : Tree Outcome
            picks = branches (length (i ∷ is)) (λ k. thread_tree p (picked c []) (slice_get (i ∷ is) k))

            tree : step_tree p c ≡ ends_or_branches p c (t ∷ ts) (i ∷ is)
            tree = ap (λ ts. ends_or_branches p c ts (runnable c)) a ∙ ap (ends_or_branches p c (t ∷ ts)) b

    first_leaf : (m : ℕ) (c d : Configuration) (li : List Line) (s : Shown) → IsFirst p c li d → (ks : List ℕ) → shown_of (leaf (local_tree p m d) ks) ≡ s → Leafs m c (add li s)
    unfolding Leafs
    first_leaf m c d li s f ks e = (
      ks,
      ap (λ w. shown_of (leaf (grown (first_tree p c w) (λ o. goes_on_tree (local_tree p m) (client_answers p c.client o))) ks)) f.least
          ∙ ap (λ o. shown_of (leaf (goes_on_tree (local_tree p m) o) ks)) f.made
          ∙ next_leaf m f.x d s ks li (sym f.place) f.lines e,
    )

    stuck_leaf : (m i : ℕ) (c : Configuration) → least_local p c ≡ Some i → made p c i [] ≡ Stuck → Leafs m c Nothing
    unfolding Leafs
    stuck_leaf m i c least e = (
      [],
      ap (λ w. shown_of (leaf (grown (first_tree p c w) (λ o. goes_on_tree (local_tree p m) (client_answers p c.client o))) [])) least
          ∙ ap (λ o. shown_of (leaf (goes_on_tree (local_tree p m) o) [])) e,
    )

    has_room : (c : Configuration) → c.steps < c.budget → (c.steps == c.budget) ≡ false
    has_room c l = elim (eqb_tells c.steps c.budget) [ inl q ↦ absurd (omega (arith, l, q.1)) | inr q ↦ q.0 ]

    is_spent : (c : Configuration) → c.steps ≡ c.budget → (c.steps == c.budget) ≡ true
    is_spent c e = elim (eqb_tells c.steps c.budget) [ inl q ↦ q.0 | inr q ↦ absurd (q.1 e) ]

    pub to_leaf : {c : Configuration} {s : Shown} → Finds (places p) c s → (m : ℕ) → m + c.steps ≡ c.budget → (ks : List ℕ) × (shown_of (leaf (local_tree p (suc m) c) ks) ≡ s)
    unfolding Leafs
    to_leaf (first {c} {d} {li} {s} f more) m e = by m e (to_leaf more)
      where
        by : (m : ℕ) → m + c.steps ≡ c.budget → ((m : ℕ) → m + d.steps ≡ d.budget → Leafs m d s) → Leafs m c (add li s)
        by zero e more = let l = f.room in absurd (omega (arith, l, e))
        by (suc m) e more =
            let n = made_counts p c f.x f.i [] f.made in
            let a : d.steps ≡ suc c.steps = ap (λ (c : Configuration). c.steps) f.place ∙ n.0 in
            let b : d.budget ≡ c.budget = ap (λ (c : Configuration). c.budget) f.place ∙ n.1 in
            let r = more m (omega (arith, e, a, b)) in
            first_leaf (suc m) c d li s f r.0 r.1
    to_leaf (sticks {c} (inl q)) m e = stuck_leaf m q.0 c q.1 q.2
    to_leaf (sticks {c} (inr q)) m e = absurd (omega (arith, q, e))
    to_leaf (each {c} {d} {ls} {s} none g more) m e = by m e (to_leaf more)
      where
        by : (m : ℕ) → m + c.steps ≡ c.budget → ((m : ℕ) → m + d.steps ≡ d.budget → Leafs m d s) → Leafs m c (add ls s)
        by zero e more = let l = g.room in absurd (omega (arith, l, e))
        by (suc m) e more =
            let n = made_counts p c g.x g.j g.picks g.made in
            let a : d.steps ≡ suc c.steps = ap (λ (c : Configuration). c.steps) g.place ∙ n.0 in
            let b : d.budget ≡ c.budget = ap (λ (c : Configuration). c.budget) g.place ∙ n.1 in
            let r = more m (omega (arith, e, a, b)) in
            each_leaf (suc m) c d ls s none g (has_room c g.room) r.0 r.1
    to_leaf (halts {c} {s} none g) m e = halt_leaf m c s none g (has_room c g.room)
    to_leaf (stops {c} {s} none g) m e = stop_leaf m c s none g
    to_leaf (spent {c} none g) m e = spent_leaf m c none g (is_spent c g.spent)
