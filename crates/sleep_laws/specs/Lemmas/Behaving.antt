-- Places that are alike are over alike, have the same moves, and go on alike.
use Rattle.std.specs.Prelude.{◌≡◌, ◌≤◌, ◌+◌, ℕ, zero, suc, Bool, true, false, ◌==◌, nat_lt, List, [], ◌∷◌, ◌++◌, Option, Some, None, Result, Ok, Err, map, option_map, flat_map, find, length, reverse, slice_get, refl, if◌then◌else◌}
use Rattle.std.proofs.Common.{sym, ◌∙◌, ap, subst, arith}
use Rattle.std.proofs.lemmas.Bool.{ltb-false}
use Rattle.mu_values.specs.declared.scalars.Scalar.{Scalar}
use Rattle.mu_values.specs.declared.cells.CellId.{CellId}
use Rattle.typed_heap.specs.Objects.{HeapObject}
use Rattle.typed_heap.specs.Places.{cell_in}
use Rattle.futex.specs.declared.waiters.Waiter.{Waiter}
use Rattle.futex.specs.Waiting.{is_of}
use Rattle.mem_axioms.specs.Objects.{initial_of}
use Rattle.mem_axioms.specs.Axioms.{meets_axioms}
use Rattle.mem_axioms.specs.declared.types.Event.{Event}
use Rattle.mu_model.specs.declared.lines.Line.{Line}
use Rattle.mu_model.specs.declared.lines.Note.{Note}
use Rattle.mu_model.specs.declared.endings.Case.{Case}
use Rattle.mu_model.specs.declared.endings.Ending.{Ending}
use Rattle.mu_model.specs.declared.endings.Ending.TheVariants as endings
use Rattle.mu_model.specs.Clients.{Client}
use Rattle.mu_model.specs.Answers.{answer_of, advanced}
use Rattle.mu_model.specs.Configuration.{Configuration}
use Rattle.mu_model.specs.Acts as acts
use Rattle.mu_model.specs.Acts.{Act, Program}
use Rattle.mu_model.specs.Accesses.{initial, wanted}
use Rattle.mu_model.specs.EnteringStacks.{most_threads}
use Rattle.mu_model.specs.Turns.{Turn, turn_of}
use Rattle.mu_model.specs.Outcomes.{Outcome, Next, End, Asks, Stuck, on, or_case}
use Rattle.mu_model.specs.Step.{threads_from, runnable, turns, picked}
use Rattle.mu_model.specs.Run.{client_answers, with_client}
use Rattle.seen_runs.specs.Seen.{Seen, Over, end_of, thread_ends, line_after, last_after, small_cells, last_scalars, seen_at}
use Rattle.exchange_laws.specs.Sleep.{At as AtNumber, Member}
use Rattle.exchange_steps.specs.Alike.{with_log, Alike, goes, ends, races, asks, breaks}
use Rattle.exchange_steps.specs.Ordered.{Ordered, ordered-choices, turns-exchange}
use Rattle.local_steps.specs.IsLocal.{is_local}
use Rattle.local_laws.specs.Lemmas.Forms.{Effect, effect, lines_of, result, Locals, locals}
use Rattle.local_laws.specs.Lemmas.Running.{In, found_in}
use Rattle.sleep_moves.specs.Moves.{Move, option_move, cell_moves, act_moves, doing_moves, turn_moves, thread_moves, moves, move_made, sleeps}
use Rattle.sleep_laws.specs.Lemmas.Searches.{Behaves}
use Rattle.sleep_laws.specs.Fits.{plain, Fits}
use Rattle.sleep_laws.specs.Lemmas.Places.{Place, At, Gone, local_first, comes, stays_at, goes_first, settled, over_by, over, place_moves, move_step, place_apart, GoodAt, SameSeen, LikeAt, both, gone}
use Rattle.sleep_laws.specs.Lemmas.LocalRuns.{local_comes}
use Rattle.sleep_laws.specs.Lemmas.Turning.{of_flat, given_by, move_turn}

-- ---- what is seen

flat_append : (i : ℕ) (xs ys : List Line) → flat_map (end_of i) (xs ++ ys) ≡ flat_map (end_of i) xs ++ flat_map (end_of i) ys
flat_append i [] ys = refl
flat_append i (x ∷ xs) ys = ap (λ zs. end_of i x ++ zs) (flat_append i xs ys) ∙ sym (assoc (end_of i x) (flat_map (end_of i) xs) (flat_map (end_of i) ys))
  where
    assoc : (ks ms ns : List Note) → (ks ++ ms) ++ ns ≡ ks ++ (ms ++ ns)
    assoc [] ms ns = refl
    assoc (k ∷ ks) ms ns = ap (λ ns. k ∷ ns) (assoc ks ms ns)

last_append : (cell : CellId) (v : Scalar) (xs ys : List Line) → last_after cell v (xs ++ ys) ≡ last_after cell (last_after cell v xs) ys
last_append cell v [] ys = refl
last_append cell v (x ∷ xs) ys = last_append cell (line_after cell v x) xs ys

-- what is seen of lines, and then of others
pub ends_append : (i : ℕ) (xs ys : List Line) → flat_map (end_of i) (xs ++ ys) ≡ flat_map (end_of i) xs ++ flat_map (end_of i) ys
ends_append = flat_append

pub scalar_append : (cell : CellId) (v : Scalar) (xs ys : List Line) → last_after cell v (xs ++ ys) ≡ last_after cell (last_after cell v xs) ys
scalar_append = last_append

pub seen_append : (ls ms xs : List Line) → SameSeen ls ms → SameSeen (ls ++ xs) (ms ++ xs)
seen_append ls ms xs s = record {
  ends = λ i. flat_append i ls xs ∙ ap (λ ns. ns ++ flat_map (end_of i) xs) (s.ends i) ∙ sym (flat_append i ms xs);
  last = λ cell v. last_append cell v ls xs ∙ ap (λ v. last_after cell v xs) (s.last cell v) ∙ sym (last_append cell v ms xs);
}

ends_same : (ls ms : List Line) → SameSeen ls ms → (n : ℕ) → thread_ends ls n ≡ thread_ends ms n
ends_same ls ms s zero = refl
ends_same ls ms s (suc n) = ap (λ ns. ns ++ flat_map (end_of n) ls) (ends_same ls ms s n) ∙ ap (λ ns. thread_ends ms n ++ ns) (s.ends n)

scalars_same : (ls ms : List Line) → SameSeen ls ms → (first : CellId → Scalar) (cells : List CellId) → map (λ cell. last_after cell (first cell) ls) cells ≡ map (λ cell. last_after cell (first cell) ms) cells
scalars_same ls ms s first [] = refl
scalars_same ls ms s first (cell ∷ cells) = ap (λ v. v ∷ map (λ cell. last_after cell (first cell) ls) cells) (s.last cell (first cell)) ∙ ap (λ vs. last_after cell (first cell) ms ∷ vs) (scalars_same ls ms s first cells)

pub seen_same : (globals : ℕ) (os : List HeapObject) (ls ms : List Line) → SameSeen ls ms → (e : Ending) → seen_at globals os ls e ≡ seen_at globals os ms e
seen_same globals os ls ms s endings.Done = whole endings.Done
  where
    first : CellId → Scalar
    first = initial_of (map (λ (o : HeapObject). o.initial) os)

    whole : (e : Ending) → Some (Over (thread_ends ls most_threads) (last_scalars globals os ls) e) ≡ Some (Over (thread_ends ms most_threads) (last_scalars globals os ms) e)
    whole e = ap (λ ns. Some (Over ns (last_scalars globals os ls) e)) (ends_same ls ms s most_threads)
        ∙ ap (λ vs. Some (Over (thread_ends ms most_threads) vs e)) (scalars_same ls ms s (initial_of (map (λ (o : HeapObject). o.initial) os)) (small_cells 0 globals os))
seen_same globals os ls ms s (endings.AllWaiting is) =
    ap (λ ns. Some (Over ns (last_scalars globals os ls) (endings.AllWaiting is))) (ends_same ls ms s most_threads)
    ∙ ap (λ vs. Some (Over (thread_ends ms most_threads) vs (endings.AllWaiting is))) (scalars_same ls ms s (initial_of (map (λ (o : HeapObject). o.initial) os)) (small_cells 0 globals os))
seen_same globals os ls ms s (endings.Budget n) = refl
seen_same globals os ls ms s _ = refl

-- ---- outcomes

client_alike : (R : List Event → List Event → Type 0) (k : Client) (o q : Outcome) → Alike R o q → Alike R (with_client k o) (with_client k q)
client_alike R k o q (goes e r) = goes (ap (λ (c : Configuration). record c { client = k }) e) r
client_alike R k o q ends = ends
client_alike R k o q races = races
client_alike R k o q (asks h) = asks h
client_alike R k o q breaks = breaks

told_alike : (R : List Event → List Event → Type 0) (p : Program) (k : Client) (o q : Outcome) → Alike R o q → Alike R (client_answers p k o) (client_answers p k q)
told_alike R p k o q (goes e r) = goes e r
told_alike R p k o q ends = ends
told_alike R p k o q races = races
told_alike R p k o q (asks {view = view} {go = go} {go' = go'} h) = client_alike R (advanced k) (go (answer_of p.tables view k)) (go' (answer_of p.tables view k)) (h (answer_of p.tables view k))
told_alike R p k o q breaks = breaks

-- ---- the order of a log, below the number where it differs

long : {A : Type 0} (xs ys : List A) → length ys ≤ length (xs ++ ys)
long [] ys = omega arith
long (x ∷ xs) ys = let r = long xs ys in omega (arith, r)

lowered : (m : ℕ) (L M : List Event) → (o : Ordered m L M) → Ordered (suc (suc (length o.past))) L M
lowered m L M o = record { past = o.past; newer = o.newer; e = o.e; f = o.f; apart = o.apart; below = omega arith; first = o.first; second = o.second }

low : (m : ℕ) (L M : List Event) → (o : Ordered m L M) → suc (suc (length o.past)) ≤ length L
low m L M o = let r = long o.newer (o.f ∷ o.e ∷ o.past) in subst (λ (l : List Event). suc (suc (length o.past)) ≤ length l) (sym o.first) r

-- ---- moves

module _ (p : Program) (c : Configuration) (other : List Event) (m : ℕ) (o : Ordered m c.log other) where
  moves_alike : (i : ℕ) → thread_moves p c i ≡ thread_moves p (with_log other c) i
  moves_alike i = by (find (is_of i) c.waiters) (turn_of p c i)
    where
      cell : (u : Turn) (a : acts.Access) (x : Option (Result CellId Case)) → cell_moves c i u a x ≡ cell_moves (with_log other c) i u a x
      cell u a None = refl
      cell u a (Some (Err k)) = refl
      cell u a (Some (Ok there)) = ap (map (option_move i u a there)) (ordered-choices m c.log other o c.rule (initial c) u.thread there (wanted a))

      does : (u : Turn) (a : Option Act) → doing_moves c i u a ≡ doing_moves (with_log other c) i u a
      does u None = refl
      does u (Some (acts.Accesses a place)) = cell u a (option_map or_case (cell_in c.objects place))
      does u (Some _) = refl

      by : (w : Option Waiter) (t : Option Turn) → turn_moves c i w t ≡ turn_moves (with_log other c) i w t
      by w None = refl
      by (Some w) (Some u) = refl
      by None (Some u) = does u u.doing.act

flat_same : {A : Type 0} (f g : ℕ → List A) → ((j : ℕ) → f j ≡ g j) → (xs : List ℕ) → flat_map f xs ≡ flat_map g xs
flat_same f g h [] = refl
flat_same f g h (x ∷ xs) = ap (λ ys. ys ++ flat_map f xs) (h x) ∙ ap (λ ys. g x ++ ys) (flat_same f g h xs)

module _ (p : Program) (globals : ℕ) (os : List HeapObject) where
  comes_alike : (m : ℕ) (ls ms : List Line) (o q : Outcome) → SameSeen ls ms → Alike (Ordered m) o q → LikeAt (comes p globals os ls o) (comes p globals os ms q)
  comes_alike m ls ms o q s (goes {c = c} {d = d} {log = log} e r) =
      subst (λ (d : Configuration). LikeAt (At (plain c) (ls ++ reverse c.lines)) (At (plain d) (ms ++ reverse d.lines))) (sym e) (both {m = m} {other = log} refl r (seen_append ls ms (reverse c.lines) s))
  comes_alike m ls ms o q s (ends {ls = xs} {e = e}) =
      subst (λ x. LikeAt (Gone (seen_at globals os (ls ++ xs) e)) (Gone x)) (seen_same globals os (ls ++ xs) (ms ++ xs) (seen_append ls ms xs s) e) gone
  comes_alike m ls ms o q s races = gone
  comes_alike m ls ms o q s (asks h) = gone
  comes_alike m ls ms o q s breaks = gone

  -- ---- local steps

  module _ (m : ℕ) (other : List Event) where
    local_alike : (c : Configuration) (ls ms : List Line) (i : ℕ) → Ordered m c.log other → SameSeen ls ms → is_local p c i ≡ true
        → LikeAt (comes p globals os ls (client_answers p c.client (turns p (picked c []) i))) (comes p globals os ms (client_answers p c.client (turns p (picked (with_log other c) []) i)))
    unfolding on
    local_alike c ls ms i o s l =
        subst (λ x. LikeAt (comes p globals os ls x) (comes p globals os ms (client_answers p c.client (turns p (picked (with_log other c) []) i)))) (sym (local_comes p c i h))
        (subst (λ x. LikeAt (comes p globals os ls (on (effect p h.u h.a) (λ e. Next (result i h.t e (picked c []))))) (comes p globals os ms x)) (sym (local_comes p (with_log other c) i there)) (by (effect p h.u h.a)))
      where
        h : Locals p c i
        h = locals p c i l

        there : Locals p (with_log other c) i
        there = record { t = h.t; u = h.u; a = h.a; acts = record { thread = h.acts.thread; turn = h.acts.turn; awake = h.acts.awake; act = h.acts.act; own = h.acts.own }; alone = h.alone; stack = h.stack; awake = h.awake }

        by : (x : Option Effect) → LikeAt (comes p globals os ls (on x (λ e. Next (result i h.t e (picked c []))))) (comes p globals os ms (on x (λ e. Next (result i h.t e (picked (with_log other c) [])))))
        by None = gone
        by (Some e) = both {m = m} {other = other} refl o (seen_append ls ms (reverse (lines_of i e ++ [])) s)

  stays_alike : (m : ℕ) (other : List Event) (c : Configuration) (ls ms : List Line) → Ordered m c.log other → SameSeen ls ms → (o : Option ℕ) → LikeAt (stays_at p globals os c ls o) (stays_at p globals os (with_log other c) ms o)
  stays_alike m other c ls ms r s None = both {m = m} {other = other} refl r s
  stays_alike m other c ls ms r s (Some i) = gone

  first_alike : (n : ℕ) → ((s t : Place) → LikeAt s t → LikeAt (settled p globals os n s) (settled p globals os n t)) → (m : ℕ) (other : List Event) (c : Configuration) (ls ms : List Line) → Ordered m c.log other → SameSeen ls ms
      → (o : Option ℕ) → local_first p c ≡ o → LikeAt (goes_first p globals os (settled p globals os n) c ls o) (goes_first p globals os (settled p globals os n) (with_log other c) ms o)
  first_alike n ih m other c ls ms r s None q = both {m = m} {other = other} refl r s
  first_alike n ih m other c ls ms r s (Some i) q =
      ih (comes p globals os ls (client_answers p c.client (turns p (picked c []) i))) (comes p globals os ms (client_answers p c.client (turns p (picked (with_log other c) []) i)))
      (local_alike m other c ls ms i r s (found_in (is_local p c) i (runnable c) q).1)

  settled_alike : (n : ℕ) (s t : Place) → LikeAt s t → LikeAt (settled p globals os n s) (settled p globals os n t)
  settled_alike zero s t gone = gone
  settled_alike (suc n) s t gone = gone
  settled_alike zero s t (both {c = c} {ls = ls} {ms = ms} {m = m} {other = other} e r q) =
      subst (λ d. LikeAt (settled p globals os zero (At c ls)) (settled p globals os zero (At d ms))) (sym e) (stays_alike m other c ls ms r q (local_first p c))
  settled_alike (suc n) s t (both {c = c} {ls = ls} {ms = ms} {m = m} {other = other} e r q) =
      subst (λ d. LikeAt (settled p globals os (suc n) (At c ls)) (settled p globals os (suc n) (At d ms))) (sym e)
      (first_alike n (λ s t l. settled_alike n s t l) m other c ls ms r q (local_first p c) refl)

  -- ---- places

  over_alike : (c : Configuration) (other : List Event) (ls ms : List Line) → SameSeen ls ms → over p globals os (At c ls) ≡ over p globals os (At (with_log other c) ms)
  over_alike c other ls ms s = ap (λ x. if nat_lt c.budget c.steps then Some None else x) (by (threads_from 0 c.threads) (runnable c))
    where
      by : (ts is : List ℕ) → over_by p globals os c ls ts is ≡ over_by p globals os (with_log other c) ms ts is
      by [] is = ap Some (seen_same globals os ls ms s endings.Done)
      by (t ∷ ts) [] = ap Some (seen_same globals os ls ms s (endings.AllWaiting (t ∷ ts)))
      by (t ∷ ts) (i ∷ is) = refl

  module _ (c : Configuration) (other : List Event) (m : ℕ) (o : Ordered m c.log other) where
    same_moves : moves p c ≡ moves p (with_log other c)
    same_moves = flat_same (thread_moves p c) (thread_moves p (with_log other c)) (moves_alike p c other m o) (runnable c)

    move_alike : meets_axioms c.rule (initial c) c.log ≡ true → (j n : ℕ) (a : Move) → AtNumber a n (thread_moves p c j) → Alike (Ordered (suc (suc (length o.past)))) (move_made p c a) (move_made p (with_log other c) a)
    move_alike meets j n a h =
        let R : Outcome → Outcome → Type 0 = Alike (Ordered (suc (suc (length o.past)))) in
        let there : AtNumber a n (thread_moves p (with_log other c) j) = subst (AtNumber a n) (moves_alike p c other m o j) h in
        let given : List ℕ = given_by (length (thread_moves p c j)) n in
        let same : given_by (length (thread_moves p (with_log other c) j)) n ≡ given = ap (λ (ms : List Move). given_by (length ms) n) (sym (moves_alike p c other m o j)) in
        let x = turns-exchange (suc (suc (length o.past))) p (picked c given) other (lowered m c.log other o) (low m c.log other o) meets j in
        let y = move_turn p c j a n h in
        let z = move_turn p (with_log other c) j a n there ∙ ap (λ g. turns p (picked (with_log other c) g) j) same in
        subst (λ o'. R o' (move_made p (with_log other c) a)) (sym y) (subst (R (turns p (picked c given) j)) (sym z) x)

  pub behaves : (n : ℕ) (Fit : Configuration → Type 0) → Fits p Fit → Behaves (over p globals os) (place_moves p globals os) (move_step p globals os n) (place_apart p globals os) sleeps (GoodAt p Fit) LikeAt
  behaves n Fit fits = record { ends = over_same; same = moves_same; goes_on = goes_alike }
    where
      over_same : (s t : Place) → LikeAt s t → over p globals os s ≡ over p globals os t
      over_same s t gone = refl
      over_same s t (both {c = c} {ls = ls} {ms = ms} {other = other} e r q) = over_alike c other ls ms q ∙ ap (λ d. over p globals os (At d ms)) (sym e)

      moves_same : (s t : Place) → GoodAt p Fit s → LikeAt s t → over p globals os s ≡ None → (a : Move) → Member a (place_moves p globals os s) → Member a (place_moves p globals os t)
      moves_same s t g gone v a h = h
      moves_same s t g (both {c = c} {m = m} {other = other} e r q) v a h = subst (Member a) (same_moves c other m r ∙ ap (moves p) (sym e)) h

      room : (c : Configuration) (ls : List Line) → over p globals os (At c ls) ≡ None → c.steps ≤ c.budget
      room c ls v = by (nat_lt c.budget c.steps) refl v
        where
          by : (b : Bool) → nat_lt c.budget c.steps ≡ b → (if b then Some None else over_by p globals os c ls (threads_from 0 c.threads) (runnable c)) ≡ None → c.steps ≤ c.budget
          by true e v = let no : Some None ≡ None = v in absurd (cc)
          by false e v = ltb-false c.budget c.steps e

      goes_alike : (s t : Place) → GoodAt p Fit s → LikeAt s t → over p globals os s ≡ None → (a : Move) → Member a (place_moves p globals os s) → LikeAt (move_step p globals os n s a) (move_step p globals os n t a)
      goes_alike s t g gone v a h = gone
      goes_alike s t g (both {c = c} {ls = ls} {ms = ms} {m = m} {other = other} e r q) v a h =
          let f = of_flat (thread_moves p c) a h.0 (runnable c) h.1 in
          let x = told_alike (Ordered (suc (suc (length r.past)))) p c.client (move_made p c a) (move_made p (with_log other c) a) (move_alike c other m r (fits.meets c (g.0 (room c ls v))) f.0 f.2.0 a f.2.1) in
          subst (λ d. LikeAt (move_step p globals os n (At c ls) a) (move_step p globals os n (At d ms) a)) (sym e)
          (settled_alike n _ _ (comes_alike (suc (suc (length r.past))) ls ms (client_answers p c.client (move_made p c a)) (client_answers p c.client (move_made p (with_log other c) a)) q x))
