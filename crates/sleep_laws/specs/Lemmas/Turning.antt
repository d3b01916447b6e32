-- The moves of a thread are its turns, by some numbers of a schedule; those with an event are its accesses and fences.
use Rattle.std.specs.Prelude.{◌≡◌, ◌≢◌, ◌<◌, ◌%◌, ℕ, zero, suc, Bool, true, false, nat_le, List, [], ◌∷◌, ◌++◌, Option, Some, None, Result, Ok, Err, map, option_map, flat_map, find, length, slice_get, refl, if◌then◌else◌}
use Rattle.std.proofs.Common.{sym, ◌∙◌, ap, subst, arith, inl, inr, ◌⊎◌}
use Rattle.std.proofs.Math.Nat.{mod-eq_of_lt}
use Rattle.std.proofs.lemmas.Bool.Decides.{leb_tells}
use Rattle.mu_base.specs.declared.order.Order.{Order}
use Rattle.mu_values.specs.declared.scalars.Scalar.{Scalar}
use Rattle.mu_values.specs.declared.cells.CellId.{CellId}
use Rattle.typed_heap.specs.Places.{with_some, cell_in}
use Rattle.frames.specs.Activations.{Activation}
use Rattle.mem_axioms.specs.Choices.{choices}
use Rattle.mem_axioms.specs.Races.{race}
use Rattle.mem_axioms.specs.Lemmas.Fitting.{others-race}
use Rattle.mem_axioms.specs.declared.types.Kind.{Kind}
use Rattle.mem_axioms.specs.declared.types.Kind.TheVariants as kinds
use Rattle.mem_axioms.specs.declared.types.Mode.TheVariants as modes
use Rattle.mem_axioms.specs.declared.types.Event.{Event}
use Rattle.mem_axioms.specs.declared.types.Chosen.{Chosen}
use Rattle.futex.specs.declared.waiters.Waiter.{Waiter}
use Rattle.futex.specs.Waiting.{is_of}
use Rattle.mu_threads.specs.Picks.{pick, picked_from}
use Rattle.mu_model.specs.declared.endings.Case.{Case}
use Rattle.mu_model.specs.Configuration.{Configuration}
use Rattle.mu_model.specs.Acts as acts
use Rattle.mu_model.specs.Acts.{Act, Program}
use Rattle.mu_model.specs.Turns.{Turn, turn_of}
use Rattle.mu_model.specs.Changes.{event, logged_event}
use Rattle.mu_model.specs.Frames.{passed}
use Rattle.mu_model.specs.Outcomes.{Outcome, Next, on, next, onto, or_case, has_results, tried}
use Rattle.mu_model.specs.Accesses.{initial, kind_of, updated, access_results, wanted, raced, takes_option, accesses_cell, picking_option}
use Rattle.mu_model.specs.Step.{performed, picked, runnable, turned, turns}
use Rattle.exchange_laws.specs.Sleep.{At, Member}
use Rattle.exchange_steps.specs.ChoiceKept.{IsChoice, choice-in, choice-of}
use Rattle.exchange_steps.specs.Diamond.{Doing, access, fence}
use Rattle.local_laws.specs.Lemmas.Running.{In}
use Rattle.sleep_moves.specs.Moves.{Move, plain_move, option_move, cell_moves, act_moves, doing_moves, turn_moves, thread_moves, moves, option_of, option_made, cell_made, act_made, doing_made, turn_made, move_made}

-- ---- lists

pub at_get : {A : Type 0} (x : A) (n : ℕ) (xs : List A) → At x n xs → slice_get xs n ≡ Some x
at_get x n [] h = absurd h
at_get x zero (y ∷ xs) h = ap Some (sym h)
at_get x (suc n) (y ∷ xs) h = at_get x n xs h

pub get_at : {A : Type 0} (x : A) (n : ℕ) (xs : List A) → slice_get xs n ≡ Some x → At x n xs
get_at x n [] h = let no : None ≡ Some x = h in absurd (cc)
get_at x zero (y ∷ xs) h = let same : Some y ≡ Some x = h in (cc)
get_at x (suc n) (y ∷ xs) h = get_at x n xs h

of_map : {A B : Type 0} (f : A → B) (y : B) (n : ℕ) (xs : List A) → At y n (map f xs) → (x : A) × (slice_get xs n ≡ Some x) × (y ≡ f x)
of_map f y n [] h = absurd h
of_map f y zero (x ∷ xs) h = (x, refl, h)
of_map f y (suc n) (x ∷ xs) h = of_map f y n xs h

in_map : {A B : Type 0} (f : A → B) (x : A) (n : ℕ) (xs : List A) → slice_get xs n ≡ Some x → At (f x) n (map f xs)
in_map f x n [] h = let no : None ≡ Some x = h in absurd (cc)
in_map f x zero (y ∷ xs) h = let same : Some y ≡ Some x = h in let s : x ≡ y = cc in ap f s
in_map f x (suc n) (y ∷ xs) h = in_map f x n xs h

pub map_length : {A B : Type 0} (f : A → B) (xs : List A) → length (map f xs) ≡ length xs
map_length f [] = refl
map_length f (x ∷ xs) = ap suc (map_length f xs)

pub at_below : {A : Type 0} (x : A) (n : ℕ) (xs : List A) → At x n xs → n < length xs
at_below x n [] h = absurd h
at_below x zero (y ∷ xs) h = omega arith
at_below x (suc n) (y ∷ xs) h = let r = at_below x n xs h in omega (arith, r)

in_front : {A : Type 0} (x : A) (n : ℕ) (xs ys : List A) → At x n xs → Member x (xs ++ ys)
in_front x n [] ys h = absurd h
in_front x zero (y ∷ xs) ys h = (zero, h)
in_front x (suc n) (y ∷ xs) ys h = let r = in_front x n xs ys h in (suc r.0, r.1)

in_behind : {A : Type 0} (x : A) (xs ys : List A) → Member x ys → Member x (xs ++ ys)
in_behind x [] ys m = m
in_behind x (y ∷ xs) ys m = let r = in_behind x xs ys m in (suc r.0, r.1)

pub in_flat : {A : Type 0} (f : ℕ → List A) (x : A) (j n : ℕ) (xs : List ℕ) → slice_get xs n ≡ Some j → Member x (f j) → Member x (flat_map f xs)
in_flat f x j n [] h m = let no : None ≡ Some j = h in absurd (cc)
in_flat f x j zero (y ∷ xs) h m = let same : Some y ≡ Some j = h in let s : j ≡ y = cc in let m2 : Member x (f y) = subst (λ j. Member x (f j)) s m in in_front x m2.0 (f y) (flat_map f xs) m2.1
in_flat f x j (suc n) (y ∷ xs) h m = in_behind x (f y) (flat_map f xs) (in_flat f x j n xs h m)

of_append : {A : Type 0} (x : A) (n : ℕ) (xs ys : List A) → At x n (xs ++ ys) → Member x xs ⊎ Member x ys
of_append x n [] ys h = inr (n, h)
of_append x zero (y ∷ xs) ys h = inl (zero, h)
of_append x (suc n) (y ∷ xs) ys h = elim (of_append x n xs ys h) [ inl m ↦ inl (suc m.0, m.1) | inr m ↦ inr m ]

pub of_flat : {A : Type 0} (f : ℕ → List A) (x : A) (n : ℕ) (xs : List ℕ) → At x n (flat_map f xs) → (j : ℕ) × In j xs × Member x (f j)
of_flat f x n [] h = absurd h
of_flat f x n (y ∷ xs) h = by (of_append x n (f y) (flat_map f xs) h) (λ n. of_flat f x n xs)
  where
    by : Member x (f y) ⊎ Member x (flat_map f xs) → ((n : ℕ) → At x n (flat_map f xs) → (j : ℕ) × In j xs × Member x (f j)) → (j : ℕ) × In j (y ∷ xs) × Member x (f j)
    by (inl m) more = (y, (0, refl), m)
    by (inr m) more = let r = more m.0 m.1 in (r.0, (suc r.1.0, r.1.1), r.2)

-- ---- numbers

-- by these numbers option n of so many is picked, and none are left
abbrev pub given_by : ℕ → ℕ → List ℕ
given_by many n = if nat_le many 1 then [] else n ∷ []

pub pick_given : (many n : ℕ) → n < many → pick many (given_by many n) ≡ (n, [])
pick_given many n l = elim (leb_tells many 1) [
  | inl q ↦
      let zero_is : 0 ≡ n = omega (arith, l, q.1) in
      ap (λ (b : Bool). if b then (0, (if b then [] else n ∷ [])) else picked_from many (if b then [] else n ∷ [])) q.0 ∙ ap (λ n. (n, [])) zero_is
  | inr q ↦ ap (λ (b : Bool). if b then (0, (if b then [] else n ∷ [])) else picked_from many (if b then [] else n ∷ [])) q.0 ∙ ap (λ n. (n, [])) (mod-eq_of_lt l)
]

-- ---- the option of which something is logged

module _ (c : Configuration) (t : ℕ) (cell : CellId) (k : Chosen) where
  pub option_is : (a : acts.Access) (kind : Kind) → IsChoice c.rule (initial c) c.log t cell (wanted a) k → kind_of a cell k ≡ Some kind → option_of c cell kind ≡ k
  option_is (acts.Loads o) kind r h =
      let s : Some (kinds.Access modes.Read cell o k.position k.value) ≡ Some kind = h in
      let e : kind ≡ kinds.Access modes.Read cell o k.position k.value = cc in
      ap (option_of c cell) e ∙ sym r.is
  option_is (acts.Stores o v) kind r h =
      let s : Some (kinds.Access modes.Write cell o (suc k.position) v) ≡ Some kind = h in
      let e : kind ≡ kinds.Access modes.Write cell o (suc k.position) v = cc in
      ap (option_of c cell) e ∙ sym r
  option_is (acts.Updates o op v) kind r h = by (updated op k.value v) h
    where
      by : (x : Option Scalar) → with_some x (λ s. Some (kinds.Access modes.Update cell o (suc k.position) s)) ≡ Some kind → option_of c cell kind ≡ k
      by None h = let no : None ≡ Some kind = h in absurd (cc)
      by (Some x) h =
          let s : Some (kinds.Access modes.Update cell o (suc k.position) x) ≡ Some kind = h in
          let e : kind ≡ kinds.Access modes.Update cell o (suc k.position) x = cc in
          ap (option_of c cell) e ∙ sym r
  option_is (acts.Compares weak o f expected v) kind (inl r) h =
      let won : k.success ≡ true = ap (λ (z : Chosen). z.success) r.1 in
      let s : Some (kinds.Access modes.Update cell o (suc k.position) v) ≡ Some kind = sym (ap (λ (b : Bool). Some (if b then kinds.Access modes.Update cell o (suc k.position) v else kinds.Access modes.Read cell f k.position k.value)) won) ∙ h in
      let e : kind ≡ kinds.Access modes.Update cell o (suc k.position) v = cc in
      ap (option_of c cell) e ∙ sym r.1
  option_is (acts.Compares weak o f expected v) kind (inr r) h =
      let lost : k.success ≡ false = ap (λ (z : Chosen). z.success) r.1.is in
      let s : Some (kinds.Access modes.Read cell f k.position k.value) ≡ Some kind = sym (ap (λ (b : Bool). Some (if b then kinds.Access modes.Update cell o (suc k.position) v else kinds.Access modes.Read cell f k.position k.value)) lost) ∙ h in
      let e : kind ≡ kinds.Access modes.Read cell f k.position k.value = cc in
      ap (option_of c cell) e ∙ sym r.1.is

module _ (p : Program) (c : Configuration) (i : ℕ) where
  -- ---- whose move it is

  pub move_thread : (a : Move) (n : ℕ) → At a n (thread_moves p c i) → a.thread ≡ i
  move_thread a n h = by (find (is_of i) c.waiters) (turn_of p c i) n h
    where
      one : (b : Move) → b.thread ≡ i → (n : ℕ) → At a n (b ∷ []) → a.thread ≡ i
      one b e zero h = ap (λ (m : Move). m.thread) h ∙ e
      one b e (suc n) h = absurd h

      by : (w : Option Waiter) (o : Option Turn) (n : ℕ) → At a n (turn_moves c i w o) → a.thread ≡ i
      by w None n h = one (plain_move i) refl n h
      by (Some w) (Some u) n h = one (plain_move i) refl n h
      by None (Some u) n h = does u.doing.act n h
        where
          cell : (b : acts.Access) (o : Option (Result CellId Case)) (n : ℕ) → At a n (cell_moves c i u b o) → a.thread ≡ i
          cell b None n h = one (plain_move i) refl n h
          cell b (Some (Err k)) n h = one (plain_move i) refl n h
          cell b (Some (Ok there)) n h = let r = of_map (option_move i u b there) a n (choices c.rule (initial c) c.log u.thread there (wanted b)) h in ap (λ (m : Move). m.thread) r.2

          does : (o : Option Act) (n : ℕ) → At a n (doing_moves c i u o) → a.thread ≡ i
          does None n h = one (plain_move i) refl n h
          does (Some (acts.Accesses b place)) n h = cell b (option_map or_case (cell_in c.objects place)) n h
          does (Some (acts.Fences o)) n h = one (record { thread = i; event = Some (event u.thread (kinds.Fence o)) }) refl n h
          does (Some _) n h = one (plain_move i) refl n h

  -- ---- a move is a turn

  pub option_so : (u : Turn) (b : acts.Access) (there : CellId) (k : Chosen) → IsChoice c.rule (initial c) c.log u.thread there (wanted b) k → (o : Option Kind) → kind_of b there k ≡ o
      → option_made p (picked c []) u b there (option_map (event u.thread) o) ≡ takes_option p (picked c []) u b there k
  unfolding on
  option_so u b there k r None e = sym (ap (λ o. on o (λ kind. on (with_some (passed p u.top (access_results b k)) (onto u)) (λ fs. raced (picked c []) u (event u.thread kind) fs (race c.rule c.log (event u.thread kind))))) e)
  option_so u b there k r (Some kind) e = ap (takes_option p (picked c []) u b there) (option_is c u.thread there k b kind r e)

  made_so : (w : Option Waiter) (o : Option Turn) (a : Move) (n : ℕ) → At a n (turn_moves c i w o) → turn_made p (picked c []) a.event w o ≡ on o (turned p (picked c (given_by (length (turn_moves c i w o)) n)) w)
  unfolding on tried
  made_so w None a n h = refl
  made_so (Some w) (Some u) a n h = refl
  made_so None (Some u) a n h = does u.doing.act h
    where
      cell : (b : acts.Access) (o : Option (Result CellId Case)) → At a n (cell_moves c i u b o)
          → cell_made p (picked c []) u b a.event o ≡ tried p (picked c (given_by (length (cell_moves c i u b o)) n)) u o (λ there. picking_option p (picked c (given_by (length (cell_moves c i u b o)) n)) u b there (choices c.rule (initial c) c.log u.thread there (wanted b)))
      cell b None h = refl
      cell b (Some (Err k)) h = refl
      cell b (Some (Ok there)) h =
          let ks : List Chosen = choices c.rule (initial c) c.log u.thread there (wanted b) in
          let r = of_map (option_move i u b there) a n ks h in
          let long : length (map (option_move i u b there) ks) ≡ length ks = map_length (option_move i u b there) ks in
          let few : n < length ks = let l = at_below a n (map (option_move i u b there) ks) h in omega (arith, l, long) in
          let gives : pick (length ks) (given_by (length (map (option_move i u b there) ks)) n) ≡ (n, []) = ap (λ m. pick (length ks) (given_by m n)) long ∙ pick_given (length ks) n few in
          ap (λ (m : Move). option_made p (picked c []) u b there m.event) r.2
          ∙ option_so u b there r.0 (choice-of c.rule (initial c) c.log u.thread there (wanted b) r.0 n r.1) (kind_of b there r.0) refl
          ∙ sym (ap (λ (x : ℕ × List ℕ). on (slice_get ks x.0) (takes_option p (picked c x.1) u b there)) gives ∙ ap (λ o. on o (takes_option p (picked c []) u b there)) r.1)

      does : (o : Option Act) → At a n (doing_moves c i u o) → doing_made p (picked c []) u a.event o ≡ on o (performed p (picked c (given_by (length (doing_moves c i u o)) n)) u)
      does None h = refl
      does (Some (acts.Accesses b place)) h = cell b (option_map or_case (cell_in c.objects place)) h
      does (Some (acts.Fences o)) h = refl
      does (Some _) h = refl

  pub move_turn : (a : Move) (n : ℕ) → At a n (thread_moves p c i) → move_made p c a ≡ turns p (picked c (given_by (length (thread_moves p c i)) n)) i
  move_turn a n h =
      ap (λ j. turn_made p (picked c []) a.event (find (is_of j) c.waiters) (turn_of p c j)) (move_thread a n h) ∙ made_so (find (is_of i) c.waiters) (turn_of p c i) a n h

  -- ---- moves with an event

  -- the thread, which does not wait, makes an access by an option, or a fence
  pub record Offers (a : Move) (e : Event) : Type 0 where
    pub u : Turn
    pub turn : turn_of p c i ≡ Some u
    pub awake : find (is_of i) c.waiters ≡ None
    pub number : u.thread ≡ i
    pub frames : Option (List Activation)
    pub doing : Doing p c i u frames e
    pub is : a ≡ record { thread = i; event = Some e }

  module _ (own : (u : Turn) → turn_of p c i ≡ Some u → u.thread ≡ i) where
    pub offers : (a : Move) (n : ℕ) (e : Event) → At a n (thread_moves p c i) → a.event ≡ Some e → Offers a e
    offers a n e h ev = by (find (is_of i) c.waiters) refl (turn_of p c i) refl n h
      where
        is_move : (t : ℕ) (x : Event) → t ≡ i → a ≡ record { thread = t; event = Some x } → (x ≡ e) × (a ≡ record { thread = i; event = Some e })
        is_move t x s m =
            let both : Some x ≡ Some e = sym (ap (λ (m : Move). m.event) m) ∙ ev in
            let same : x ≡ e = cc in
            (same, m ∙ ap (λ t. record { thread = t; event = Some x }) s ∙ ap (λ x. record { thread = i; event = Some x }) same)

        plain : (n : ℕ) → At a n (plain_move i ∷ []) → Offers a e
        plain zero h = let no : None ≡ Some e = sym (ap (λ (m : Move). m.event) h) ∙ ev in absurd (cc)
        plain (suc n) h = absurd h

        by : (w : Option Waiter) → find (is_of i) c.waiters ≡ w → (o : Option Turn) → turn_of p c i ≡ o → (n : ℕ) → At a n (turn_moves c i w o) → Offers a e
        by w x None y n h = plain n h
        by (Some w) x (Some u) y n h = plain n h
        by None x (Some u) y n h = does u.doing.act refl n h
          where
            t : u.thread ≡ i
            t = own u y

            option : (b : acts.Access) (place there : CellId) (k : Chosen) → u.doing.act ≡ Some (acts.Accesses b place) → option_map or_case (cell_in c.objects place) ≡ Some (Ok there) → IsChoice c.rule (initial c) c.log u.thread there (wanted b) k
                → (o : Option Kind) → kind_of b there k ≡ o → a ≡ record { thread = i; event = option_map (event u.thread) o } → Offers a e
            option b place there k q r s None z m = let no : None ≡ Some e = sym (ap (λ (m : Move). m.event) m) ∙ ev in absurd (cc)
            option b place there k q r s (Some kind) z m =
                let d = is_move i (event u.thread kind) refl m in
                record {
                  u = u;
                  turn = y;
                  awake = x;
                  number = t;
                  frames = with_some (passed p u.top (access_results b k)) (onto u);
                  doing = access b place there k kind q r (subst (λ t. IsChoice c.rule (initial c) c.log t there (wanted b) k) t s) z refl (sym d.0 ∙ ap (λ t. event t kind) t);
                  is = d.1;
                }

            cell : (b : acts.Access) (place : CellId) → u.doing.act ≡ Some (acts.Accesses b place) → (o : Option (Result CellId Case)) → option_map or_case (cell_in c.objects place) ≡ o → (n : ℕ) → At a n (cell_moves c i u b o) → Offers a e
            cell b place q None r n h = plain n h
            cell b place q (Some (Err k)) r n h = plain n h
            cell b place q (Some (Ok there)) r n h =
                let s = of_map (option_move i u b there) a n (choices c.rule (initial c) c.log u.thread there (wanted b)) h in
                option b place there s.0 q r (choice-of c.rule (initial c) c.log u.thread there (wanted b) s.0 n s.1) (kind_of b there s.0) refl s.2

            fenced : (o : Order) → u.doing.act ≡ Some (acts.Fences o) → (n : ℕ) → At a n (record { thread = i; event = Some (event u.thread (kinds.Fence o)) } ∷ []) → Offers a e
            fenced o q zero h =
                let d = is_move i (event u.thread (kinds.Fence o)) refl h in
                record { u = u; turn = y; awake = x; number = t; frames = with_some (passed p u.top []) (onto u); doing = fence o q refl (sym d.0 ∙ ap (λ t. event t (kinds.Fence o)) t); is = d.1 }
            fenced o q (suc n) h = absurd h

            does : (o : Option Act) → u.doing.act ≡ o → (n : ℕ) → At a n (doing_moves c i u o) → Offers a e
            does None q n h = plain n h
            does (Some (acts.Accesses b place)) q n h = cell b place q (option_map or_case (cell_in c.objects place)) refl n h
            does (Some (acts.Fences o)) q n h = fenced o q n h
            does (Some _) q n h = plain n h

  module _ (u : Turn) (turn : turn_of p c i ≡ Some u) (awake : find (is_of i) c.waiters ≡ None) (number : u.thread ≡ i) (e : Event) where
    moves_are : thread_moves p c i ≡ doing_moves c i u u.doing.act
    moves_are = ap (λ w. turn_moves c i w (turn_of p c i)) awake ∙ ap (turn_moves c i None) turn

    -- what is offered is a move
    pub offered_moves : (fr : Option (List Activation)) → Doing p c i u fr e → Member (record { thread = i; event = Some e }) (thread_moves p c i)
    offered_moves fr (access b place there k kind q r s z x y) =
        let ks : List Chosen = choices c.rule (initial c) c.log u.thread there (wanted b) in
        let at = choice-in c.rule (initial c) c.log u.thread there (wanted b) k (subst (λ t. IsChoice c.rule (initial c) c.log t there (wanted b) k) (sym number) s) in
        let list : thread_moves p c i ≡ map (option_move i u b there) ks = moves_are ∙ ap (doing_moves c i u) q ∙ ap (cell_moves c i u b) r in
        let same : option_move i u b there k ≡ record { thread = i; event = Some e } =
        ap (λ o. record { thread = i; event = option_map (event u.thread) o }) z ∙ ap (λ x. record { thread = i; event = Some x }) (ap (λ t. event t kind) number ∙ sym y) in
        subst (Member (record { thread = i; event = Some e })) (sym list) (at.0, subst (λ m. At m at.0 (map (option_move i u b there) ks)) same (in_map (option_move i u b there) k at.0 ks at.1))
    offered_moves fr (fence o q x y) =
        let list : thread_moves p c i ≡ record { thread = i; event = Some (event u.thread (kinds.Fence o)) } ∷ [] = moves_are ∙ ap (doing_moves c i u) q in
        subst (Member (record { thread = i; event = Some e })) (sym list) (0, ap (λ x. record { thread = i; event = Some x }) (y ∙ ap (λ t. event t (kinds.Fence o)) (sym number)))

    no_race : (fr : Option (List Activation)) → on fr (λ fs. Next (record (picked c []) {
      stacks = Rattle.std.specs.Prelude.slice_set c.stacks u.stack (Rattle.mu_model.specs.Configuration.Active u.thread fs);
      log = e ∷ c.log;
      lines = Rattle.mu_model.specs.declared.lines.Line.TheVariants.Event (length c.log) e ∷ [];
    })) ≡ on fr (λ fs. raced (picked c []) u e fs None)
    unfolding on
    no_race None = refl
    no_race (Some fs) = refl

    -- and what comes of it
    pub offered_made : (fr : Option (List Activation)) → Doing p c i u fr e → move_made p c (record { thread = i; event = Some e }) ≡ on fr (λ fs. raced (picked c []) u e fs (race c.rule c.log e))
    unfolding on
    offered_made fr (access b place there k kind q r s z x y) =
        let here : event u.thread kind ≡ e = ap (λ t. event t kind) number ∙ sym y in
        let way : option_of c there e.kind ≡ k = ap (λ (x : Event). option_of c there x.kind) y ∙ option_is c i there k b kind s z in
        ap (λ w. turn_made p (picked c []) (Some e) w (turn_of p c i)) awake
        ∙ ap (turn_made p (picked c []) (Some e) None) turn
        ∙ ap (doing_made p (picked c []) u (Some e)) q
        ∙ ap (cell_made p (picked c []) u b (Some e)) r
        ∙ ap (takes_option p (picked c []) u b there) way
        ∙ ap (λ o. on o (λ kind. on (with_some (passed p u.top (access_results b k)) (onto u)) (λ fs. raced (picked c []) u (event u.thread kind) fs (race c.rule c.log (event u.thread kind))))) z
        ∙ ap (λ fr. on fr (λ fs. raced (picked c []) u (event u.thread kind) fs (race c.rule c.log (event u.thread kind)))) x
        ∙ ap (λ x. on fr (λ fs. raced (picked c []) u x fs (race c.rule c.log x))) here
    offered_made fr (fence o q x y) =
        let here : event u.thread (kinds.Fence o) ≡ e = ap (λ t. event t (kinds.Fence o)) number ∙ sym y in
        let quiet : race c.rule c.log e ≡ None = ap (race c.rule c.log) y ∙ others-race c.rule c.log (event i (kinds.Fence o)) refl in
        ap (λ w. turn_made p (picked c []) (Some e) w (turn_of p c i)) awake
        ∙ ap (turn_made p (picked c []) (Some e) None) turn
        ∙ ap (doing_made p (picked c []) u (Some e)) q
        ∙ ap (next (logged_event (event u.thread (kinds.Fence o)) (picked c [])) u) x
        ∙ ap (λ x. next (logged_event x (picked c [])) u fr) here
        ∙ no_race fr
        ∙ ap (λ r. on fr (λ fs. raced (picked c []) u e fs r)) (sym quiet)
