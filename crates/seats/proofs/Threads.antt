-- Threads as they are seen, after one of them has changed.
use Rattle.std.specs.Prelude.{◌≡◌, ℕ, zero, suc, ◌+◌, Bool, true, false, not, List, [], ◌∷◌, ◌++◌, Option, Some, None, filter, length, slice_get, option_map, refl}
use Rattle.std.proofs.Common.{sym, ◌∙◌, ap, arith, set, add-one}
use Rattle.std.proofs.lemmas.Option.{same_Some}
use Rattle.mu_values.specs.declared.scalars.Scalar.{Scalar}
use Rattle.typed_heap.specs.Places.{with_some}
use Rattle.stacks.specs.Stacks.{Bound}
use Rattle.mu_threads.specs.Threads.{there, runnable_from, IsLeft}
use Rattle.mu_threads.specs.declared.state.ThreadState.{ThreadState}
use Rattle.mu_threads.specs.declared.state.ThreadState.TheVariants.{Runs, Ended}
use Rattle.mu_model.specs.Configuration.{Thread}
use Rattle.mu_model.specs.Changes.{changed}
use Rattle.mu_model.specs.EnteringStacks.{on_stack}
use Rattle.mu_model.specs.Step.{threads_from}
use Rattle.seats.specs.Kept.{thread_seen, threads_seen, state_seen, states_seen}

-- a thread that is left
abbrev pub seat : List (Option Thread) → ℕ → Option Thread
seat ts i = with_some (slice_get ts i) (λ t. t)

-- what is behind a thread that is left
pub record IsHeld (bs : List (Option Bound)) (owns : List Scalar) (i : ℕ) (t : Thread) : Type 0 where
  pub stack : Bound
  pub held : there (slice_get bs i) ≡ Some stack
  pub listed : slice_get bs i ≡ Some (Some stack)
  pub number : t.stack ≡ stack.number
  pub own : slice_get owns i ≡ Some t.own

pub held : (bs : List (Option Bound)) (owns : List Scalar) (i : ℕ) (t : Thread) → seat (threads_seen bs owns) i ≡ Some t → IsHeld bs owns i t
held [] owns i t e = cc
held (b ∷ bs) [] i t e = cc
held (None ∷ bs) (own ∷ owns) zero t e = cc
held (Some b ∷ bs) (own ∷ owns) zero t e =
    let same : record { stack = b.number; own = own } ≡ t = same_Some (record { stack = b.number; own = own }) t e in
    record {
      stack = b;
      held = refl;
      listed = refl;
      number = sym (ap (λ (u : Thread). u.stack) same);
      own = ap (λ (u : Thread). Some u.own) same;
    }
held (b ∷ bs) (own ∷ owns) (suc i) t e =
    let h = held bs owns i t e in
    record { stack = h.stack; held = h.held; listed = h.listed; number = h.number; own = h.own }

pub seat_seen : (bs : List (Option Bound)) (owns : List Scalar) (i : ℕ) (b : Bound) (own : Scalar) → slice_get bs i ≡ Some (Some b) → slice_get owns i ≡ Some own → seat (threads_seen bs owns) i ≡ Some (record { stack = b.number; own = own })
seat_seen [] owns i b own at o = cc
seat_seen (c ∷ bs) [] i b own at o = cc
seat_seen (None ∷ bs) (x ∷ owns) zero b own at o = cc
seat_seen (Some c ∷ bs) (x ∷ owns) zero b own at o =
    let same : c ≡ b = cc in
    let own_same : x ≡ own = cc in
    rw (same, own_same) refl
seat_seen (c ∷ bs) (x ∷ owns) (suc i) b own at o = seat_seen bs owns i b own at o

-- ---- changes

pub bound_elsewhere : (bs : List (Option Bound)) (owns : List Scalar) (i : ℕ) (b c : Bound) → slice_get bs i ≡ Some (Some b) → threads_seen (set bs i (Some c)) owns ≡ changed (option_map (on_stack c.number)) i (threads_seen bs owns)
bound_elsewhere [] owns i b c at = refl
bound_elsewhere (x ∷ bs) [] zero b c at = refl
bound_elsewhere (x ∷ bs) [] (suc i) b c at = refl
bound_elsewhere (None ∷ bs) (own ∷ owns) zero b c at = cc
bound_elsewhere (Some x ∷ bs) (own ∷ owns) zero b c at = refl
bound_elsewhere (x ∷ bs) (own ∷ owns) (suc i) b c at = ap (λ ts. thread_seen x own ∷ ts) (bound_elsewhere bs owns i b c at)

pub unbound : (bs : List (Option Bound)) (owns : List Scalar) (i : ℕ) → threads_seen (set bs i None) owns ≡ set (threads_seen bs owns) i None
unbound [] owns i = refl
unbound (x ∷ bs) [] zero = refl
unbound (x ∷ bs) [] (suc i) = refl
unbound (x ∷ bs) (own ∷ owns) zero = refl
unbound (x ∷ bs) (own ∷ owns) (suc i) = ap (λ ts. thread_seen x own ∷ ts) (unbound bs owns i)

-- the number of its stack alone is seen
pub bound_again : (bs : List (Option Bound)) (owns : List Scalar) (i : ℕ) (b c : Bound) → slice_get bs i ≡ Some (Some b) → c.number ≡ b.number → threads_seen (set bs i (Some c)) owns ≡ threads_seen bs owns
bound_again [] owns i b c at e = refl
bound_again (x ∷ bs) [] zero b c at e = refl
bound_again (x ∷ bs) [] (suc i) b c at e = refl
bound_again (None ∷ bs) (own ∷ owns) zero b c at e = cc
bound_again (Some x ∷ bs) (own ∷ owns) zero b c at e =
    let same : x ≡ b = cc in
    let number : c.number ≡ x.number = e ∙ ap (λ (y : Bound). y.number) (sym same) in
    ap (λ n. Some (record { stack = n; own = own }) ∷ threads_seen bs owns) number
bound_again (x ∷ bs) (own ∷ owns) (suc i) b c at e = ap (λ ts. thread_seen x own ∷ ts) (bound_again bs owns i b c at e)

pub owned : (bs : List (Option Bound)) (owns : List Scalar) (i : ℕ) (own : Scalar) → threads_seen bs (set owns i own) ≡ changed (option_map (λ (t : Thread). record t { own = own })) i (threads_seen bs owns)
owned [] owns i own = refl
owned (x ∷ bs) [] zero own = refl
owned (x ∷ bs) [] (suc i) own = refl
owned (None ∷ bs) (o ∷ owns) zero own = refl
owned (Some x ∷ bs) (o ∷ owns) zero own = refl
owned (x ∷ bs) (o ∷ owns) (suc i) own = ap (λ ts. thread_seen x o ∷ ts) (owned bs owns i own)

pub one_more : (bs : List (Option Bound)) (owns : List Scalar) (b : Bound) (own : Scalar) → length owns ≡ length bs → threads_seen (bs ++ Some b ∷ []) (owns ++ own ∷ []) ≡ threads_seen bs owns ++ Some (record { stack = b.number; own = own }) ∷ []
one_more [] [] b own e = refl
one_more [] (o ∷ owns) b own e = absurd (omega (arith, e))
one_more (x ∷ bs) [] b own e = absurd (omega (arith, e))
one_more (x ∷ bs) (o ∷ owns) b own e = ap (λ ts. thread_seen x o ∷ ts) (one_more bs owns b own (omega (arith, e)))

pub many_seen : (bs : List (Option Bound)) (owns : List Scalar) → length owns ≡ length bs → length (threads_seen bs owns) ≡ length bs
many_seen [] owns e = refl
many_seen (x ∷ bs) [] e = absurd (omega (arith, e))
many_seen (x ∷ bs) (o ∷ owns) e = ap suc (many_seen bs owns (omega (arith, e)))

-- ---- states

pub many_states : (blocked : ℕ → Bool) (n : ℕ) (bs : List (Option Bound)) → length (states_seen blocked n bs) ≡ length bs
many_states blocked n [] = refl
many_states blocked n (b ∷ bs) = ap suc (many_states blocked (suc n) bs)

listed_next : (blocked : Bool) (n : ℕ) (b : Option Bound) (own : Scalar) (states : List ThreadState) (ts : List (Option Thread)) (p : ℕ → Bool) → p n ≡ not blocked → runnable_from (suc n) states ≡ filter p (threads_from (suc n) ts) → runnable_from n (state_seen blocked b ∷ states) ≡ filter p (threads_from n (thread_seen b own ∷ ts))
listed_next blocked n None own states ts p e rest = rw (add-one n) rest
listed_next true n (Some b) own states ts p e rest = rw (e, add-one n) rest
listed_next false n (Some b) own states ts p e rest = rw (e, add-one n) (ap (λ is. n ∷ is) rest)

pub listed : (blocked : ℕ → Bool) (n : ℕ) (bs : List (Option Bound)) (owns : List Scalar) → length owns ≡ length bs → runnable_from n (states_seen blocked n bs) ≡ filter (λ i. not (blocked i)) (threads_from n (threads_seen bs owns))
listed blocked n [] owns e = refl
listed blocked n (b ∷ bs) [] e = absurd (omega (arith, e))
listed blocked n (b ∷ bs) (own ∷ owns) e =
    listed_next (blocked n) n b own (states_seen blocked (suc n) bs) (threads_seen bs owns) (λ i. not (blocked i)) refl (listed blocked (suc n) bs owns (omega (arith, e)))

left_seen : (blocked : Bool) (b : Bound) → IsLeft (Some (state_seen blocked (Some b)))
left_seen true b = tt
left_seen false b = tt

pub is_left : (blocked : ℕ → Bool) (n : ℕ) (bs : List (Option Bound)) (i : ℕ) (b : Bound) → slice_get bs i ≡ Some (Some b) → IsLeft (slice_get (states_seen blocked n bs) i)
is_left blocked n [] i b at = cc
is_left blocked n (None ∷ bs) zero b at = cc
is_left blocked n (Some c ∷ bs) zero b at = left_seen (blocked n) c
is_left blocked n (x ∷ bs) (suc i) b at = is_left blocked (suc n) bs i b at

-- another stack does not change a state
pub states_bound : (blocked : ℕ → Bool) (n : ℕ) (bs : List (Option Bound)) (i : ℕ) (b c : Bound) → slice_get bs i ≡ Some (Some b) → states_seen blocked n (set bs i (Some c)) ≡ states_seen blocked n bs
states_bound blocked n [] i b c at = refl
states_bound blocked n (None ∷ bs) zero b c at = cc
states_bound blocked n (Some x ∷ bs) zero b c at = refl
states_bound blocked n (x ∷ bs) (suc i) b c at = ap (λ ss. state_seen (blocked n) x ∷ ss) (states_bound blocked (suc n) bs i b c at)

pub states_unbound : (blocked : ℕ → Bool) (n : ℕ) (bs : List (Option Bound)) (i : ℕ) → states_seen blocked n (set bs i None) ≡ set (states_seen blocked n bs) i Ended
states_unbound blocked n [] i = refl
states_unbound blocked n (x ∷ bs) zero = refl
states_unbound blocked n (x ∷ bs) (suc i) = ap (λ ss. state_seen (blocked n) x ∷ ss) (states_unbound blocked (suc n) bs i)

pub states_more : (blocked : ℕ → Bool) (n : ℕ) (bs : List (Option Bound)) (b : Bound) → blocked (n + length bs) ≡ false → states_seen blocked n (bs ++ Some b ∷ []) ≡ states_seen blocked n bs ++ Runs ∷ []
states_more blocked n [] b free =
    let at : n + 0 ≡ n = omega arith in
    let here : blocked n ≡ false = sym (ap blocked at) ∙ free in
    rw here refl
states_more blocked n (x ∷ bs) b free =
    let at : suc n + length bs ≡ n + length (x ∷ bs) = omega arith in
    ap (λ ss. state_seen (blocked n) x ∷ ss) (states_more blocked (suc n) bs b (ap blocked at ∙ free))

pub states_same : (p q : ℕ → Bool) (n : ℕ) (bs : List (Option Bound)) → ((i : ℕ) → p i ≡ q i) → states_seen p n bs ≡ states_seen q n bs
states_same p q n [] e = refl
states_same p q n (x ∷ bs) e = rw (e n, states_same p q (suc n) bs e) refl
