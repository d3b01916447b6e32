-- A stack that was shown.
use Rattle.std.specs.Prelude.{◌≡◌, ℕ, ◌<◌, List, Option, Some, None, IfSome, length, slice_get, refl}
use Rattle.std.proofs.Common.{sym, ◌∙◌, ap, subst, set}
use Rattle.std.proofs.lemmas.List.{length-set}
use Rattle.std.proofs.lemmas.Option.{slice_get_within}
use Rattle.mu_values.specs.declared.scalars.Scalar.{Scalar}
use Rattle.frames.specs.Activations.{Activation}
use Rattle.frames.specs.Chains.{frames_in}
use Rattle.stacks.specs.Stacks.{Bound}
use Rattle.stacks.specs.Directories.{Entry}
use Rattle.stacks.specs.Lemmas.Writes.{get_written}
use Rattle.mu_threads.specs.Threads.{Threads, there, stack_of, with_stack}
use Rattle.futex.specs.declared.waiters.Waiter.{Waiter}
use Rattle.mu_model.specs.Configuration.{Active}
use Rattle.mu_model.specs.Step.{is_blocked}
use Rattle.seats.specs.Seats.{Seats}
use Rattle.seats.specs.Kept.{threads_seen, stacks_seen, seats_seen, IsShown, IsSound}
use Rattle.seats.proofs.Lists.{set_twice}
use Rattle.seats.proofs.Threads.{bound_again, states_bound}
use Rattle.seats.proofs.Moving.{entered_by, agree_fresh, seen_fresh, own_stack}
use Rattle.seats.proofs.Seen.{IsSeated}

frames_same : (i : ℕ) (fs gs : List Activation) → Some (Active i fs) ≡ Some (Active i gs) → fs ≡ gs
frames_same i fs gs e = cc

-- what is true of the frames that are seen is true of those that are held
pub takes_here : (t : Threads) (es : List Entry) (owns : List Scalar) (room : ℕ) (ws : List Waiter) (s : Seats) (i k : ℕ) (Q : List Activation → Type 0) → IsSound t.states t.stacks es owns room ws → (h : IsSeated t.stacks owns s i) → seats_seen t.stacks owns es ws ≡ s → h.stack.number ≡ k
    → ((fs : List Activation) → slice_get s.stacks k ≡ Some (Active i fs) → Q fs) → IfSome (stack_of t i) (λ b. Q (frames_in b.frames))
takes_here t es owns room ws s i k Q sound h v number takes =
    let there_now = ap (λ (w : Seats). slice_get w.stacks k) (sym v) ∙ ap (slice_get (stacks_seen t.stacks es)) (sym number) ∙ own_stack t.stacks es i h.stack sound.agree h.listed in
    subst (λ o. IfSome (there o) (λ b. Q (frames_in b.frames))) (sym h.listed) (takes (frames_in h.stack.frames) there_now)

-- by which number and frames a stack was shown, and which frames it has then
abbrev pub Shown : Threads → Threads → ℕ → (ℕ → List Activation → List Activation → Type 0) → Type 0
Shown t u i P = IfSome (stack_of t i) (λ b. IsShown t u i b.number (P b.number (frames_in b.frames)))

module _ (t u : Threads) (es : List Entry) (owns : List Scalar) (room : ℕ) (ws : List Waiter) (s : Seats) (i : ℕ) (P : ℕ → List Activation → List Activation → Type 0) (sound : IsSound t.states t.stacks es owns room ws) (h : IsSeated t.stacks owns s i) (shown : Shown t u i P) where
  here : IsShown t u i h.stack.number (P h.stack.number (frames_in h.stack.frames))
  here = subst (λ o. IfSome (there o) (λ b. IsShown t u i b.number (P b.number (frames_in b.frames)))) h.listed shown

  abbrev anew : Bound
  anew = entered_by h.stack.number i here.frames

  shown_now : u ≡ record { states = t.states; stacks = set t.stacks i (Some anew) }
  shown_now = here.threads ∙ ap (λ bs. record { states = t.states; stacks = bs }) (set_twice t.stacks i None (Some anew))

  pub shown_sound : IsSound u.states u.stacks es owns room ws
  shown_sound =
      rw shown_now
      (record {
        states_fit = sound.states_fit ∙ sym (states_bound (is_blocked ws) 0 t.stacks i h.stack anew h.listed);
        agree = agree_fresh t.stacks es i h.stack here.frames sound.agree h.listed;
        even = sound.even ∙ sym (length-set t.stacks i (Some anew));
        few = rw (length-set t.stacks i (Some anew)) sound.few;
        room_fits = sound.room_fits;
        below = rw (length-set t.stacks i (Some anew)) sound.below;
      })

  shown_changes : seats_seen t.stacks owns es ws ≡ s → seats_seen u.stacks owns es ws ≡ record s { stacks = set s.stacks h.stack.number (Active i (frames_in here.frames)) }
  shown_changes v =
      ap (λ (w : Threads). seats_seen w.stacks owns es ws) shown_now
      ∙ ap (λ ts. record { threads = ts; stacks = stacks_seen (set t.stacks i (Some anew)) es; waiters = ws }) (bound_again t.stacks owns i h.stack anew h.listed refl)
      ∙ ap (λ ks. record { threads = threads_seen t.stacks owns; stacks = ks; waiters = ws }) (seen_fresh t.stacks es i h.stack here.frames sound.agree h.listed)
      ∙ ap (λ (w : Seats). record w { stacks = set w.stacks h.stack.number (Active i (frames_in here.frames)) }) v

  pub shown_asked : (k : ℕ) → seats_seen t.stacks owns es ws ≡ s → h.stack.number ≡ k → (fs : List Activation) → slice_get s.stacks k ≡ Some (Active i fs)
      → (after : List Activation) × (seats_seen u.stacks owns es ws ≡ record s { stacks = set s.stacks k (Active i after) }) × P k fs after
  shown_asked k v number fs at =
      let after = frames_in here.frames in
      let there_now = ap (λ (w : Seats). slice_get w.stacks k) (sym v) ∙ ap (slice_get (stacks_seen t.stacks es)) (sym number) ∙ own_stack t.stacks es i h.stack sound.agree h.listed in
      let same : frames_in h.stack.frames ≡ fs = frames_same i (frames_in h.stack.frames) fs (sym there_now ∙ at) in (
        after,
        shown_changes v ∙ ap (λ n. record s { stacks = set s.stacks n (Active i after) }) number,
        subst (λ gs. P k gs after) same (subst (λ n. P n (frames_in h.stack.frames) after) number here.told),
      )

listed_if : (bs : List (Option Bound)) (i : ℕ) (o : Option (Option Bound)) (b : Bound) → slice_get bs i ≡ o → there o ≡ Some b → i < length bs
listed_if bs i None b e h = cc
listed_if bs i (Some x) b e h = slice_get_within bs i x e

pub none_taken : (t u : Threads) (i : ℕ) (b : Bound) → stack_of t i ≡ Some b → u ≡ with_stack t i None → slice_get u.stacks i ≡ Some None
none_taken t u i b h e = ap (λ (w : Threads). slice_get w.stacks i) e ∙ get_written t.stacks i None (listed_if t.stacks i (slice_get t.stacks i) b refl h)
