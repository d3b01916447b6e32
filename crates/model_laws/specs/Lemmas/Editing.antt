-- Frames that a client pops and pushes stay well typed.
use Rattle.std.specs.Prelude.{◌≡◌, ◌≢◌, ◌⊎◌, ◌≤◌, ◌<◌, ℕ, zero, suc, Bool, true, false, slice_get, List, [], ◌∷◌, Option, Some, None, IsSome, IsSomeAnd, Result, Ok, Err, IfOk, length, take, drop, bytes_eq, option_map, if◌then◌else◌, refl}
use Rattle.std.proofs.Common.{sym, ◌∙◌, ap, subst, inl, inr, arith}
use Rattle.std.proofs.lemmas.Option.{slice_get_within}
use Rattle.std.proofs.lemmas.Slice.Eq.{bytes_eq-Decides}
use Rattle.frames.specs.Activations.{Activation}
use Rattle.typed_heap.specs.Fits.{World}
use Rattle.mu_model.specs.Acts.{Program}
use Rattle.mu_model.specs.Types.{classes_given}
use Rattle.mu_model.specs.Clients.{Edit}
use Rattle.mu_model.specs.Edits.{popped, pushed, pushed_on, with_frames, push_by, edited, edited_by}
use Rattle.mu_model.specs.Exceptions.{EnteredFrames, body_or_case}
use Rattle.mu_model.specs.Frames.{fresh_frame}
use Rattle.mu_model.specs.declared.endings.Case.{Case}
use Rattle.mu_model.specs.declared.endings.Case.TheVariants.{ClientMisuse, StackTypes}
use Rattle.model_laws.specs.ActsFit.{IsFunction}
use Rattle.model_laws.specs.ClientsFit.{PushFits}
use Rattle.model_laws.specs.FramesFit.{BelowWait, ReadyFit}
use Rattle.model_laws.specs.Places.{Places}
use Rattle.model_laws.specs.Programs.{IsTyped}
use Rattle.model_laws.specs.Lemmas.Turning.{body_fits}

module _ (p : Program) (t : Places) (w : World) where
  below_drops : (n : ℕ) (rs : List ℕ) (fs : List Activation) → BelowWait p t w rs fs → n < length fs → ReadyFit p t w (drop n fs)
  below_drops n rs [] h l = absurd (omega (arith, l))
  below_drops zero rs (f ∷ fs) h l = (h.0, h.2)
  below_drops (suc n) rs (f ∷ fs) h l = below_drops n (t.results f.block) fs h.2 (omega (arith, l))

  -- the frames that are left are those of a stack that is ready
  pub ready_drops : (n : ℕ) (fs : List Activation) → ReadyFit p t w fs → n < length fs → ReadyFit p t w (drop n fs)
  ready_drops n [] h l = absurd h
  ready_drops zero (f ∷ fs) h l = h
  ready_drops (suc n) (f ∷ fs) h l = below_drops n (t.results f.block) fs h.1 (omega (arith, l))

  abbrev pub LeftFit : EnteredFrames → Type 0
  LeftFit r = ReadyFit p t w r.frames

module _ (p : Program) (t : Places) (typed : IsTyped p t) (w : World) where
  -- a frame before its parameters
  on_top_fits : (f b : ℕ) (x : Activation) (fs : List Activation) → p.body f ≡ Some (Some b) → ReadyFit p t w (x ∷ fs) → IfOk (pushed_on p f x fs (Ok b)) (ReadyFit p t w)
  on_top_fits f b x fs e h = by (bytes_eq (classes_given p.tables f) x.waits) refl
    where
      by : (q : Bool) → bytes_eq (classes_given p.tables f) x.waits ≡ q → IfOk (if q then Ok (fresh_frame p f b ∷ x ∷ fs) else Err StackTypes) (ReadyFit p t w)
      by false same = tt
      by true same =
          let gives : classes_given p.tables f ≡ x.waits = (bytes_eq-Decides (classes_given p.tables f) x.waits).0 same in
          (record { function = f; entry = e; first = refl; values = refl; waits = refl; handler = refl; kept = refl }, (h.0, sym gives ∙ sym (typed.body f b e).1, h.1))

  pub pushed_fits : (f : ℕ) (fs : List Activation) → IsFunction p f → ReadyFit p t w fs → IsSomeAnd (pushed p f fs) (λ r. IfOk r (ReadyFit p t w))
  pushed_fits f [] is h = absurd h
  pushed_fits f (x ∷ fs) is h = by (body_or_case (p.body f)) (body_fits p t typed f is)
    where
      by : (o : Option (Result ℕ Case)) → IsSomeAnd o (λ r. IfOk r (λ b. p.body f ≡ Some (Some b))) → IsSomeAnd (option_map (pushed_on p f x fs) o) (λ r. IfOk r (ReadyFit p t w))
      by None k = absurd k
      by (Some (Err k)) e = tt
      by (Some (Ok b)) e = on_top_fits f b x fs e h

  push_by_fits : (push : Option ℕ) (r : EnteredFrames) → PushFits p.tables push → ReadyFit p t w r.frames → IsSomeAnd (push_by p push r) (λ x. IfOk x (LeftFit p t w))
  push_by_fits None r is h = h
  push_by_fits (Some f) r is h = by (pushed p f r.frames) (pushed_fits f r.frames (typed.functions f is) h)
    where
      by : (o : Option (Result (List Activation) Case)) → IsSomeAnd o (λ x. IfOk x (ReadyFit p t w)) → IsSomeAnd (option_map (with_frames r) o) (λ x. IfOk x (LeftFit p t w))
      by None k = absurd k
      by (Some (Err k)) e = tt
      by (Some (Ok fs)) e = e

  -- an edit has a rule, and the frames of a stack that is ready stay so
  pub edited_fits : (e : Edit) (fs : List Activation) → PushFits p.tables e.push → ReadyFit p t w fs → IsSomeAnd (edited p e fs) (λ x. IfOk x (LeftFit p t w))
  edited_fits e fs is h = by (slice_get fs e.pop) refl
    where
      left : EnteredFrames
      left = record { frames = drop e.pop fs; ended = take e.pop fs }

      by : (o : Option Activation) → slice_get fs e.pop ≡ o → IsSomeAnd (edited_by p e.push (option_map (λ (f : Activation). left) o)) (λ x. IfOk x (LeftFit p t w))
      by None q = tt
      by (Some f) q = push_by_fits e.push left is (ready_drops p t w e.pop fs h (slice_get_within fs e.pop f q))

-- ---- the frames of an edit are at most one more than those that were there

pushed_depth : (p : Program) (f : ℕ) (fs gs : List Activation) → pushed p f fs ≡ Some (Ok gs) → length gs ≤ suc (length fs)
pushed_depth p f [] gs e = cc
pushed_depth p f (x ∷ fs) gs e = by (body_or_case (p.body f)) e
  where
    on_top : (b : ℕ) (q : Bool) → (if q then Ok (fresh_frame p f b ∷ x ∷ fs) else Err StackTypes) ≡ Ok gs → length gs ≤ suc (suc (length fs))
    on_top b true e = let same : fresh_frame p f b ∷ x ∷ fs ≡ gs = cc in omega (arith, ap length same)
    on_top b false e = cc

    by : (o : Option (Result ℕ Case)) → option_map (pushed_on p f x fs) o ≡ Some (Ok gs) → length gs ≤ suc (suc (length fs))
    by None e = cc
    by (Some (Err k)) e = cc
    by (Some (Ok b)) e = let here : pushed_on p f x fs (Ok b) ≡ Ok gs = cc in on_top b (bytes_eq (classes_given p.tables f) x.waits) here

drop_length : {A : Type 0} (n : ℕ) (xs : List A) → length (drop n xs) ≤ length xs
drop_length zero xs = omega arith
drop_length (suc n) [] = omega arith
drop_length (suc n) (x ∷ xs) = let less = drop_length n xs in omega (arith, less)

pub edited_depth : (p : Program) (e : Edit) (fs : List Activation) (r : EnteredFrames) → edited p e fs ≡ Some (Ok r) → length r.frames ≤ suc (length fs)
edited_depth p e fs r is = by (slice_get fs e.pop) is
  where
    left : EnteredFrames
    left = record { frames = drop e.pop fs; ended = take e.pop fs }

    on_top : (o : Option (Result (List Activation) Case)) → ((gs : List Activation) → o ≡ Some (Ok gs) → length gs ≤ suc (length left.frames)) → option_map (with_frames left) o ≡ Some (Ok r) → length r.frames ≤ suc (length fs)
    on_top None h e = cc
    on_top (Some (Err k)) h e = cc
    on_top (Some (Ok gs)) h q = let same : gs ≡ r.frames = cc in omega (arith, ap length same, h gs refl, drop_length e.pop fs)

    further : (push : Option ℕ) → push_by p push left ≡ Some (Ok r) → length r.frames ≤ suc (length fs)
    further None q = let same : left.frames ≡ r.frames = cc in omega (arith, ap length same, drop_length e.pop fs)
    further (Some f) q = on_top (pushed p f left.frames) (pushed_depth p f left.frames) q

    by : (o : Option Activation) → edited_by p e.push (option_map (λ (f : Activation). left) o) ≡ Some (Ok r) → length r.frames ≤ suc (length fs)
    by None q = cc
    by (Some f) q = further e.push q
