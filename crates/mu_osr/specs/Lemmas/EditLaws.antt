-- Frames that are popped and pushed stay well typed, and are those of the abstract machine.
use Rattle.std.specs.Prelude.{◌≡◌, ◌≢◌, ℕ, zero, suc, ◌<◌, ◌≤◌, Bool, true, false, List, [], ◌∷◌, Option, Some, None, IsSome, IsSomeAnd, Result, Ok, Err, IfOk, length, take, drop, slice_get, bytes_eq, option_map, if◌then◌else◌, refl}
use Rattle.std.proofs.Common.{sym, ◌∙◌, ap, subst, arith}
use Rattle.std.proofs.lemmas.Option.{slice_get_within, slice_get_past}
use Rattle.std.proofs.lemmas.Slice.Eq.{bytes_eq-Decides}
use Rattle.ir_tree.specs.declared.items.Item.{Item}
use Rattle.checked_code.specs.declared.blocks.Function.{Function}
use Rattle.checked_code.specs.Checking.{bundle_functions, bundle_tables}
use Rattle.typed_heap.specs.Fits.{World}
use Rattle.typed_heap.specs.Places.{with_some}
use Rattle.frames.specs.Activations.{Activation}
use Rattle.frames.specs.Chains.{frames_in}
use Rattle.stacks.specs.Stacks.{Unbound}
use Rattle.mu_model.specs.Acts.{Program}
use Rattle.mu_model.specs.Types.{classes_given, classes_taken}
use Rattle.mu_model.specs.Edits.{popped, pushed, pushed_on}
use Rattle.mu_model.specs.Exceptions.{EnteredFrames, body_or_case}
use Rattle.mu_model.specs.Frames.{fresh_frame}
use Rattle.mu_model.specs.declared.endings.Case.{Case}
use Rattle.mu_model.specs.declared.endings.Case.TheVariants as cases
use Rattle.model_numbers.specs.Numbered.{numbered}
use Rattle.model_laws.specs.ActsFit.{IsFunction}
use Rattle.model_laws.specs.FramesFit.{ReadyFit}
use Rattle.model_laws.specs.Places.{Places}
use Rattle.model_laws.specs.Programs.{IsTyped}
use Rattle.model_laws.specs.Lemmas.Editing.{pushed_fits, ready_drops}
use Rattle.mu_osr.specs.Faults.{case_of_fault}
use Rattle.mu_osr.specs.Laws.{PoppedFramesFit, PushedFramesFit, PopsAsAbstract, PushesAsAbstract}
use Rattle.mu_osr.specs.Pushing.{Pushes, WhyNot, before_parameters, first_of}
use Rattle.mu_osr.specs.declared.pushing.PushFault.{PushFault}
use Rattle.mu_osr.specs.declared.pushing.PushFault.TheVariants.{NoBody, Misfit}

-- ---- frames that are left

abbrev left_frames : ℕ → List Activation → EnteredFrames
left_frames n fs = record { frames = drop n fs; ended = take n fs }

left_of : (n : ℕ) (fs : List Activation) (r : EnteredFrames) (o : Option Activation) → option_map (λ (f : Activation). left_frames n fs) o ≡ Some r → IsSome o × (drop n fs ≡ r.frames)
left_of n fs r None e = cc
left_of n fs r (Some f) e = let same : left_frames n fs ≡ r = cc in (refl, ap (λ (r : EnteredFrames). r.frames) same)

is_within : (n : ℕ) (fs : List Activation) (o : Option Activation) → slice_get fs n ≡ o → IsSome o → n < length fs
is_within n fs None e h = cc
is_within n fs (Some f) e h = slice_get_within fs n f e

pub popped_fit : PoppedFramesFit
popped_fit p t w n fs r h e =
    let q = left_of n fs r (slice_get fs n) e in
    subst (ReadyFit p t w) q.1 (ready_drops p t w n fs h (is_within n fs (slice_get fs n) refl q.0))

-- ---- a frame that is pushed

pub pushed_fit : PushedFramesFit
pushed_fit p t w f fs typed is h = pushed_fits p t typed w f fs is h

-- ---- the abstract machine's

nothing_past : (n : ℕ) (fs : List Activation) → slice_get fs n ≡ None → n < length fs → ⊥
nothing_past n [] e h = omega (arith, h)
nothing_past zero (f ∷ fs) e h = cc
nothing_past (suc n) (f ∷ fs) e h = nothing_past n fs e (omega (arith, h))

there_is : (n : ℕ) (fs : List Activation) (o : Option Activation) → slice_get fs n ≡ o → n < length fs → option_map (λ (f : Activation). left_frames n fs) o ≡ Some (left_frames n fs)
there_is n fs None e h = absurd (nothing_past n fs e h)
there_is n fs (Some f) e h = refl

pub pops : PopsAsAbstract
pops n fs = (
  there_is n fs (slice_get fs n) refl,
  λ h. ap (option_map (λ (f : Activation). left_frames n fs)) (slice_get_past fs n h),
)

module _ (bundle : List Item) (f : ℕ) (s : Unbound) (waits : s.waits ≡ s.frames.top.waits) where
  -- by what stands there for the function
  abbrev pushed_by : Option Function → Option (Result (List Activation) Case)
  pushed_by o = option_map (pushed_on (numbered bundle) f s.frames.top s.frames.below) (body_or_case (with_some o (λ (g : Function). Some g.first)))

  -- by whether it gives what the top frame waits for
  abbrev tested : ℕ → Bool → Option (Result (List Activation) Case)
  tested b fits = Some (if fits then Ok (fresh_frame (numbered bundle) f b ∷ s.frames.top ∷ s.frames.below) else Err cases.StackTypes)

  -- why it does not go
  abbrev Why : Option Function → PushFault → Type 0
  Why o NoBody = with_some o (λ (g : Function). g.first) ≡ None
  Why o Misfit = IsSome (with_some o (λ (g : Function). g.first)) × (classes_given (bundle_tables bundle) f ≢ s.waits)

  same_true : (xs ys : List ℕ) → xs ≡ ys → bytes_eq xs ys ≡ true
  same_true xs ys e = (bytes_eq-Decides xs ys).1 e

  goes : (o : Option Function) (fs : List Activation) → IsSomeAnd (with_some o (λ (g : Function). g.first)) (λ b. fs ≡ before_parameters b (classes_taken (bundle_tables bundle) f) ∷ frames_in s.frames)
      → classes_given (bundle_tables bundle) f ≡ s.waits → pushed_by o ≡ Some (Ok fs)
  goes None fs h gives = absurd h
  goes (Some g) fs h gives = by g.first h
    where
      by : (o : Option ℕ) → IsSomeAnd o (λ b. fs ≡ before_parameters b (classes_taken (bundle_tables bundle) f) ∷ frames_in s.frames)
          → option_map (pushed_on (numbered bundle) f s.frames.top s.frames.below) (body_or_case (Some o)) ≡ Some (Ok fs)
      by None h = absurd h
      by (Some b) h =
          ap (tested b) (same_true (classes_given (bundle_tables bundle) f) s.frames.top.waits (gives ∙ waits)) ∙ ap (λ (fs : List Activation). Some (Ok fs)) (sym h)

  apart_false : (xs ys : List ℕ) (q : Bool) → bytes_eq xs ys ≡ q → xs ≢ ys → q ≡ false
  apart_false xs ys false e h = refl
  apart_false xs ys true e h = absurd (h ((bytes_eq-Decides xs ys).0 e))

  stays : (o : Option Function) (k : PushFault) → IsSome o → Why o k → pushed_by o ≡ Some (Err (case_of_fault k))
  stays None k h why = cc
  stays (Some g) NoBody h why = by g.first why
    where
      by : (o : Option ℕ) → o ≡ None → option_map (pushed_on (numbered bundle) f s.frames.top s.frames.below) (body_or_case (Some o)) ≡ Some (Err cases.NoBody)
      by None e = refl
      by (Some b) e = cc
  stays (Some g) Misfit h why = by g.first why.0
    where
      differ : bytes_eq (classes_given (bundle_tables bundle) f) s.frames.top.waits ≡ false
      differ = apart_false (classes_given (bundle_tables bundle) f) s.frames.top.waits (bytes_eq (classes_given (bundle_tables bundle) f) s.frames.top.waits) refl (λ e. why.1 (e ∙ sym waits))

      by : (o : Option ℕ) → IsSome o → option_map (pushed_on (numbered bundle) f s.frames.top s.frames.below) (body_or_case (Some o)) ≡ Some (Err cases.StackTypes)
      by None h = cc
      by (Some b) h = ap (tested b) differ

there_of : {A : Type 0} (n : ℕ) (xs : List A) → n < length xs → IsSome (slice_get xs n)
there_of n [] h = absurd (omega (arith, h))
there_of zero (x ∷ xs) h = refl
there_of (suc n) (x ∷ xs) h = there_of n xs (omega (arith, h))

pub pushes : PushesAsAbstract
pushes bundle f s there waits = (
  λ fs h. goes bundle f s waits (slice_get (bundle_functions bundle) f) fs h.0 h.1,
  λ k why. stays bundle f s waits (slice_get (bundle_functions bundle) f) k (there_of f (bundle_functions bundle) there) (as_why k why),
)
  where
    as_why : (k : PushFault) → WhyNot bundle f s k → Why bundle f s waits (slice_get (bundle_functions bundle) f) k
    as_why NoBody h = h
    as_why Misfit h = h
