-- Lemmas of frames that are looked at as an edit leaves them.
use Rattle.std.proofs.Common.{◌≡◌, ℕ, zero, suc, ◌+◌, ◌<◌, ◌≤◌, Bool, true, false, not, cond, List, [], ◌∷◌, Option, Some, None, IsSome, IsSomeAnd, IfSome, Result, Ok, Err, IsOk, IfOk, is_some, length, slice_get, take, drop, option_map, bytes_eq, if◌then◌else◌, refl, sym, ◌∙◌, ap, subst, arith, add-one}
use Rattle.std.specs.List.{position_from}
use Rattle.std.proofs.lemmas.Iterator.Adapters.{position_from-zero}
use Rattle.ir_tree.specs.declared.items.Item.{Item}
use Rattle.checked_code.specs.declared.blocks.Function.{Function}
use Rattle.checked_code.specs.Checking.{bundle_functions, bundle_tables}
use Rattle.typed_heap.specs.Places.{with_some}
use Rattle.frames.specs.Activations.{Value, Goal, Activation}
use Rattle.frames.specs.Chains.{Chain, frames_of, stands}
use Rattle.frames.specs.FrameOf.{frame_of, goal_of}
use Rattle.frames.specs.Handlers.{first_handler, caught_below}
use Rattle.frames.specs.declared.frame.Handler.{Handler}
use Rattle.frames.specs.declared.frame.Frame.{Frame}
use Rattle.frames.specs.declared.unwound.Unwound.{Unwound}
use Rattle.frames.specs.declared.unwound.Unwound.TheVariants.{Caught, Uncaught}
use Rattle.mu_model.specs.declared.endings.Case.{Case}
use Rattle.mu_model.specs.declared.endings.Case.TheVariants.{StackTypes}
use Rattle.mu_model.specs.Types.{classes_given, classes_taken}
use Rattle.mu_model.specs.Acts.{Program}
use Rattle.mu_model.specs.Clients.{Edit, no_edit}
use Rattle.mu_model.specs.Frames.{fresh_frame}
use Rattle.mu_model.specs.Edits.{pushed_on, pushed, with_frames, push_by, edited_by, edited}
use Rattle.mu_model.specs.Exceptions.{EnteredFrames, body_or_case}
use Rattle.model_numbers.specs.Numbered.{numbered}
use Rattle.mu_osr.specs.Pushing.{before_parameters, first_of}
use Rattle.stack_moves.specs.declared.edited.Fresh.{Fresh}
use Rattle.run_state.specs.declared.flow.Place.{Place}
use Rattle.run_state.specs.Acting.{goes_on}
use Rattle.run_state.specs.StepLaws.{get_below}
use Rattle.run_state.specs.Unwinding.{catches_first}
use Rattle.stack_moves.specs.Editing.{made_of, after_edit, IsMade, chain_from, fresh_of, pushed_of, with_pushed}

-- ---- frames from one of them on

drop_here : {A : Type 0} (xs : List A) (n : ℕ) (x : A) → slice_get xs n ≡ Some x → drop n xs ≡ x ∷ drop (suc n) xs
drop_here [] n x h = cc
drop_here (y ∷ ys) zero x h = let same : y ≡ x = cc in ap (λ z. z ∷ ys) same
drop_here (y ∷ ys) (suc n) x h = drop_here ys n x h

drop_all : {A : Type 0} (xs : List A) (n : ℕ) → length xs ≤ n → drop n xs ≡ []
drop_all [] zero h = refl
drop_all [] (suc n) h = refl
drop_all (x ∷ xs) zero h = absurd (omega (arith, h))
drop_all (x ∷ xs) (suc n) h = drop_all xs n (omega (arith, h))

zero_more : (n : ℕ) → 0 + n ≡ n
zero_more n = omega arith

one_further : (k n : ℕ) → suc (k + n) ≡ suc k + n
one_further k n = omega arith

get_dropped : {A : Type 0} (xs : List A) (k n : ℕ) → slice_get (drop k xs) n ≡ slice_get xs (k + n)
get_dropped xs zero n = ap (slice_get xs) (sym (zero_more n))
get_dropped [] (suc k) n = refl
get_dropped (x ∷ xs) (suc k) n = get_dropped xs k n ∙ ap (slice_get (x ∷ xs)) (one_further k n)

chain_frames : (n : ℕ) (f : Activation) (fs : List Activation) → n < length (f ∷ fs) → frames_of (chain_from n f fs) ≡ drop n (f ∷ fs)
chain_frames zero f fs h = refl
chain_frames (suc n) f [] h = absurd (omega (arith, h))
chain_frames (suc n) f (g ∷ gs) h = chain_frames n g gs (omega (arith, h))

chain_top : (n : ℕ) (f g : Activation) (fs : List Activation) → slice_get (f ∷ fs) n ≡ Some g → (chain_from n f fs).top ≡ g
chain_top zero f g fs h = cc
chain_top (suc n) f g [] h = cc
chain_top (suc n) f g (e ∷ es) h = chain_top n e g es h

-- ---- the first frame that has a handler

abbrev catches : Activation → Bool
catches f = is_some f.handler

handled : (o : Option Handler) → is_some (option_map goal_of o) ≡ is_some o
handled None = refl
handled (Some h) = refl

-- from place n of some frames, the numbers counted on from there
abbrev pub walked : List Activation → ℕ → ℕ → Option ℕ
walked fs from n = position_from catches n (drop (from + n) fs)

more_zero : (n : ℕ) → n + 0 ≡ n
more_zero n = omega arith

pub walk_start : (fs : List Activation) (from : ℕ) → walked fs from 0 ≡ first_handler (drop from fs)
walk_start fs from = ap (λ n. position_from catches 0 (drop n fs)) (more_zero from) ∙ sym (position_from-zero catches (drop from fs))

walk_at : (fs : List Activation) (from n : ℕ) (f : Activation) → slice_get fs (from + n) ≡ Some f → walked fs from n ≡ cond (catches f) (Some n) (position_from catches (n + 1) (drop (suc (from + n)) fs))
walk_at fs from n f there = ap (position_from catches n) (drop_here fs (from + n) f there)

next_place : (from n : ℕ) → suc (from + n) ≡ from + (n + 1)
next_place from n = omega arith

pub walk_next : (fs : List Activation) (from n : ℕ) (x : Frame) → slice_get fs (from + n) ≡ Some (frame_of x) → is_some x.handler ≡ false → walked fs from n ≡ walked fs from (n + 1)
walk_next fs from n x there none =
    walk_at fs from n (frame_of x) there ∙ ap (λ (b : Bool). cond b (Some n) (position_from catches (n + 1) (drop (suc (from + n)) fs))) (handled x.handler ∙ none)
    ∙ ap (λ k. position_from catches (n + 1) (drop k fs)) (next_place from n)

pub walk_found : (fs : List Activation) (from n : ℕ) (x : Frame) → slice_get fs (from + n) ≡ Some (frame_of x) → is_some x.handler ≡ true → walked fs from n ≡ first_handler (drop from fs) → Some n ≡ first_handler (drop from fs)
walk_found fs from n x there found walk =
    sym (walk_at fs from n (frame_of x) there ∙ ap (λ (b : Bool). cond b (Some n) (position_from catches (n + 1) (drop (suc (from + n)) fs))) (handled x.handler ∙ found)) ∙ walk

pub walk_ends : (fs : List Activation) (from n : ℕ) → length fs ≤ from + n → walked fs from n ≡ first_handler (drop from fs) → None ≡ first_handler (drop from fs)
walk_ends fs from n low walk = sym (ap (position_from catches n) (drop_all fs (from + n) low)) ∙ walk

pub whole_walk : (fs : List Activation) (from : ℕ) (o : Option ℕ) → from ≡ 0 → o ≡ first_handler fs → o ≡ first_handler (drop from fs)
whole_walk fs from o none h = h ∙ ap (λ n. first_handler (drop n fs)) (sym none)

-- ---- the first one with a frame on top that has none

from_more : (i : ℕ) (fs : List Activation) → position_from catches (i + 1) fs ≡ option_map (λ n. n + 1) (position_from catches i fs)
from_more i [] = refl
from_more i (f ∷ fs) = by (catches f) (position_from catches (i + 1 + 1) fs) (position_from catches (i + 1) fs) (from_more (i + 1) fs)
  where
    by : (b : Bool) (later shown : Option ℕ) → later ≡ option_map (λ n. n + 1) shown → cond b (Some (i + 1)) later ≡ option_map (λ n. n + 1) (cond b (Some i) shown)
    by true later shown e = refl
    by false later shown e = e

handler_below : (g : Activation) (fs : List Activation) → g.handler ≡ None → first_handler (g ∷ fs) ≡ option_map (λ n. n + 1) (first_handler fs)
handler_below g fs none =
    position_from-zero catches (g ∷ fs) ∙ ap (λ (o : Option Goal). cond (is_some o) (Some 0) (position_from catches (0 + 1) fs)) none ∙ from_more 0 fs ∙ ap (option_map (λ n. n + 1)) (sym (position_from-zero catches fs))

handler_at : (fs : List Activation) (n : ℕ) → first_handler fs ≡ Some n → (f : Activation) × (slice_get fs n ≡ Some f)
handler_at fs n h = let c = catches_first fs n h in (c.frame, c.there)

-- the frame that was found is there
pub found_there : (fs : List Activation) (from n : ℕ) (u : Unwound) → caught_below u ≡ first_handler (drop from fs) → u ≡ Caught n → from + n < length fs
found_there fs from n u h e =
    let first : first_handler (drop from fs) ≡ Some n = sym (ap caught_below (sym e) ∙ h) in
    let f = handler_at (drop from fs) n first in
    get_below fs (from + n) f.0 (sym (get_dropped fs from n) ∙ f.1)

-- ---- the frames as an edit leaves them

module _ (bundle : List Item) (f : ℕ) (c : Chain) (r : EnteredFrames) where
  abbrev p : Program
  p = numbered bundle

  abbrev leaves : Option (Result EnteredFrames Case) → Option Activation → Type 0
  leaves o g = IsSomeAnd o IsOk → frames_of (with_pushed g c) ≡ (made_of o).frames

  abbrev entering : ℕ → Activation
  entering b = before_parameters b (classes_taken (bundle_tables bundle) f)

  fits : (b : ℕ) (x : Bool) → leaves (Some (with_frames r (if x then Ok (fresh_frame p f b ∷ frames_of c) else Err StackTypes))) (Some (entering b))
  fits b true h = refl
  fits b false h = cc

  with_first : (o : Option ℕ) → leaves (option_map (with_frames r) (option_map (pushed_on p f c.top c.below) (body_or_case (Some o)))) (option_map entering o)
  with_first None h = cc
  with_first (Some b) h = fits b (bytes_eq (classes_given (bundle_tables bundle) f) c.top.waits) h

  with_function : (o : Option Function) → leaves (option_map (with_frames r) (option_map (pushed_on p f c.top c.below) (body_or_case (with_some o (λ g. Some g.first))))) (option_map entering (with_some o (λ g. g.first)))
  with_function None h = absurd h
  with_function (Some g) h = with_first g.first h

  pushed_made : leaves (option_map (with_frames r) (pushed p f (frames_of c))) (pushed_of bundle (Some f))
  pushed_made h = with_function (slice_get (bundle_functions bundle) f) h

  has_function : (o : Option Function) → IsSomeAnd (option_map (with_frames r) (option_map (pushed_on p f c.top c.below) (body_or_case (with_some o (λ g. Some g.first))))) IsOk → IsSome o
  has_function None h = absurd h
  has_function (Some g) h = refl

  pushed_there : IsSomeAnd (option_map (with_frames r) (pushed p f (frames_of c))) IsOk → f < length (bundle_functions bundle)
  pushed_there h = by (slice_get (bundle_functions bundle) f) refl (has_function (slice_get (bundle_functions bundle) f) h)
    where
      by : (o : Option Function) → slice_get (bundle_functions bundle) f ≡ o → IsSome o → f < length (bundle_functions bundle)
      by None e h = cc
      by (Some g) e h = get_below (bundle_functions bundle) f g e

push_made : (bundle : List Item) (push : Option ℕ) (c : Chain) (r : EnteredFrames) → r.frames ≡ frames_of c → IsSomeAnd (push_by (numbered bundle) push r) IsOk → frames_of (with_pushed (pushed_of bundle push) c) ≡ (made_of (push_by (numbered bundle) push r)).frames
push_made bundle None c r same h = sym same
push_made bundle (Some f) c r same h =
    let P : List Activation → Type 0 = λ fs. IsSomeAnd (option_map (with_frames r) (pushed (numbered bundle) f fs)) IsOk → frames_of (with_pushed (pushed_of bundle (Some f)) c) ≡ (made_of (option_map (with_frames r) (pushed (numbered bundle) f fs))).frames in
    subst P (sym same) (pushed_made bundle f c r) h

push_there : (bundle : List Item) (push : Option ℕ) (f : ℕ) (c : Chain) (r : EnteredFrames) → push ≡ Some f → r.frames ≡ frames_of c → IsSomeAnd (push_by (numbered bundle) push r) IsOk → f < length (bundle_functions bundle)
push_there bundle None f c r e same h = cc
push_there bundle (Some g) f c r e same h =
    let is : g ≡ f = cc in
    let there : IsSomeAnd (option_map (with_frames r) (pushed (numbered bundle) g (frames_of c))) IsOk = subst (λ fs. IsSomeAnd (option_map (with_frames r) (pushed (numbered bundle) g fs)) IsOk) same h in
    subst (λ f. f < length (bundle_functions bundle)) is (pushed_there bundle g c r there)

module _ (bundle : List Item) (e : Edit) (f : Activation) (fs : List Activation) (h : IsMade bundle e (f ∷ fs)) where
  at : (o : Option Activation) → slice_get (f ∷ fs) e.pop ≡ o → IsSomeAnd (edited_by (numbered bundle) e.push (option_map (λ (g : Activation). record { frames = drop e.pop (f ∷ fs); ended = take e.pop (f ∷ fs) }) o)) IsOk
      → (g : Activation) × (slice_get (f ∷ fs) e.pop ≡ Some g)
  at None there h = cc
  at (Some g) there h = (g, there)

  first_left : (g : Activation) × (slice_get (f ∷ fs) e.pop ≡ Some g)
  first_left = at (slice_get (f ∷ fs) e.pop) refl h

  -- there is such a frame
  pub made_low : e.pop < length (f ∷ fs)
  made_low = get_below (f ∷ fs) e.pop first_left.0 first_left.1

  abbrev rest : EnteredFrames
  rest = record { frames = drop e.pop (f ∷ fs); ended = take e.pop (f ∷ fs) }

  is_rest : edited (numbered bundle) e (f ∷ fs) ≡ push_by (numbered bundle) e.push rest
  is_rest = ap (λ (o : Option Activation). edited_by (numbered bundle) e.push (option_map (λ (g : Activation). rest) o)) first_left.1

  made_rest : IsSomeAnd (push_by (numbered bundle) e.push rest) IsOk
  made_rest = subst (λ o. IsSomeAnd o IsOk) is_rest h

  -- and such a function
  made_function : (n : ℕ) → e.push ≡ Some n → n < length (bundle_functions bundle)
  made_function n is = push_there bundle e.push n (chain_from e.pop f fs) rest is (sym (chain_frames e.pop f fs made_low)) made_rest

  pub made_functions : IfSome e.push (λ n. n < length (bundle_functions bundle))
  made_functions = by e.push refl
    where
      by : (o : Option ℕ) → e.push ≡ o → IfSome o (λ n. n < length (bundle_functions bundle))
      by None is = tt
      by (Some n) is = made_function n is

  pub made_frames : (o : Option Activation) → o ≡ pushed_of bundle e.push → frames_of (with_pushed o (chain_from e.pop f fs)) ≡ (after_edit bundle e (f ∷ fs)).frames
  unfolding after_edit
  made_frames o same =
      ap (λ o. frames_of (with_pushed o (chain_from e.pop f fs))) same ∙ push_made bundle e.push (chain_from e.pop f fs) rest (sym (chain_frames e.pop f fs made_low)) made_rest ∙ ap (λ o. (made_of o).frames) (sym is_rest)

-- ---- no edit, and a frame that is to be pushed

abbrev edit_with : ℕ → Option ℕ → Edit
edit_with pop push = record { pop = pop; push = push }

pub empty_edit : (pop : ℕ) (push : Option ℕ) (b : Bool) → pop ≡ 0 → is_some push ≡ not b → b ≡ true → edit_with pop push ≡ no_edit
empty_edit pop None b none e h = ap (λ n. edit_with n None) none
empty_edit pop (Some f) true none e h = cc
empty_edit pop (Some f) false none e h = cc

pub first_is : (bundle : List Item) (f : ℕ) (g : Function) (o : Option ℕ) → slice_get (bundle_functions bundle) f ≡ Some g → g.first ≡ o → first_of bundle f ≡ o
first_is bundle f g o there is = ap (λ (x : Option Function). with_some x (λ (g : Function). g.first)) there ∙ is

-- ---- what is seen of them

abbrev seen_chain : Option Fresh → ℕ → Activation → List Activation → Chain
seen_chain o n f fs = with_pushed (option_map fresh_of o) (chain_from n f fs)

-- the frame on top is the one that was pushed, or the first that stays
pub top_pushed : (o : Option Fresh) (g : Fresh) (n : ℕ) (f : Activation) (fs : List Activation) (c : Chain) → with_pushed (option_map fresh_of o) (chain_from n f fs) ≡ c → o ≡ Some g → fresh_of g ≡ c.top
top_pushed o g n f fs c is there = ap (λ (c : Chain). c.top) (ap (λ o. seen_chain o n f fs) (sym there) ∙ is)

pub top_kept : (o : Option Fresh) (n : ℕ) (f : Activation) (fs : List Activation) (x : Frame) (c : Chain) → with_pushed (option_map fresh_of o) (chain_from n f fs) ≡ c → o ≡ None → slice_get (f ∷ fs) n ≡ Some (frame_of x) → frame_of x ≡ c.top
top_kept o n f fs x c is none there = sym (chain_top n f (frame_of x) fs there) ∙ ap (λ (c : Chain). c.top) (ap (λ o. seen_chain o n f fs) (sym none) ∙ is)

pub passes_fresh : (bundle : List Item) (g : Fresh) (f : Activation) (vs out : List Value) → fresh_of g ≡ f → out ≡ vs → goes_on bundle f vs ≡ Some (stands f g.block 0 out)
unfolding goes_on
passes_fresh bundle g f vs out is same =
    subst (λ f. goes_on bundle f vs ≡ Some (stands f g.block 0 out)) is (ap (λ out. Some (stands (fresh_of g) g.block 0 out)) (sym same))

pub passes_on : (bundle : List Item) (f g : Activation) (vs : List Value) → g ≡ f → IsSome (goes_on bundle f vs) → IsSome (goes_on bundle g vs)
passes_on bundle f g vs is h = subst (λ f. IsSome (goes_on bundle f vs)) (sym is) h

pub passed_on : {E : Type 0} (bundle : List Item) (f g : Activation) (vs out : List Value) (r : Result Place E) → g ≡ f → IfOk r (λ place. goes_on bundle g vs ≡ Some (stands g place.block place.at out)) → IfOk r (λ place. goes_on bundle f vs ≡ Some (stands f place.block place.at out))
passed_on bundle f g vs out r is h = subst (λ f. IfOk r (λ place. goes_on bundle f vs ≡ Some (stands f place.block place.at out))) is h

-- ---- which of them catches

more_than : (o : Option Fresh) (n : ℕ) (f : Activation) (fs : List Activation) → n < length (f ∷ fs) → (u : Unwound) → caught_below u ≡ first_handler (drop n (f ∷ fs)) → u ≡ Uncaught → None ≡ first_handler (frames_of (seen_chain o n f fs))
more_than None n f fs low u h e = ap caught_below (sym e) ∙ h ∙ ap first_handler (sym (chain_frames n f fs low))
more_than (Some g) n f fs low u h e =
    sym (handler_below (fresh_of g) (frames_of (chain_from n f fs)) refl ∙ ap (λ fs. option_map (λ n. n + 1) (first_handler fs)) (chain_frames n f fs low) ∙ ap (option_map (λ n. n + 1)) (sym (ap caught_below (sym e) ∙ h)))

-- none of them
pub none_catches : (o : Option Fresh) (n : ℕ) (f : Activation) (fs : List Activation) (c : Chain) (u : Unwound) → with_pushed (option_map fresh_of o) (chain_from n f fs) ≡ c → n < length (f ∷ fs) → caught_below u ≡ first_handler (drop n (f ∷ fs)) → u ≡ Uncaught → None ≡ first_handler (frames_of c)
none_catches o n f fs c u is low h e = more_than o n f fs low u h e ∙ ap (λ (c : Chain). first_handler (frames_of c)) is

first_by : (o : Option Fresh) (n k above : ℕ) (f : Activation) (fs : List Activation) (u : Unwound) → n < length (f ∷ fs) → caught_below u ≡ first_handler (drop n (f ∷ fs)) → u ≡ Caught k → (is_some o ≡ true → above ≡ k + 1) → (is_some o ≡ false → above ≡ k)
    → Some above ≡ first_handler (frames_of (seen_chain o n f fs))
first_by None n k above f fs u low h e some none = ap Some (none refl) ∙ ap caught_below (sym e) ∙ h ∙ ap first_handler (sym (chain_frames n f fs low))
first_by (Some g) n k above f fs u low h e some none =
    ap Some (some refl)
    ∙ sym (handler_below (fresh_of g) (frames_of (chain_from n f fs)) refl ∙ ap (λ fs. option_map (λ n. n + 1) (first_handler fs)) (chain_frames n f fs low) ∙ ap (option_map (λ n. n + 1)) (sym (ap caught_below (sym e) ∙ h)))

-- the one with that number
pub first_catches : (o : Option Fresh) (n k above : ℕ) (f : Activation) (fs : List Activation) (c : Chain) (u : Unwound) → with_pushed (option_map fresh_of o) (chain_from n f fs) ≡ c → n < length (f ∷ fs) → caught_below u ≡ first_handler (drop n (f ∷ fs)) → u ≡ Caught k
    → (is_some o ≡ true → above ≡ k + 1) → (is_some o ≡ false → above ≡ k) → Some above ≡ first_handler (frames_of c)
first_catches o n k above f fs c u is low h e some none = first_by o n k above f fs u low h e some none ∙ ap (λ (c : Chain). first_handler (frames_of c)) is

there_by : (o : Option Fresh) (n k above : ℕ) (f : Activation) (fs : List Activation) (x : Frame) → n < length (f ∷ fs) → slice_get (f ∷ fs) (n + k) ≡ Some (frame_of x) → (is_some o ≡ true → above ≡ k + 1) → (is_some o ≡ false → above ≡ k)
    → slice_get (frames_of (seen_chain o n f fs)) above ≡ Some (frame_of x)
there_by None n k above f fs x low there some none =
    ap (slice_get (frames_of (chain_from n f fs))) (none refl) ∙ ap (λ fs. slice_get fs k) (chain_frames n f fs low) ∙ get_dropped (f ∷ fs) n k ∙ there
there_by (Some g) n k above f fs x low there some none =
    ap (slice_get (fresh_of g ∷ frames_of (chain_from n f fs))) (some refl ∙ add-one k) ∙ ap (λ fs. slice_get fs k) (chain_frames n f fs low) ∙ get_dropped (f ∷ fs) n k ∙ there

pub catching_there : (o : Option Fresh) (n k above : ℕ) (f : Activation) (fs : List Activation) (c : Chain) (x : Frame) → with_pushed (option_map fresh_of o) (chain_from n f fs) ≡ c → n < length (f ∷ fs) → slice_get (f ∷ fs) (n + k) ≡ Some (frame_of x)
    → (is_some o ≡ true → above ≡ k + 1) → (is_some o ≡ false → above ≡ k) → slice_get (frames_of c) above ≡ Some (frame_of x)
catching_there o n k above f fs c x is low there some none = ap (λ (c : Chain). slice_get (frames_of c) above) (sym is) ∙ there_by o n k above f fs x low there some none

pub ruleset unwinding = (walk_start, walk_next, walk_found, walk_ends, whole_walk)

pub ruleset made = (made_low, made_functions, made_frames)

pub ruleset seeing = (top_pushed, top_kept, passes_fresh, passes_on, passed_on)

pub ruleset catching = (found_there, none_catches, first_catches, catching_there)
