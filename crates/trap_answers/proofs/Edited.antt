-- Edits of the abstract machine that can be made, and those that cannot.
use Rattle.std.specs.Prelude.{◌≡◌, ◌≢◌, ℕ, zero, suc, ◌<◌, ◌≤◌, Bool, true, false, List, [], ◌∷◌, Option, Some, None, IfNone, IfSome, IsSome, IsSomeAnd, is_some, not, Result, Ok, Err, IsOk, length, take, drop, slice_get, bytes_eq, option_map, if◌then◌else◌, refl}
use Rattle.std.proofs.Common.{sym, ◌∙◌, ap, subst, arith}
use Rattle.std.proofs.lemmas.Option.{slice_get_within, slice_get_past}
use Rattle.std.proofs.lemmas.Slice.Eq.{bytes_eq-Decides}
use Rattle.ir_tree.specs.declared.items.Item.{Item}
use Rattle.checked_code.specs.declared.blocks.Function.{Function}
use Rattle.checked_code.specs.Checking.{bundle_functions, bundle_tables}
use Rattle.typed_heap.specs.Places.{with_some}
use Rattle.frames.specs.Activations.{Activation}
use Rattle.mu_model.specs.Acts.{Program}
use Rattle.mu_model.specs.Clients.{Edit}
use Rattle.frames.specs.Chains.{frames_in}
use Rattle.stacks.specs.Stacks.{Unbound}
use Rattle.mu_model.specs.Types.{classes_given}
use Rattle.mu_model.specs.Edits.{pushed, pushed_on, push_by, with_frames, edited, edited_by}
use Rattle.mu_model.specs.Exceptions.{EnteredFrames, body_or_case}
use Rattle.mu_model.specs.Frames.{fresh_frame}
use Rattle.mu_model.specs.declared.endings.Case.{Case}
use Rattle.mu_model.specs.declared.endings.Case.TheVariants as cases
use Rattle.model_numbers.specs.Numbered.{numbered}
use Rattle.mu_osr.specs.Pushing.{Pushes, WhyNot}
use Rattle.mu_osr.specs.declared.pushing.PushFault.{PushFault}
use Rattle.mu_osr.specs.Lemmas.EditLaws.{pushes}
use Rattle.mu_osr.specs.Faults.{case_of_fault}

-- ---- a push

same_true : (xs ys : List ℕ) → xs ≡ ys → bytes_eq xs ys ≡ true
same_true xs ys e = (bytes_eq-Decides xs ys).1 e

apart_false : (xs ys : List ℕ) (q : Bool) → bytes_eq xs ys ≡ q → xs ≢ ys → q ≡ false
apart_false xs ys false e h = refl
apart_false xs ys true e h = absurd (h ((bytes_eq-Decides xs ys).0 e))

module _ (bundle : List Item) (f : ℕ) (t : Activation) (fs : List Activation) where
  -- by what stands there for the function, by its first block, and by whether it gives what the frame waits for
  abbrev by_function : Option Function → Option (Result (List Activation) Case)
  by_function o = option_map (pushed_on (numbered bundle) f t fs) (body_or_case (with_some o (λ (g : Function). Some g.first)))

  abbrev by_first : Option ℕ → Option (Result (List Activation) Case)
  by_first o = option_map (pushed_on (numbered bundle) f t fs) (body_or_case (Some o))

  abbrev by_test : ℕ → Bool → Option (Result (List Activation) Case)
  by_test b fits = Some (if fits then Ok (fresh_frame (numbered bundle) f b ∷ t ∷ fs) else Err cases.StackTypes)

  pub no_body : (g : Function) → slice_get (bundle_functions bundle) f ≡ Some g → g.first ≡ None → pushed (numbered bundle) f (t ∷ fs) ≡ Some (Err cases.NoBody)
  no_body g there none = ap by_function there ∙ ap by_first none

  pub misfits : (g : Function) (b : ℕ) → slice_get (bundle_functions bundle) f ≡ Some g → g.first ≡ Some b → classes_given (bundle_tables bundle) f ≢ t.waits → pushed (numbered bundle) f (t ∷ fs) ≡ Some (Err cases.StackTypes)
  misfits g b there first apart =
      ap by_function there ∙ ap by_first first ∙ ap (by_test b) (apart_false (classes_given (bundle_tables bundle) f) t.waits (bytes_eq (classes_given (bundle_tables bundle) f) t.waits) refl apart)

  pub is_put : (g : Function) (b : ℕ) → slice_get (bundle_functions bundle) f ≡ Some g → g.first ≡ Some b → classes_given (bundle_tables bundle) f ≡ t.waits → IsSomeAnd (pushed (numbered bundle) f (t ∷ fs)) IsOk
  is_put g b there first same =
      subst (λ o. IsSomeAnd o IsOk) (sym (ap by_function there ∙ ap by_first first ∙ ap (by_test b) (same_true (classes_given (bundle_tables bundle) f) t.waits same))) refl

  found : (o : Option Function) → slice_get (bundle_functions bundle) f ≡ o → IsSome (by_function o) → f < length (bundle_functions bundle)
  found None e h = cc
  found (Some g) e h = slice_get_within (bundle_functions bundle) f g e

  pub is_function : IsSome (pushed (numbered bundle) f (t ∷ fs)) → f < length (bundle_functions bundle)
  is_function h = found (slice_get (bundle_functions bundle) f) refl h

none_of : {A : Type 0} (o : Option A) (b : Bool) → is_some o ≡ not b → b ≡ true → o ≡ None
none_of None b e h = refl
none_of (Some a) true e h = cc
none_of (Some a) false e h = cc

some_of : {A : Type 0} (o : Option A) (b : Bool) → is_some o ≡ not b → b ≡ false → (a : A) × (o ≡ Some a)
some_of None true e h =
    let no : ⊥ = cc in
    absurd no
some_of None false e h =
    let no : ⊥ = cc in
    absurd no
some_of (Some a) b e h = (a, refl)

-- what comes of a push onto a frame, by what is known of the function
module _ (bundle : List Item) (f : ℕ) (t : Activation) (g : Function) (there : slice_get (bundle_functions bundle) f ≡ Some g) (b : Bool) (first : is_some g.first ≡ not b) where
  pub no_body_refused : b ≡ true → (below : List Activation) → pushed (numbered bundle) f (t ∷ below) ≡ Some (Err cases.NoBody)
  no_body_refused h below = no_body bundle f t below g there (none_of g.first b first h)

  pub misfit_refused : b ≡ false → classes_given (bundle_tables bundle) f ≢ t.waits → (below : List Activation) → pushed (numbered bundle) f (t ∷ below) ≡ Some (Err cases.StackTypes)
  misfit_refused h apart below =
      let q = some_of g.first b first h in
      misfits bundle f t below g q.0 there q.1 apart

  pub fitting_goes : b ≡ false → classes_given (bundle_tables bundle) f ≡ t.waits → (below : List Activation) → IsSomeAnd (pushed (numbered bundle) f (t ∷ below)) IsOk
  fitting_goes h same below =
      let q = some_of g.first b first h in
      is_put bundle f t below g q.0 there q.1 same

pub ruleset refusing = (no_body_refused, misfit_refused, fitting_goes)

some_if : {A : Type 0} (o : Option A) (P : A → Type 0) → IsSomeAnd o P → IsSome o
some_if None P h = absurd h
some_if (Some a) P h = refl

refused_not : (k : Case) (o : Option (Result (List Activation) Case)) → o ≡ Some (Err k) → IsSomeAnd o IsOk → ⊥
refused_not k o e h =
    let differ : false ≡ true = subst (λ (o : Option (Result (List Activation) Case)). IsSomeAnd o IsOk) e h in
    cc

module _ (bundle : List Item) (f : ℕ) (s : Unbound) (goes : IsSomeAnd (pushed (numbered bundle) f (frames_in s.frames)) IsOk) where
  pub function_pushed : f < length (bundle_functions bundle)
  function_pushed = is_function bundle f s.frames.top s.frames.below (some_if (pushed (numbered bundle) f (frames_in s.frames)) IsOk goes)

  pub never_refused : (k : PushFault) → s.waits ≡ s.frames.top.waits → WhyNot bundle f s k → ⊥
  never_refused k waits why = refused_not (case_of_fault k) (pushed (numbered bundle) f (frames_in s.frames)) ((pushes bundle f s function_pushed waits).1 k why) goes

  pub pushed_so : (fs : List Activation) → s.waits ≡ s.frames.top.waits → Pushes bundle f s fs → pushed (numbered bundle) f (frames_in s.frames) ≡ Some (Ok fs)
  pushed_so fs waits h = (pushes bundle f s function_pushed waits).0 fs h

pub ruleset pushing = (function_pushed, never_refused, pushed_so)

-- ---- an edit

abbrev done_with : List Activation → List Activation → Option (Result EnteredFrames Case)
done_with ended fs = Some (Ok (record { frames = fs; ended = ended }))

abbrev left_frames : ℕ → List Activation → EnteredFrames
left_frames n fs = record { frames = drop n fs; ended = take n fs }

dropped : (n : ℕ) (fs : List Activation) (t : Activation) → slice_get fs n ≡ Some t → drop n fs ≡ t ∷ drop (suc n) fs
dropped n [] t e = cc
dropped zero (f ∷ fs) t e = let same : f ≡ t = cc in ap (λ g. g ∷ fs) same
dropped (suc n) (f ∷ fs) t e = dropped n fs t e

framed_error : (r : EnteredFrames) (k : Case) (o : Option (Result (List Activation) Case)) → o ≡ Some (Err k) → option_map (with_frames r) o ≡ Some (Err k)
framed_error r k o e = ap (option_map (with_frames r)) e

framed_ok : (r : EnteredFrames) (o : Option (Result (List Activation) Case)) → IsSomeAnd o IsOk → IsSomeAnd (option_map (with_frames r) o) IsOk
framed_ok r None h = absurd h
framed_ok r (Some (Ok fs)) h = refl
framed_ok r (Some (Err k)) h = cc

ok_framed : (r : EnteredFrames) (o : Option (Result (List Activation) Case)) → IsSomeAnd (option_map (with_frames r) o) IsOk → IsSomeAnd o IsOk
ok_framed r None h = absurd h
ok_framed r (Some (Ok fs)) h = refl
ok_framed r (Some (Err k)) h = cc

at_place : (n : ℕ) (fs : List Activation) → n < length fs → (t : Activation) × (slice_get fs n ≡ Some t)
at_place n [] h = absurd (omega (arith, h))
at_place zero (f ∷ fs) h = (f, refl)
at_place (suc n) (f ∷ fs) h = at_place n fs (omega (arith, h))

some_framed : (r : EnteredFrames) (o : Option (Result (List Activation) Case)) → IsSome (option_map (with_frames r) o) → IsSome o
some_framed r None h = cc
some_framed r (Some a) h = refl

module _ (p : Program) (e : Edit) (fs : List Activation) where
  abbrev by_frame : Option Activation → Option (Result EnteredFrames Case)
  by_frame o = edited_by p e.push (option_map (λ (f : Activation). left_frames e.pop fs) o)

  pub too_deep : length fs ≤ e.pop → edited p e fs ≡ Some (Err cases.ClientMisuse)
  too_deep h = ap by_frame (slice_get_past fs e.pop h)

  only_pops : (t : Activation) → slice_get fs e.pop ≡ Some t → e.push ≡ None → edited p e fs ≡ Some (Ok (left_frames e.pop fs))
  only_pops t there none = ap by_frame there ∙ ap (λ o. push_by p o (left_frames e.pop fs)) none

  also_pushes : (t : Activation) → slice_get fs e.pop ≡ Some t → (f : ℕ) → e.push ≡ Some f → edited p e fs ≡ option_map (with_frames (left_frames e.pop fs)) (pushed p f (drop e.pop fs))
  also_pushes t there f some = ap by_frame there ∙ ap (λ o. push_by p o (left_frames e.pop fs)) some

  onto_frame : (t : Activation) → slice_get fs e.pop ≡ Some t → (f : ℕ) → pushed p f (drop e.pop fs) ≡ pushed p f (t ∷ drop (suc e.pop) fs)
  onto_frame t there f = ap (pushed p f) (dropped e.pop fs t there)

  -- what comes of it by what comes of the push
  pub pop_goes : e.pop < length fs → e.push ≡ None → IsSomeAnd (edited p e fs) IsOk
  pop_goes deep none =
      let q = at_place e.pop fs deep in
      subst (λ o. IsSomeAnd o IsOk) (sym (only_pops q.0 q.1 none)) refl

  push_refused : (t : Activation) → slice_get fs e.pop ≡ Some t → (f : ℕ) → e.push ≡ Some f → (k : Case) → ((below : List Activation) → pushed p f (t ∷ below) ≡ Some (Err k)) → edited p e fs ≡ Some (Err k)
  push_refused t there f some k refused =
      also_pushes t there f some ∙ framed_error (left_frames e.pop fs) k (pushed p f (drop e.pop fs)) (onto_frame t there f ∙ refused (drop (suc e.pop) fs))

  push_goes : (t : Activation) → slice_get fs e.pop ≡ Some t → (f : ℕ) → e.push ≡ Some f → ((below : List Activation) → IsSomeAnd (pushed p f (t ∷ below)) IsOk) → IsSomeAnd (edited p e fs) IsOk
  push_goes t there f some goes =
      subst (λ o. IsSomeAnd o IsOk) (sym (also_pushes t there f some))
      (framed_ok (left_frames e.pop fs) (pushed p f (drop e.pop fs)) (subst (λ o. IsSomeAnd o IsOk) (sym (onto_frame t there f)) (goes (drop (suc e.pop) fs))))

  -- the same by what was said of the push
  pub refused_by : (t : Activation) → slice_get fs e.pop ≡ Some t → (f : ℕ) → e.push ≡ Some f → (r : Option Case) → IfSome r (λ k. (below : List Activation) → pushed p f (t ∷ below) ≡ Some (Err k)) → IfSome r (λ k. edited p e fs ≡ Some (Err k))
  refused_by t there f some None h = tt
  refused_by t there f some (Some k) h = push_refused t there f some k h

  pub goes_by : (t : Activation) → slice_get fs e.pop ≡ Some t → (f : ℕ) → e.push ≡ Some f → (r : Option Case) → IfNone r ((below : List Activation) → IsSomeAnd (pushed p f (t ∷ below)) IsOk) → IfNone r (IsSomeAnd (edited p e fs) IsOk)
  goes_by t there f some None h = push_goes t there f some h
  goes_by t there f some (Some k) h = tt

  -- an edit that can be made
  within : (o : Option Activation) → slice_get fs e.pop ≡ o → IsSomeAnd (by_frame o) IsOk → (t : Activation) × (slice_get fs e.pop ≡ Some t)
  within None q h =
      let no : ⊥ = cc in
      absurd no
  within (Some t) q h = (t, q)

  frame_there : IsSomeAnd (edited p e fs) IsOk → (t : Activation) × (slice_get fs e.pop ≡ Some t)
  frame_there h = within (slice_get fs e.pop) refl h

  pub deep_enough : IsSomeAnd (edited p e fs) IsOk → e.pop < length fs
  deep_enough h = let q = frame_there h in slice_get_within fs e.pop q.0 q.1

  pub push_goes_then : IsSomeAnd (edited p e fs) IsOk → (f : ℕ) → e.push ≡ Some f → (gs : List Activation) → gs ≡ drop e.pop fs → IsSomeAnd (pushed p f gs) IsOk
  push_goes_then h f some gs is =
      let q = frame_there h in
      subst (λ gs. IsSomeAnd (pushed p f gs) IsOk) (sym is) (ok_framed (left_frames e.pop fs) (pushed p f (drop e.pop fs)) (subst (λ o. IsSomeAnd o IsOk) (also_pushes q.0 q.1 f some) h))

  pub edited_pushed : IsSomeAnd (edited p e fs) IsOk → (f : ℕ) → e.push ≡ Some f → (gs after : List Activation) → gs ≡ drop e.pop fs → pushed p f gs ≡ Some (Ok after)
      → edited p e fs ≡ Some (Ok (record { frames = after; ended = take e.pop fs }))
  edited_pushed h f some gs after is goes =
      let q = frame_there h in
      also_pushes q.0 q.1 f some ∙ ap (λ gs. option_map (with_frames (left_frames e.pop fs)) (pushed p f gs)) (sym is) ∙ ap (option_map (with_frames (left_frames e.pop fs))) goes

  pub edited_popped : IsSomeAnd (edited p e fs) IsOk → e.push ≡ None → (gs : List Activation) → gs ≡ drop e.pop fs → edited p e fs ≡ Some (Ok (record { frames = gs; ended = take e.pop fs }))
  edited_popped h none gs is =
      let q = frame_there h in
      only_pops q.0 q.1 none ∙ ap (done_with (take e.pop fs)) (sym is)

-- a function that is pushed is there
pub function_there : (bundle : List Item) (e : Edit) (fs : List Activation) (t : Activation) (f : ℕ) → slice_get fs e.pop ≡ Some t → e.push ≡ Some f → IsSome (edited (numbered bundle) e fs) → f < length (bundle_functions bundle)
function_there bundle e fs t f there some h =
    is_function bundle f t (drop (suc e.pop) fs)
    (subst (λ (o : Option (Result (List Activation) Case)). IsSome o) (onto_frame (numbered bundle) e fs t there f) (some_framed (left_frames e.pop fs) (pushed (numbered bundle) f (drop e.pop fs)) (subst (λ (o : Option (Result EnteredFrames Case)). IsSome o) (also_pushes (numbered bundle) e fs t there f some) h)))

pub ruleset deciding = (too_deep, pop_goes, refused_by, goes_by, function_there)

pub ruleset editing = (deep_enough, push_goes_then, edited_pushed, edited_popped)
