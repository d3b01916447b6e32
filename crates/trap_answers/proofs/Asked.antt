-- What was asked of a thread's stack.
use Rattle.std.specs.Prelude.{◌≡◌, ℕ, zero, suc, List, [], ◌∷◌, Option, Some, Result, Ok, Err, IfOk, OnErr, OnOk, slice_get, slice_set, take, refl}
use Rattle.std.proofs.Common.{sym, ◌∙◌, ap, subst}
use Rattle.mu_base.specs.Lists.{Roomy}
use Rattle.frames.specs.Activations.{Activation}
use Rattle.mu_model.specs.Acts.{Program}
use Rattle.mu_model.specs.Clients.{Edit}
use Rattle.mu_model.specs.Configuration.{Active}
use Rattle.mu_model.specs.Edits.{edited}
use Rattle.mu_model.specs.Exceptions.{EnteredFrames}
use Rattle.mu_model.specs.declared.endings.Case.{Case}
use Rattle.mu_osr.specs.Rooms.{objects_of}
use Rattle.seats.specs.Seats.{Seats}
use Rattle.trap_answers.specs.Editing.{IsEdited}

set_same : {A : Type 0} (xs : List A) (n : ℕ) (a : A) → slice_get xs n ≡ Some a → slice_set xs n a ≡ xs
set_same [] n a h = refl
set_same (x ∷ xs) zero a h = let same : x ≡ a = cc in ap (λ y. y ∷ xs) (sym same)
set_same (x ∷ xs) (suc n) a h = ap (λ ys. x ∷ ys) (set_same xs n a h)

module _ (s t : Seats) (k i : ℕ) (fs : List Activation) (there : slice_get s.stacks k ≡ Some (Active i fs)) where
  -- a stack whose frames are as before
  pub seats_same : {Q : Type 0} → (after : List Activation) × (t ≡ record s { stacks = slice_set s.stacks k (Active i after) }) × ((after ≡ fs) × Q) → t ≡ s
  seats_same (after, changed, (kept, q)) = changed ∙ ap (λ gs. record s { stacks = slice_set s.stacks k (Active i gs) }) kept ∙ ap (λ ss. record s { stacks = ss }) (set_same s.stacks k (Active i fs) there)

  pub told : {Q : Type 0} → (after : List Activation) × (t ≡ record s { stacks = slice_set s.stacks k (Active i after) }) × ((after ≡ fs) × Q) → Q
  told (after, changed, (kept, q)) = q

-- ---- an edit

same_frames : (o : Option (Result EnteredFrames Case)) (v r : EnteredFrames) → o ≡ Some (Ok v) → o ≡ Some (Ok r) → v ≡ r
same_frames o v r a b = cc

-- an edit of the frames that a stack had before
pub edited_from : (p : Program) (e : Edit) (fs gs after : List Activation) (objects : List ℕ) → gs ≡ fs → edited p e gs ≡ Some (Ok (record { frames = after; ended = take e.pop gs })) → objects ≡ objects_of (take e.pop gs) → IsEdited p e fs after objects
edited_from p e fs gs after objects same is ended = subst (λ hs. IsEdited p e hs after objects) same (is, ended)

module _ {E : Type 0} (s t : Seats) (k i : ℕ) (p : Program) (e : Edit) where
  -- what was told of the frames, by whether the edit was made
  abbrev Told : Result (Roomy ℕ) E → Type 0
  Told q = (fs : List Activation) → slice_get s.stacks k ≡ Some (Active i fs)
      → (after : List Activation) × (t ≡ record s { stacks = slice_set s.stacks k (Active i after) }) × (OnErr q (after ≡ fs) × IfOk q (λ ids. IsEdited p e fs after ids.members))

  pub seats_edited : (q : Result (Roomy ℕ) E) → Told q
      → OnOk q ((fs : List Activation) (r : EnteredFrames) → slice_get s.stacks k ≡ Some (Active i fs) → edited p e fs ≡ Some (Ok r) → t ≡ record s { stacks = slice_set s.stacks k (Active i r.frames) })
  seats_edited (Ok ids) told = λ fs r there goes.
      let q = told fs there in
      q.1 ∙ ap (λ (r : EnteredFrames). record s { stacks = slice_set s.stacks k (Active i r.frames) }) (same_frames (edited p e fs) (record { frames = q.0; ended = take e.pop fs }) r q.2.1.0 goes)
  seats_edited (Err refusal) told = tt

  pub objects_edited : (q : Result (Roomy ℕ) E) → Told q
      → IfOk q (λ ids. (fs : List Activation) (r : EnteredFrames) → slice_get s.stacks k ≡ Some (Active i fs) → edited p e fs ≡ Some (Ok r) → ids.members ≡ objects_of r.ended)
  objects_edited (Ok ids) told = λ fs r there goes.
      let q = told fs there in
      q.2.1.1 ∙ ap (λ (r : EnteredFrames). objects_of r.ended) (same_frames (edited p e fs) (record { frames = q.0; ended = take e.pop fs }) r q.2.1.0 goes)
  objects_edited (Err refusal) told = tt

  pub seats_unedited : (fs : List Activation) → slice_get s.stacks k ≡ Some (Active i fs) → (q : Result (Roomy ℕ) E) → Told q → OnErr q (t ≡ s)
  seats_unedited fs there (Ok ids) told = tt
  seats_unedited fs there (Err refusal) told = seats_same s t k i fs there (told fs there)
