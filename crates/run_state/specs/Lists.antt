-- Laws of lists that are gone through from the front.
use Rattle.std.specs.Prelude.{◌≡◌, ℕ, zero, suc, ◌+◌, ◌<◌, ◌≤◌, List, [], ◌∷◌, ◌++◌, Some, IfSome, length, slice_get, slice_index_or, slice_set, take, drop, fold, flat_map, refl}
use Rattle.std.proofs.Common.{sym, ◌∙◌, ap, append_assoc, subst, arith, add-one}
use Rattle.std.proofs.lemmas.List.{append-nil}
use Rattle.std.proofs.Math.Seq.{take-suc}
use Rattle.std.proofs.Common.{length-drop}
use Rattle.typed_heap.specs.Objects.{HeapObject, killed}
use Rattle.frames.specs.Activations.{Activation}
use Rattle.frames.specs.Chains.{Chain, frames_of}
use Rattle.mu_model.specs.Changes.{changed}
use Rattle.run_state.specs.Acting.{objects_end}

next_taken : {A : Type 0} (xs : List A) (n : ℕ) (x : A) → slice_get xs n ≡ Some x → take (suc n) xs ≡ take n xs ++ x ∷ []
next_taken [] n x h = cc
next_taken (y ∷ ys) zero x h = let same : y ≡ x = cc in ap (λ z. z ∷ []) same
next_taken (y ∷ ys) (suc n) x h = ap (λ zs. y ∷ zs) (next_taken ys n x h)

-- one more from the front
pub take_next : {A : Type 0} (xs : List A) (n : ℕ) (x : A) → slice_get xs n ≡ Some x → take (n + 1) xs ≡ take n xs ++ x ∷ []
take_next xs n x h = rw add-one (next_taken xs n x h)

get_there : {A : Type 0} (xs : List A) (n : ℕ) → n < length xs → (x : A) × (slice_get xs n ≡ Some x)
get_there [] n h = absurd (omega arith)
get_there (y ∷ ys) zero h = (y, refl)
get_there (y ∷ ys) (suc n) h = get_there ys n (omega arith)

-- ---- objects that end one by one

pub change_there : (os : List HeapObject) (n : ℕ) (o : HeapObject) → slice_get os n ≡ Some o → slice_set os n (killed o) ≡ changed killed n os
change_there [] n o h = cc
change_there (x ∷ os) zero o h = let same : x ≡ o = cc in ap (λ x. killed x ∷ os) (sym same)
change_there (x ∷ os) (suc n) o h = ap (λ os. x ∷ os) (change_there os n o h)

pub change_beyond : (os : List HeapObject) (n : ℕ) → length os ≤ n → changed killed n os ≡ os
change_beyond [] n h = refl
change_beyond (x ∷ os) zero h = absurd (omega arith)
change_beyond (x ∷ os) (suc n) h = ap (λ os. x ∷ os) (change_beyond os n (omega arith))

pub change_so : (os ps : List HeapObject) (n : ℕ) → n < length os → IfSome (slice_get os n) (λ o. ps ≡ slice_set os n (killed o)) → ps ≡ changed killed n os
change_so os ps n h k =
    let r = get_there os n h in
    let is : ps ≡ slice_set os n (killed r.0) = subst (λ x. IfSome x (λ o. ps ≡ slice_set os n (killed o))) r.1 k in
    is ∙ change_there os n r.0 r.1

fold_behind : {A B : Type 0} (f : B → A → B) (b : B) (xs ys : List A) → fold f b (xs ++ ys) ≡ fold f (fold f b xs) ys
fold_behind f b [] ys = refl
fold_behind f b (x ∷ xs) ys = fold_behind f (f b x) xs ys

-- the objects once further ones ended
pub ends_behind : (os : List HeapObject) (ms ns : List ℕ) → objects_end os (ms ++ ns) ≡ objects_end (objects_end os ms) ns
unfolding objects_end
ends_behind os ms ns = fold_behind (λ os n. changed killed n os) os ms ns

pub ends_none : (os : List HeapObject) → objects_end os [] ≡ os
unfolding objects_end
ends_none os = refl

pub ends_one : (os : List HeapObject) (n : ℕ) → objects_end os (n ∷ []) ≡ changed killed n os
unfolding objects_end
ends_one os n = refl

flat_behind : (xs ys : List Activation) → flat_map (λ (f : Activation). f.objects) (xs ++ ys) ≡ flat_map (λ (f : Activation). f.objects) xs ++ flat_map (λ (f : Activation). f.objects) ys
flat_behind [] ys = refl
flat_behind (x ∷ xs) ys = ap (λ zs. x.objects ++ zs) (flat_behind xs ys) ∙ sym (append_assoc x.objects (flat_map (λ (f : Activation). f.objects) xs) (flat_map (λ (f : Activation). f.objects) ys))

-- ---- frames that are left one by one

pub second_there : (c : Chain) → 1 < length (frames_of c) → 0 < length c.below
second_there c h = omega arith

left_next : (fs : List Activation) (n : ℕ) (t : Activation) (bs : List Activation) → t ∷ bs ≡ drop n fs → (bs ≡ drop (suc n) fs) × (take (suc n) fs ≡ take n fs ++ t ∷ [])
left_next [] zero t bs h = cc
left_next [] (suc n) t bs h = cc
left_next (x ∷ fs) zero t bs h = let same : t ≡ x = cc in let rest : bs ≡ fs = cc in (rest, ap (λ y. y ∷ []) (sym same))
left_next (x ∷ fs) (suc n) t bs h = let r = left_next fs n t bs h in (r.0, ap (λ ys. x ∷ ys) r.1)

-- one more frame is left
pub drop_one : (fs : List Activation) (n : ℕ) (c d : Chain) → frames_of c ≡ drop n fs → frames_of d ≡ c.below → frames_of d ≡ drop (n + 1) fs
drop_one fs n c d h e = rw add-one (e ∙ (left_next fs n c.top c.below h).0)

pub end_one : (fs : List Activation) (n : ℕ) (c : Chain) (start before after : List HeapObject) → frames_of c ≡ drop n fs
    → before ≡ objects_end start (flat_map (λ (f : Activation). f.objects) (take n fs)) → after ≡ objects_end before c.top.objects
    → after ≡ objects_end start (flat_map (λ (f : Activation). f.objects) (take (n + 1) fs))
end_one fs n c start before after h was is =
    let step : take (n + 1) fs ≡ take n fs ++ c.top ∷ [] = rw add-one (left_next fs n c.top c.below h).1 in
    let flat = λ (xs : List Activation). flat_map (λ (f : Activation). f.objects) xs in
    is ∙ ap (λ os. objects_end os c.top.objects) was ∙ sym (ends_behind start (flat (take n fs)) c.top.objects)
    ∙ ap (λ ns. objects_end start (flat (take n fs) ++ ns)) (sym (append-nil c.top.objects))
    ∙ ap (objects_end start) (sym (flat_behind (take n fs) (c.top ∷ []))) ∙ ap (λ xs. objects_end start (flat xs)) (sym step)

-- one more object has ended
pub end_next : (ns : List ℕ) (i d : ℕ) (start before after : List HeapObject) → i < length ns → before ≡ objects_end start (take i ns) → after ≡ changed killed (slice_index_or ns i d) before
    → after ≡ objects_end start (take (i + 1) ns)
end_next ns i d start before after h was is =
    let n = slice_index_or ns i d in
    let step : take (i + 1) ns ≡ take i ns ++ n ∷ [] = rw add-one (take-suc ns i d h) in
    is ∙ ap (changed killed n) was ∙ sym (ends_one (objects_end start (take i ns)) n) ∙ sym (ends_behind start (take i ns) (n ∷ [])) ∙ ap (objects_end start) (sym step)

-- the objects of one more frame have ended
pub frame_next : (fs : List Activation) (n : ℕ) (f : Activation) (start before after : List HeapObject) → slice_get fs n ≡ Some f
    → before ≡ objects_end start (flat_map (λ (f : Activation). f.objects) (take n fs)) → after ≡ objects_end before f.objects
    → after ≡ objects_end start (flat_map (λ (f : Activation). f.objects) (take (n + 1) fs))
frame_next fs n f start before after at was is =
    let flat = λ (xs : List Activation). flat_map (λ (f : Activation). f.objects) xs in
    is ∙ ap (λ os. objects_end os f.objects) was ∙ sym (ends_behind start (flat (take n fs)) f.objects)
    ∙ ap (λ ns. objects_end start (flat (take n fs) ++ ns)) (sym (append-nil f.objects))
    ∙ ap (objects_end start) (sym (flat_behind (take n fs) (f ∷ []))) ∙ ap (λ xs. objects_end start (flat xs)) (sym (take_next fs n f at))

take_all : (fs : List Activation) → take (length fs) fs ≡ fs
take_all [] = refl
take_all (f ∷ fs) = ap (λ fs. f ∷ fs) (take_all fs)

pub frames_all : (fs : List Activation) (n : ℕ) (start now : List HeapObject) → n ≡ length fs → now ≡ objects_end start (flat_map (λ (f : Activation). f.objects) (take n fs))
    → now ≡ objects_end start (flat_map (λ (f : Activation). f.objects) fs)
frames_all fs n start now count is =
    let flat = λ (xs : List Activation). flat_map (λ (f : Activation). f.objects) xs in
    is ∙ ap (λ n. objects_end start (flat (take n fs))) count ∙ ap (λ xs. objects_end start (flat xs)) (take_all fs)

pub ruleset all_ending = (ends_none, frame_next, frames_all)

-- a frame is left below those that are left so far
pub enough_left : (fs : List Activation) (i n : ℕ) (c : Chain) → frames_of c ≡ drop i fs → i < n → n < length fs → 1 < length (frames_of c)
enough_left fs i n c h low high = let long : length (frames_of c) ≡ length (drop i fs) = ap length h in omega (arith, long, length-drop i fs)

pub ruleset ending = (ends_none, end_next)

pub ruleset leaving = (ends_none, drop_one, end_one, enough_left)
