-- Laws of frames that are popped one by one.
use Rattle.std.specs.Prelude.{◌≡◌, ◌≤◌, ◌<◌, ◌+◌, ℕ, zero, suc, List, [], ◌∷◌, ◌++◌, Option, Some, length, take, drop, slice_get, refl}
use Rattle.std.specs.List.{flat_map, All}
use Rattle.std.proofs.Common.{sym, ◌∙◌, ap, subst, arith, append_assoc, append-nil, length-append, add-one}
use Rattle.std.proofs.lemmas.List.Elements.{All-head, All-tail, All-cons, All-push, All-weaker}
use Rattle.frames.specs.Activations.{Activation}
use Rattle.frames.specs.Chains.{StoredChain, frames_in}
use Rattle.mu_osr.specs.Kept.{HasPopRoom, Needed}
use Rattle.mu_osr.specs.Rooms.{objects_of}

next_taken : {A : Type 0} (xs : List A) (n : ℕ) (x : A) → slice_get xs n ≡ Some x → take (suc n) xs ≡ take n xs ++ x ∷ []
next_taken [] n x h = cc
next_taken (y ∷ ys) zero x h = let same : y ≡ x = cc in ap (λ z. z ∷ []) same
next_taken (y ∷ ys) (suc n) x h = ap (λ zs. y ∷ zs) (next_taken ys n x h)

-- one more from the front
pub take_next : {A : Type 0} (xs : List A) (n : ℕ) (x : A) → slice_get xs n ≡ Some x → take (n + 1) xs ≡ take n xs ++ x ∷ []
take_next xs n x h = rw add-one (next_taken xs n x h)

pub append_next : {A : Type 0} (out xs now : List A) (n : ℕ) (x : A) (later : List A) → slice_get xs n ≡ Some x → now ≡ out ++ take n xs → later ≡ now ++ x ∷ [] → later ≡ out ++ take (n + 1) xs
append_next out xs now n x later there is more =
    more ∙ ap (λ ys. ys ++ x ∷ []) is ∙ append_assoc out (take n xs) (x ∷ []) ∙ ap (λ ys. out ++ ys) (sym (take_next xs n x there))

-- ---- frames

dropped : (fs : List Activation) (i : ℕ) (c : StoredChain) → frames_in c ≡ drop i fs → (slice_get fs i ≡ Some c.top) × (c.below ≡ drop (suc i) fs)
dropped [] zero c e = cc
dropped [] (suc i) c e = cc
dropped (f ∷ fs) zero c e =
    let top : c.top ≡ f = cc in
    let below : c.below ≡ fs = cc in
    (ap Some (sym top), below)
dropped (f ∷ fs) (suc i) c e = dropped fs i c e

pub top_is : (fs : List Activation) (i : ℕ) (c : StoredChain) → frames_in c ≡ drop i fs → slice_get fs i ≡ Some c.top
top_is fs i c e = (dropped fs i c e).0

pub below_is : (fs : List Activation) (i : ℕ) (c : StoredChain) → frames_in c ≡ drop i fs → c.below ≡ drop (i + 1) fs
below_is fs i c e = rw add-one ((dropped fs i c e).1)

drop_left : (fs : List Activation) (i : ℕ) → i ≤ length fs → length (drop i fs) + i ≡ length fs
drop_left fs zero h = omega arith
drop_left [] (suc i) h = absurd (omega (arith, h))
drop_left (f ∷ fs) (suc i) h = let less = drop_left fs i (omega (arith, h)) in omega (arith, less)

-- another frame is below
pub more_below : (fs : List Activation) (i n : ℕ) (c : StoredChain) → frames_in c ≡ drop i fs → i < n → n < length fs → 0 < length c.below
more_below fs i n c e before within =
    let left = drop_left fs i (omega (arith, before, within)) in
    let long : suc (length c.below) ≡ length (drop i fs) = ap length e in
    omega (arith, left, long, before, within)

objects_split : (xs ys : List Activation) → objects_of (xs ++ ys) ≡ objects_of xs ++ objects_of ys
objects_split [] ys = refl
objects_split (x ∷ xs) ys = ap (λ ns. x.objects ++ ns) (objects_split xs ys) ∙ sym (append_assoc x.objects (objects_of xs) (objects_of ys))

-- the objects of one frame more
pub objects_next : (fs : List Activation) (i : ℕ) (f : Activation) → slice_get fs i ≡ Some f → objects_of (take (i + 1) fs) ≡ objects_of (take i fs) ++ f.objects
objects_next fs i f there = ap objects_of (take_next fs i f there) ∙ objects_split (take i fs) (f ∷ []) ∙ ap (λ ns. objects_of (take i fs) ++ ns) (append-nil f.objects)

pub objects_long : (fs : List Activation) (i : ℕ) (f : Activation) → slice_get fs i ≡ Some f → length (objects_of (take (i + 1) fs)) ≡ length (objects_of (take i fs)) + length f.objects
objects_long fs i f there = ap length (objects_next fs i f there) ∙ length-append (objects_of (take i fs)) f.objects

pub objects_within : (fs : List Activation) (i n : ℕ) → i ≤ n → length (objects_of (take i fs)) ≤ length (objects_of (take n fs))
objects_within fs zero n h = omega arith
objects_within [] (suc i) zero h = absurd (omega (arith, h))
objects_within [] (suc i) (suc n) h = omega arith
objects_within (f ∷ fs) (suc i) zero h = absurd (omega (arith, h))
objects_within (f ∷ fs) (suc i) (suc n) h =
    let less = objects_within fs i n (omega (arith, h)) in
    omega (arith, length-append f.objects (objects_of (take i fs)), length-append f.objects (objects_of (take n fs)), less)

-- while there are frames to pop there is room for the objects of the next one
pub next_fits : (fs : List Activation) (i n spare now : ℕ) (c : StoredChain) → frames_in c ≡ drop i fs → i < n → length (objects_of (take n fs)) ≤ spare → spare ≤ now + length (objects_of (take i fs)) → length c.top.objects ≤ now
next_fits fs i n spare now c e before room used =
    omega (arith, objects_long fs i c.top (top_is fs i c e), objects_within fs (i + 1) n (omega (arith, before)), room, used)

pub spare_next : (fs : List Activation) (i spare now later : ℕ) (c : StoredChain) → frames_in c ≡ drop i fs → spare ≤ now + length (objects_of (take i fs)) → now ≤ later + length c.top.objects → spare ≤ later + length (objects_of (take (i + 1) fs))
spare_next fs i spare now later c e used more = omega (arith, objects_long fs i c.top (top_is fs i c e), used, more)

pub cells_next : (fs : List Activation) (i : ℕ) (out now later : List ℕ) (c : StoredChain) → frames_in c ≡ drop i fs → now ≡ out ++ objects_of (take i fs) → later ≡ now ++ c.top.objects → later ≡ out ++ objects_of (take (i + 1) fs)
cells_next fs i out now later c e is more =
    more ∙ ap (λ ys. ys ++ c.top.objects) is ∙ append_assoc out (objects_of (take i fs)) c.top.objects ∙ ap (λ ys. out ++ ys) (sym (objects_next fs i c.top (top_is fs i c e)))

pub frames_next : (fs : List Activation) (i : ℕ) (c d : StoredChain) → frames_in c ≡ drop i fs → frames_in d ≡ c.below → frames_in d ≡ drop (i + 1) fs
frames_next fs i c d e is = is ∙ below_is fs i c e

pub ruleset popping = (more_below, next_fits, spare_next, cells_next, frames_next)

-- what the frame that comes to the top waits for
pub waits_within : (fs : List Activation) (n pops room : ℕ) (f : Activation) → All (λ (f : Activation). length f.waits ≤ room) (take (suc pops) fs) → n ≤ pops → slice_get fs n ≡ Some f → length f.waits ≤ room
waits_within [] n pops room f h l there = cc
waits_within (g ∷ fs) zero pops room f h l there =
    let same : g ≡ f = cc in
    subst (λ (x : Activation). length x.waits ≤ room) same (All-head (λ (f : Activation). length f.waits ≤ room) g (take pops fs) h)
waits_within (g ∷ fs) (suc n) zero room f h l there = absurd (omega (arith, l))
waits_within (g ∷ fs) (suc n) (suc pops) room f h l there = waits_within fs n pops room f (All-tail (λ (f : Activation). length f.waits ≤ room) g (take (suc pops) fs) h) (omega (arith, l)) there

-- another frame on top, without objects, that waits for no more than there is room for
pub pop_room_more : (f : Activation) (fs : List Activation) (pops cells waits : ℕ) → f.objects ≡ [] → length f.waits ≤ waits → HasPopRoom fs pops cells waits → HasPopRoom (f ∷ fs) (pops + 1) cells waits
pop_room_more f fs pops cells waits none few h =
    rw add-one
    (record {
      objects = subst (λ ns. length ns ≤ cells) (ap (λ ns. ns ++ objects_of (take pops fs)) (sym none)) h.objects;
      classes = All-cons (λ (f : Activation). length f.waits ≤ waits) f (take (suc pops) fs) few h.classes;
    })

-- ---- what the frames need, one by one

pub needed_next : (fs : List Activation) (n cells waits more wider : ℕ) (f : Activation) → Needed fs n cells waits → slice_get fs n ≡ Some f → more ≡ cells + length f.objects → waits ≤ wider → length f.waits ≤ wider → Needed fs (n + 1) more wider
needed_next fs n cells waits more wider f h there sum wide own =
    record {
      objects = objects_long fs n f there ∙ ap (λ k. k + length f.objects) h.objects ∙ sym sum;
      classes = subst (All (λ (f : Activation). length f.waits ≤ wider)) (sym (take_next fs n f there))
          (All-push (λ (f : Activation). length f.waits ≤ wider) (take n fs) f (All-weaker (λ (f : Activation). length f.waits ≤ waits) (λ (f : Activation). length f.waits ≤ wider) (λ f k. omega (arith, k, wide)) (take n fs) h.classes) own);
    }

take_all : {A : Type 0} (xs : List A) (n : ℕ) → length xs ≤ n → take n xs ≡ take (length xs) xs
take_all [] zero h = refl
take_all [] (suc n) h = refl
take_all (x ∷ xs) zero h = absurd (omega (arith, h))
take_all (x ∷ xs) (suc n) h = ap (λ ys. x ∷ ys) (take_all xs n (omega (arith, h)))

-- all frames, where there are fewer
pub needed_all : (fs : List Activation) (n cells waits : ℕ) → length fs ≤ n → Needed fs (length fs) cells waits → Needed fs n cells waits
needed_all fs n cells waits h k = record {
  objects = ap (λ gs. length (objects_of gs)) (take_all fs n h) ∙ k.objects;
  classes = subst (All (λ (f : Activation). length f.waits ≤ waits)) (sym (take_all fs n h)) k.classes;
}

add_one : {n : ℕ} → n + 1 ≡ suc n
add_one {n} = omega arith

-- room for what they need is room for an edit
pub pop_room_of : (fs : List Activation) (pops cells waits c w : ℕ) → Needed fs (pops + 1) c w → c ≤ cells → w ≤ waits → HasPopRoom fs pops cells waits
pop_room_of fs pops cells waits c w h enough wide = record {
  objects = omega (arith, objects_within fs pops (pops + 1) (omega arith), h.objects, enough);
  classes = All-weaker (λ (f : Activation). length f.waits ≤ w) (λ (f : Activation). length f.waits ≤ waits) (λ f k. omega (arith, k, wide)) (take (suc pops) fs) (subst (λ n. All (λ (f : Activation). length f.waits ≤ w) (take n fs)) (add_one {n = pops}) h.classes);
}

pub ruleset needing = (needed_next, needed_all)
