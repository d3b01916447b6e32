-- The actions of an entry one by one.
use Rattle.std.specs.Prelude.{◌≡◌, ℕ, zero, suc, ◌+◌, ◌<◌, List, [], ◌∷◌, ◌++◌, Option, Some, None, flat_map, slice_get, drop, refl}
use Rattle.std.proofs.Common.{sym, ◌∙◌, ap, append_assoc, add-one}
use Rattle.frames.specs.Activations.{Activation}
use Rattle.typed_heap.specs.Places.{with_some}
use Rattle.mu_model.specs.declared.lines.Note.{Note}
use Rattle.mu_model.specs.declared.lines.Note.TheVariants.{Frame}
use Rattle.mu_model.specs.Answers.{frame_notes}

-- ---- frames from the top

drop_at : {A : Type 0} (xs : List A) (n : ℕ) (x : A) → slice_get xs n ≡ Some x → drop n xs ≡ x ∷ drop (suc n) xs
drop_at [] zero x h = cc
drop_at [] (suc n) x h = cc
drop_at (y ∷ ys) zero x h = let same : y ≡ x = cc in ap (λ z. z ∷ ys) same
drop_at (y ∷ ys) (suc n) x h = drop_at ys n x h

pub next_frame : (fs : List Activation) (n : ℕ) (f : Activation) (notes after total : List Note) → slice_get fs n ≡ Some f → after ≡ notes ++ Frame n f.block f.at ∷ []
    → total ≡ notes ++ frame_notes n (drop n fs) → total ≡ after ++ frame_notes (n + 1) (drop (n + 1) fs)
next_frame fs n f notes after total there is so =
    rw add-one (so ∙ ap (λ gs. notes ++ frame_notes n gs) (drop_at fs n f there)
    ∙ sym (append_assoc notes (Frame n f.block f.at ∷ []) (frame_notes (suc n) (drop (suc n) fs))) ∙ ap (λ ns. ns ++ frame_notes (suc n) (drop (suc n) fs)) (sym is))

-- ---- records

-- further records behind those that are there
abbrev pub after : List Note → Option (List Note) → Option (List Note)
after notes more = with_some more (λ ns. Some (notes ++ ns))

flat_more : (o : Option (List Note)) (rest : Option (List (List Note))) → with_some (with_some o (λ n. with_some rest (λ more. Some (n ∷ more)))) (λ ns. Some (flat_map (λ n. n) ns)) ≡ with_some o (λ n. after n (with_some rest (λ ns. Some (flat_map (λ n. n) ns))))
flat_more None rest = refl
flat_more (Some n) None = refl
flat_more (Some n) (Some more) = refl

after_some : (notes now : List Note) (o rest : Option (List Note)) → with_some o (λ ns. Some (notes ++ ns)) ≡ Some now → after notes (with_some o (λ n. after n rest)) ≡ after now rest
after_some notes now None rest h = cc
after_some notes now (Some n) None h = refl
after_some notes now (Some n) (Some more) h = let same : notes ++ n ≡ now = cc in ap Some (sym (append_assoc notes n more) ∙ ap (λ ns. ns ++ more) same)
