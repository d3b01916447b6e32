-- Lemmas on the last scalars that lines write to the first cells of objects.
use Rattle.std.specs.Prelude.{◌≡◌, ◌<◌, ℕ, ◌+◌, List, [], ◌∷◌, ◌++◌, Option, None, flat_map, take, length, slice_index_or, refl}
use Rattle.std.proofs.Common.{sym, ◌∙◌, ap, subst, arith, append-nil}
use Rattle.std.proofs.lemmas.List.{take_more}
use Rattle.std.proofs.lemmas.Grind.{flat_map-append}
use Rattle.mu_values.specs.declared.scalars.Scalar.{Scalar}
use Rattle.mu_values.specs.declared.cells.CellId.{CellId}
use Rattle.mu_model.specs.declared.lines.Line.{Line}
use Rattle.seen_runs.specs.Seen.{last_after}
use Rattle.seen_runs.specs.Writes.{first_cell, held, Keeps, AreLast}
use Rattle.seen_runs.proofs.Ends.{after_both}

pub none_kept : (xs : List (Option Scalar)) → Keeps xs xs []
none_kept xs = record { size = refl; each = λ n before l. refl }

-- some lines and then more
both_kept : (xs ys zs : List (Option Scalar)) (ls ms : List Line) → Keeps xs ys ls → Keeps ys zs ms → Keeps xs zs (ls ++ ms)
both_kept xs ys zs ls ms h k = record {
  size = k.size ∙ h.size;
  each = λ n before l. (let size = h.size in
      let there : n < length ys = omega (arith, size, l) in
      k.each n before there ∙ ap (λ (s : Scalar). last_after (first_cell n) s ms) (h.each n before l) ∙ sym (after_both (first_cell n) (held before (slice_index_or xs n None)) ls ms));
}

taken : {A : Type 0} (xs : List A) (k : ℕ) (x : A) → k < length xs → x ≡ slice_index_or xs k x → take (k + 1) xs ≡ take k xs ++ x ∷ []
taken xs k x l e = take_more xs k x l ∙ ap (λ y. take k xs ++ y ∷ []) (sym e)

-- one line more
pub line_kept : (xs ys zs : List (Option Scalar)) (lines : List Line) (k : ℕ) (line : Line) → k < length lines → line ≡ slice_index_or lines k line → Keeps xs ys (take k lines) → Keeps ys zs (line ∷ []) → Keeps xs zs (take (k + 1) lines)
line_kept xs ys zs lines k line l e h g =
    let P : List Line → Type 0 = λ ls. Keeps xs zs ls in subst P (sym (taken lines k line l e)) (both_kept xs ys zs (take k lines) (line ∷ []) h g)

-- the lines of one step more
pub step_kept : (xs ys zs : List (Option Scalar)) (steps : List (List Line)) (k : ℕ) (lines : List Line) → k < length steps → lines ≡ slice_index_or steps k lines → Keeps xs ys (flat_map (λ ls. ls) (take k steps)) → Keeps ys zs lines
    → Keeps xs zs (flat_map (λ ls. ls) (take (k + 1) steps))
step_kept xs ys zs steps k lines l e h g =
    let P : List Line → Type 0 = λ ls. Keeps xs zs ls in
    let flat : List (List Line) → List Line = λ ss. flat_map (λ ls. ls) ss in
    let more : flat (take (k + 1) steps) ≡ flat (take k steps) ++ lines =
    ap flat (taken steps k lines l e) ∙ flat_map-append (λ ls. ls) (take k steps) (lines ∷ []) ∙ ap (λ ls. flat (take k steps) ++ ls) (append-nil lines) in
    subst P (sym more) (both_kept xs ys zs (flat (take k steps)) lines h g)

-- what a cell that is the first of its object holds in the end
pub last_here : (written : List (Option Scalar)) (ls : List Line) (c : CellId) (before : Scalar) → AreLast written ls → c.at ≡ 0 → c.object < length written → held before (slice_index_or written c.object None) ≡ last_after c before ls
last_here written ls c before h first there = h c.object before there ∙ ap (λ (k : ℕ). last_after (record { object = c.object; at = k }) before ls) (sym first)
