-- The outcome of a run, as the code makes it, from a list of the globals of one cell; and a proof that it is the outcome as Seen.antt says it.
use Rattle.std.specs.Prelude.{◌≡◌, ℕ, zero, suc, ◌+◌, ◌==◌, Bool, true, false, List, [], ◌∷◌, ◌++◌, Option, Some, None, map, option_map, flat_map, length, slice_get, slice_index_or, codes, if◌then◌else◌, refl}
use Rattle.std.proofs.Common.{sym, ◌∙◌, ap, arith, zero-add}
use Rattle.ir_tree.specs.declared.items.Item.{Item}
use Rattle.mu_values.specs.declared.scalars.Scalar.{Scalar}
use Rattle.mu_values.specs.declared.scalars.Scalar.TheVariants.{Null}
use Rattle.mu_values.specs.declared.cells.CellId.{CellId}
use Rattle.typed_heap.specs.Objects.{HeapObject}
use Rattle.mem_axioms.specs.Objects.{initial_of}
use Rattle.mu_model.specs.declared.lines.Line.{Line}
use Rattle.mu_model.specs.declared.endings.Ending.{Ending}
use Rattle.mu_model.specs.declared.endings.Ending.TheVariants as endings
use Rattle.mu_model.specs.EnteringStacks.{most_threads}
use Rattle.run_texts.specs.EventTexts.{Text, scalar_text}
use Rattle.run_texts.specs.Texts.{note_text, ending_text}
use Rattle.seen_runs.specs.declared.globals.Final.{Final}
use Rattle.seen_runs.specs.Seen.{end_of, thread_ends, last_after, small_cells, last_scalars, cut, seen_at, global_names, small_names, final_texts, seen_text}

-- ---- the globals of one cell

-- the global with that name, whose object has number n, where the object has one cell
abbrev pub small : ℕ → Text → HeapObject → List Final
small n name o = if length o.leaves == 1 then record { name = name; cell = record { object = n; at = 0 }; before = slice_index_or o.initial 0 Null } ∷ [] else []

-- the same of globals with these names, whose objects have the numbers from n on
abbrev pub finals_in : ℕ → List Text → List HeapObject → List Final
finals_in n [] os = []
finals_in n (name ∷ names) [] = []
finals_in n (name ∷ names) (o ∷ os) = small n name o ++ finals_in (suc n) names os

-- ---- the outcome's text, with these globals

abbrev pub line_end : List Item → ℕ → Line → Text
line_end bundle i l = flat_map (λ n. note_text bundle n ++ codes "\n") (end_of i l)

unfoldable pub end_lines : List Item → List Line → Text
end_lines bundle ls = flat_map (λ n. note_text bundle n ++ codes "\n") (thread_ends ls most_threads)

abbrev pub final_line : List Item → List Line → Final → Text
final_line bundle ls f = codes "final " ++ f.name ++ codes " " ++ scalar_text bundle (last_after f.cell f.before ls) ++ codes "\n"

abbrev pub over_text : List Item → List Final → List Line → Ending → Text
over_text bundle fs ls e = end_lines bundle ls ++ flat_map (final_line bundle ls) fs ++ ending_text bundle e ++ codes "\n"

abbrev pub cut_text : List Item → Ending → Text
cut_text bundle e = seen_text bundle [] (cut e)

abbrev pub seen_by : List Item → List Final → List Line → Ending → Option Text
seen_by bundle fs ls endings.Done = Some (over_text bundle fs ls endings.Done)
seen_by bundle fs ls (endings.AllWaiting is) = Some (over_text bundle fs ls (endings.AllWaiting is))
seen_by bundle fs ls (endings.Budget n) = None
seen_by bundle fs ls e = Some (cut_text bundle e)

-- ---- it is the text of the outcome

-- what the first cell of each object holds at the beginning, where the first object has number n
abbrev AreFirst : (CellId → Scalar) → ℕ → List HeapObject → Type 0
AreFirst first n os = (m : ℕ) (o : HeapObject) → slice_get os m ≡ Some o → first (record { object = n + m; at = 0 }) ≡ slice_index_or o.initial 0 Null

first_later : (first : CellId → Scalar) (n : ℕ) (o : HeapObject) (os : List HeapObject) → AreFirst first n (o ∷ os) → AreFirst first (suc n) os
first_later first n o os h m p e =
    let same : suc n + m ≡ n + suc m = omega arith in
    ap (λ k. first (record { object = k; at = 0 })) same ∙ h (suc m) p e

-- one global more, whose object has one cell or another size
final_more : (bundle : List Item) (ls : List Line) (now : CellId → Scalar) (f : Final) (fs : List Final) (names : List Text) (cells : List CellId) (b : Bool) → last_after f.cell f.before ls ≡ now f.cell
    → flat_map (final_line bundle ls) fs ≡ final_texts bundle names (map now cells)
    → flat_map (final_line bundle ls) ((if b then f ∷ [] else []) ++ fs) ≡ final_texts bundle (if b then f.name ∷ names else names) (map now (if b then f.cell ∷ cells else cells))
final_more bundle ls now f fs names cells true s e =
    ap (λ v. codes "final " ++ f.name ++ codes " " ++ scalar_text bundle v ++ codes "\n" ++ flat_map (final_line bundle ls) fs) s
    ∙ ap (λ more. codes "final " ++ f.name ++ codes " " ++ scalar_text bundle (now f.cell) ++ codes "\n" ++ more) e
final_more bundle ls now f fs names cells false s e = e

finals_texts : (bundle : List Item) (ls : List Line) (first : CellId → Scalar) (n : ℕ) (names : List Text) (os : List HeapObject) → AreFirst first n os
    → flat_map (final_line bundle ls) (finals_in n names os) ≡ final_texts bundle (small_names names os) (map (λ cell. last_after cell (first cell) ls) (small_cells n (length names) os))
finals_texts bundle ls first n [] os h = refl
finals_texts bundle ls first n (name ∷ names) [] h = refl
finals_texts bundle ls first n (name ∷ names) (o ∷ os) h =
    let same : n ≡ n + 0 = omega arith in
    let own : CellId = record { object = n; at = 0 } in
    let begins : first own ≡ slice_index_or o.initial 0 Null = ap (λ k. first (record { object = k; at = 0 })) same ∙ h 0 o refl in
    final_more bundle ls (λ cell. last_after cell (first cell) ls) (record { name = name; cell = own; before = slice_index_or o.initial 0 Null }) (finals_in (suc n) names os) (small_names names os) (small_cells (suc n) (length names) os) (length o.leaves == 1)
    (ap (λ v. last_after own v ls) (sym begins)) (finals_texts bundle ls first (suc n) names os (first_later first n o os h))

initial_at : (os : List HeapObject) (m : ℕ) (o : HeapObject) → slice_get os m ≡ Some o → slice_index_or (map (λ (o : HeapObject). o.initial) os) m [] ≡ o.initial
initial_at [] m o e = cc
initial_at (p ∷ os) zero o e = let same : p ≡ o = cc in ap (λ (o : HeapObject). o.initial) same
initial_at (p ∷ os) (suc m) o e = initial_at os m o e

are_first : (os : List HeapObject) → AreFirst (initial_of (map (λ (o : HeapObject). o.initial) os)) 0 os
are_first os m o e = ap (λ k. slice_index_or (slice_index_or (map (λ (o : HeapObject). o.initial) os) k []) 0 Null) (zero-add m) ∙ ap (λ vs. slice_index_or vs 0 Null) (initial_at os m o e)

over_so : (bundle : List Item) (os : List HeapObject) (ls : List Line) (e : Ending) → over_text bundle (finals_in 0 (global_names bundle) os) ls e
    ≡ end_lines bundle ls ++ final_texts bundle (small_names (global_names bundle) os) (last_scalars (length (global_names bundle)) os ls) ++ ending_text bundle e ++ codes "\n"
over_so bundle os ls e = ap (λ t. end_lines bundle ls ++ t ++ ending_text bundle e ++ codes "\n") (finals_texts bundle ls (initial_of (map (λ (o : HeapObject). o.initial) os)) 0 (global_names bundle) os (are_first os))

pub seen_so : (bundle : List Item) (os : List HeapObject) (ls : List Line) (e : Ending)
    → seen_by bundle (finals_in 0 (global_names bundle) os) ls e ≡ option_map (seen_text bundle os) (seen_at (length (global_names bundle)) os ls e)
unfolding end_lines
seen_so bundle os ls endings.Done = ap Some (over_so bundle os ls endings.Done)
seen_so bundle os ls (endings.AllWaiting is) = ap Some (over_so bundle os ls (endings.AllWaiting is))
seen_so bundle os ls (endings.Budget n) = refl
seen_so bundle os ls endings.Stop = refl
seen_so bundle os ls (endings.Undefined k i block at r) = refl
seen_so bundle os ls (endings.HeapFull i asked left) = refl
seen_so bundle os ls (endings.ThreadsFull i) = refl
