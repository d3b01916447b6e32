-- Classes of accepted bundles are numbers of types, and widths are small.
use Rattle.std.proofs.Common.{◌≡◌, ℕ, suc, ◌<◌, List, [], ◌∷◌, Some, length, slice_get, arith, refl}
use Rattle.std.specs.List.{All}
use Rattle.std.proofs.lemmas.Option.{slice_get_within}
use Rattle.std.proofs.lemmas.List.Elements.{All-nil, All-cons}
use Rattle.checked_code.specs.Checking.{bundle_tables}
use Rattle.bundle_laws.specs.Lemmas.Tables.{tables_fit}
use Rattle.mu_model.specs.Types.{type_graph}
use Rattle.bundle_facts.specs.Facts.{WidthsAreNarrow, GlobalsAreTypes}
use Rattle.bundle_facts.specs.Lemmas.Accepted.{widths_are_allowed, irefs_are_defined}

all_from : {A : Type 0} (P : A → Type 0) (xs : List A) → ((n : ℕ) (x : A) → slice_get xs n ≡ Some x → P x) → All P xs
all_from P [] h = All-nil P
all_from P (x ∷ xs) h = All-cons P x xs (h 0 x refl) (all_from P xs (λ n y e. h (suc n) y e))

pub widths_are_narrow : WidthsAreNarrow
widths_are_narrow = λ bundle named checked t w h. let k = (widths_are_allowed bundle named checked t w h).1 in omega (arith, k)

pub globals_are_types : GlobalsAreTypes
globals_are_types = λ bundle named checked.
    all_from (λ c. c < length (type_graph (bundle_tables bundle))) (bundle_tables bundle).global_cells
    (λ n c h. let cell = (tables_fit bundle named checked).cells n c h in
    slice_get_within (type_graph (bundle_tables bundle)) c _ (irefs_are_defined bundle named checked cell.0 c cell.1).definition)
