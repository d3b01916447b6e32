-- The scalars of a source that is judged fit the first leaves of the parts that it is for.
use Rattle.std.proofs.Common.{◌≡◌, ◌==◌, ℕ, Bool, true, false, List, [], ◌∷◌, ◌++◌, length, Option, Some, None, Ok, Err, if◌then◌else◌, refl, sym, ap, subst, ◌∙◌}
use Rattle.std.proofs.lemmas.List.Concat.{flat_map-cons}
use Rattle.std.proofs.lemmas.List.Elements.{All-head, All-tail, All-append}
use Rattle.std.proofs.lemmas.Grind.{flat_map-append}
use Rattle.demands.specs.declared.fault.Fault.TheVariants.{At}
use Rattle.mu_values.specs.declared.scalars.Scalar.{Scalar}
use Rattle.typed_heap.specs.Fits.{ScalarsFit}
use Rattle.hail_load.specs.declared.fault.LoadKind.TheVariants.{WrongType}
use Rattle.hail_load.specs.declared.tree.Piece.{Piece}
use Rattle.hail_load.specs.declared.tree.Piece.TheVariants as pieces
use Rattle.hail_load.specs.declared.parts.Part.{Part}
use Rattle.hail_load.specs.declared.parts.Part.TheVariants.{Value, Hybrid, Elements}
use Rattle.hail_load.specs.Answering.{IsThere}
use Rattle.hail_load.specs.Code.{Code}
use Rattle.hail_load.specs.Fitting.{Store}
use Rattle.hail_load.specs.Judging.{wanted_by, part_scalars, judged}
use Rattle.hail_load.specs.Parts.{leaves_of, parts_of, ◌>>=◌}
use Rattle.hail_load.specs.Lemmas.Steps.{All_there}
use Rattle.loaded_programs.proofs.Filling.{FitFirst, first_more}
use Rattle.loaded_programs.proofs.Parts.{went, leaves_in, parts_leaves, parts_there}
use Rattle.loaded_programs.proofs.Sources.{Lawful, world_of, is_index, source_fits}

wanted : (place many : ℕ) (o : Option (List Part)) (ps : List Part) → wanted_by place many o ≡ Ok ps → o ≡ Some ps
wanted place many None ps h = cc
wanted place many (Some qs) ps h = by (length qs == many) h
  where
    some_parts : List Part → Option (List Part)
    some_parts xs = Some xs

    by : (b : Bool) → (if b then Ok qs else Err (At WrongType place)) ≡ Ok ps → Some qs ≡ Some ps
    by true k = let same : qs ≡ ps = cc in ap some_parts same
    by false k = cc

module _ (c : Code) (l : Lawful c) (s : Store) where
  part_fits : (part : Part) (p : Piece) (more : List Piece) (ss : List Scalar) → IsThere c.graph part → is_index p ≡ false → part_scalars c s part p more ≡ Ok ss →
      ScalarsFit c.graph (world_of c s.objects) (leaves_of c.graph part) ss
  part_fits (Value t) p more ss low i h = source_fits c l s t p more ss low i h
  part_fits (Hybrid t many) p more ss low i h = cc
  part_fits (Elements t many) p more ss low i h = cc

  abbrev Fit : List Part → List Scalar → Type 0
  Fit parts ss = FitFirst c.graph (world_of c s.objects) (leaves_in c.graph parts) ss

  plain : (part : Part) (parts : List Part) (p : Piece) (ps : List Piece) (ss : List Scalar) → All_there c.graph (part ∷ parts) → is_index p ≡ false →
      ((rs : List Scalar) → judged c s parts ps ≡ Ok rs → Fit parts rs) → (part_scalars c s part p ps >>= λ these. judged c s parts ps >>= λ more. Ok (these ++ more)) ≡ Ok ss → Fit (part ∷ parts) ss
  plain part parts p ps ss a i rest h =
      let one = went (part_scalars c s part p ps) (λ these. judged c s parts ps >>= λ more. Ok (these ++ more)) ss h in
      let two = went (judged c s parts ps) (λ more. Ok (one.0 ++ more)) ss one.2 in
      let same : one.0 ++ two.0 ≡ ss = (let e = two.2 in cc) in
      let here : ScalarsFit c.graph (world_of c s.objects) (leaves_of c.graph part) one.0 = part_fits part p ps one.0 (All-head (IsThere c.graph) part parts a) i one.1 in
      subst (λ (cs : List ℕ). FitFirst c.graph (world_of c s.objects) cs ss) (sym (flat_map-cons (leaves_of c.graph) part parts))
      (subst (FitFirst c.graph (world_of c s.objects) (leaves_of c.graph part ++ leaves_in c.graph parts)) same
      (first_more c.graph (world_of c s.objects) (leaves_of c.graph part) (leaves_in c.graph parts) one.0 two.0 here (rest two.0 two.1)))

  pub judged_fits : (parts : List Part) (ps : List Piece) (ss : List Scalar) → All_there c.graph parts → judged c s parts ps ≡ Ok ss → FitFirst c.graph (world_of c s.objects) (leaves_in c.graph parts) ss
  judged_fits parts [] ss a h = let same : [] ≡ ss = cc in subst (Fit parts) same tt
  judged_fits parts (pieces.Index i ∷ ps) ss a h = judged_fits parts ps ss a h
  judged_fits (part ∷ parts) (pieces.List place many ∷ ps) ss a h =
      let g = c.graph in
      let step = went (wanted_by place many (parts_of g part)) (λ inner. judged c s (inner ++ parts) ps) ss h in
      let are : parts_of g part ≡ Some step.0 = wanted place many (parts_of g part) step.0 step.1 in
      let there : All_there g step.0 = parts_there g l.graph part step.0 (All-head (IsThere g) part parts a) are in
      let more = judged_fits (step.0 ++ parts) ps ss (All-append (IsThere g) step.0 parts there (All-tail (IsThere g) part parts a)) step.2 in
      let same : leaves_in g (step.0 ++ parts) ≡ leaves_in g (part ∷ parts) =
      flat_map-append (leaves_of g) step.0 parts ∙ ap (λ (cs : List ℕ). cs ++ leaves_in g parts) (sym (parts_leaves g l.leaves part step.0 are)) ∙ sym (flat_map-cons (leaves_of g) part parts) in
      subst (λ (cs : List ℕ). FitFirst g (world_of c s.objects) cs ss) same more
  judged_fits (part ∷ parts) (pieces.Number n ∷ ps) ss a h = plain part parts (pieces.Number n) ps ss a refl (λ rs k. judged_fits parts ps rs (All-tail (IsThere c.graph) part parts a) k) h
  judged_fits (part ∷ parts) (pieces.Null n ∷ ps) ss a h = plain part parts (pieces.Null n) ps ss a refl (λ rs k. judged_fits parts ps rs (All-tail (IsThere c.graph) part parts a) k) h
  judged_fits (part ∷ parts) (pieces.Global n ∷ ps) ss a h = plain part parts (pieces.Global n) ps ss a refl (λ rs k. judged_fits parts ps rs (All-tail (IsThere c.graph) part parts a) k) h
  judged_fits (part ∷ parts) (pieces.Object n ∷ ps) ss a h = plain part parts (pieces.Object n) ps ss a refl (λ rs k. judged_fits parts ps rs (All-tail (IsThere c.graph) part parts a) k) h
  judged_fits (part ∷ parts) (pieces.Reference n root ∷ ps) ss a h = plain part parts (pieces.Reference n root) ps ss a refl (λ rs k. judged_fits parts ps rs (All-tail (IsThere c.graph) part parts a) k) h
  judged_fits [] (p ∷ ps) ss a h = cc
