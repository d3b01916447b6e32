-- Scalars that fit the first of some leaves, and cells that are set to them.
use Rattle.std.proofs.Common.{◌≡◌, ℕ, suc, ◌+◌, List, [], ◌∷◌, ◌++◌, length, take, drop, subst, arith}
use Rattle.type_definitions.specs.declared.definition.TypeDef.{TypeDef}
use Rattle.mu_values.specs.declared.scalars.Scalar.{Scalar}
use Rattle.typed_heap.specs.Fits.{World, ScalarFits, ScalarsFit}

-- there may be leaves behind them
abbrev pub FitFirst : List TypeDef → World → List ℕ → List Scalar → Type 0
FitFirst g w cs [] = Unit {0}
FitFirst g w [] (s ∷ ss) = ⊥
FitFirst g w (c ∷ cs) (s ∷ ss) = ScalarFits g w c s × FitFirst g w cs ss

module _ (g : List TypeDef) (w : World) where
  pub first_more : (cs ds : List ℕ) (ss rs : List Scalar) → ScalarsFit g w cs ss → FitFirst g w ds rs → FitFirst g w (cs ++ ds) (ss ++ rs)
  first_more [] ds [] rs h f = f
  first_more [] ds (s ∷ ss) rs h f = absurd h
  first_more (c ∷ cs) ds [] rs h f = absurd h
  first_more (c ∷ cs) ds (s ∷ ss) rs h f = (h.0, first_more cs ds ss rs h.1 f)

  pub first_behind : (cs ds : List ℕ) (ss : List Scalar) → FitFirst g w cs ss → FitFirst g w (cs ++ ds) ss
  first_behind cs ds [] f = tt
  first_behind [] ds (s ∷ ss) f = absurd f
  first_behind (c ∷ cs) ds (s ∷ ss) f = (f.0, first_behind cs ds ss f.1)

  first_set : (cs : List ℕ) (is ss : List Scalar) → ScalarsFit g w cs is → FitFirst g w cs ss → ScalarsFit g w cs (ss ++ drop (length ss) is)
  first_set cs is [] h f = h
  first_set [] is (s ∷ ss) h f = absurd f
  first_set (c ∷ cs) [] (s ∷ ss) h f = absurd h
  first_set (c ∷ cs) (i ∷ is) (s ∷ ss) h f = (f.0, first_set cs is ss h.1 f.1)

  pub set_fits : (before cs : List ℕ) (is ss : List Scalar) → ScalarsFit g w (before ++ cs) is → FitFirst g w cs ss →
      ScalarsFit g w (before ++ cs) ((take (length before) is ++ ss) ++ drop (length before + length ss) is)
  set_fits [] cs is ss h f =
      let same : length ss ≡ 0 + length ss = omega arith in
      subst (λ (n : ℕ). ScalarsFit g w cs (ss ++ drop n is)) same (first_set cs is ss h f)
  set_fits (b ∷ bs) cs [] ss h f = absurd h
  set_fits (b ∷ bs) cs (i ∷ is) ss h f =
      let same : suc (length bs + length ss) ≡ length (b ∷ bs) + length ss = omega arith in
      subst (λ (n : ℕ). ScalarsFit g w (b ∷ (bs ++ cs)) (((i ∷ take (length bs) is) ++ ss) ++ drop n (i ∷ is))) same (h.0, set_fits bs cs is ss h.1 f)
