-- Nothing that a reader believes of a search rests on this. It is that zeros at the end of a schedule may be left out: a spent one picks 0.
use Rattle.std.specs.Prelude.{◌≡◌, ◌<◌, ◌≤◌, ◌-◌, ℕ, zero, suc, ◌%◌, List, [], ◌∷◌, ◌++◌, take, length, refl}
use Rattle.std.proofs.Common.{sym, ◌∙◌, ap, subst, arith, get_or, append_assoc}
use Rattle.std.proofs.Math.Nat.{mod-eq_of_lt}
use Rattle.std.proofs.lemmas.List.{append-nil}
use Rattle.mu_model.specs.declared.lines.Line.{Line}
use Rattle.mu_model.specs.declared.endings.Ending.{Ending}
use Rattle.mu_model.specs.Configuration.{Configuration}
use Rattle.mu_model.specs.Acts.{Program}
use Rattle.mu_model.specs.Run.{run}
use Rattle.odometer.specs.Trees.{Tree, Leaf, Node, leaf}
use Rattle.search_laws.specs.Moved.{with_picks, run_tree, RunsAreTrees}
use Rattle.run_search.specs.Playing.{IsRun}
use Rattle.run_search.specs.Steps.{RunsTo}

abbrev pub zeros : ℕ → List ℕ
zeros zero = []
zeros (suc n) = 0 ∷ zeros n

-- the numbers without some zeros at their end
pub record IsCut (before after : List ℕ) : Type 0 where
  pub many : ℕ
  pub is : before ≡ after ++ zeros many

-- ---- zeros are cut off

take_whole : (xs : List ℕ) → take (length xs) xs ≡ xs
take_whole [] = refl
take_whole (x ∷ xs) = ap (λ ys. x ∷ ys) (take_whole xs)

take_one_more : (xs : List ℕ) (n last : ℕ) → n < length xs → last ≡ get_or xs n last → take (suc n) xs ≡ take n xs ++ (last ∷ [])
take_one_more [] n last l e = absurd (omega (arith, l))
take_one_more (x ∷ xs) zero last l e = ap (λ y. y ∷ []) (sym e)
take_one_more (x ∷ xs) (suc n) last l e = ap (λ ys. x ∷ ys) (take_one_more xs n last (omega (arith, l)) e)

pub cut_none : (xs : List ℕ) → IsCut xs (take (length xs) xs)
cut_none xs = record { many = 0; is = sym (take_whole xs) ∙ sym (append-nil (take (length xs) xs)) }

pub cut_more : (xs : List ℕ) (count last : ℕ) → 0 < count → count ≤ length xs → last ≡ get_or xs (count - 1) last → last ≡ 0 → IsCut xs (take count xs) → IsCut xs (take (count - 1) xs)
cut_more xs count last some low at none cut =
    let n : ℕ = count - 1 in
    let whole : count ≡ suc n = omega (arith, some) in
    let within : n < length xs = omega (arith, some, low) in
    record {
      many = suc cut.many;
      is =
          cut.is ∙ ap (λ k. take k xs ++ zeros cut.many) whole ∙ ap (λ ys. ys ++ zeros cut.many) (take_one_more xs n last within at)
          ∙ append_assoc (take n xs) (last ∷ []) (zeros cut.many) ∙ ap (λ y. take n xs ++ (y ∷ zeros cut.many)) none;
    }

pub cut_all : (xs : List ℕ) (count : ℕ) → count ≤ 0 → IsCut xs (take count xs) → IsCut xs []
cut_all xs count none cut = let empty : count ≡ 0 = omega (arith, none) in record { many = cut.many; is = cut.is ∙ ap (λ k. take k xs ++ zeros cut.many) empty }

pub ruleset cutting = (cut_none, cut_more, cut_all)

-- ---- and lead to the same leaf

module _ {A : Type 0} where
  leaf_spent : (t : Tree A) (n : ℕ) → leaf t (zeros n) ≡ leaf t []
  leaf_spent t zero = refl
  leaf_spent (Leaf a) (suc n) = refl
  leaf_spent (Node m kids) (suc n) =
      let first : 0 % suc (suc m) ≡ 0 = mod-eq_of_lt (omega arith) in
      ap (λ k. leaf (kids k) (zeros n)) first ∙ leaf_spent (kids 0) n

  leaf_zeros : (t : Tree A) (ps : List ℕ) (n : ℕ) → leaf t (ps ++ zeros n) ≡ leaf t ps
  leaf_zeros (Leaf a) ps n = refl
  leaf_zeros (Node m kids) [] n = leaf_spent (Node m kids) n
  leaf_zeros (Node m kids) (p ∷ ps) n = leaf_zeros (kids (p % suc (suc m))) ps n

  pub leaf_cut : (t : Tree A) (before after : List ℕ) → IsCut before after → leaf t before ≡ leaf t after
  leaf_cut t before after cut = ap (leaf t) cut.is ∙ leaf_zeros t after cut.many

-- so the run is the same
pub run_cut : RunsAreTrees → (p : Program) (n : ℕ) (c : Configuration) (before after : List ℕ) (lines : List Line) (e : Ending) → IsCut before after → RunsTo p n c before lines e → RunsTo p n c after lines e
run_cut trees p n c before after lines e cut h =
    let same : run p n (with_picks before c) ≡ run p n (with_picks after c) = trees p n c before ∙ leaf_cut (run_tree p n c) before after cut ∙ sym (trees p n c after) in
    record { is = subst (λ r. IsRun r lines e) same h.is }
