-- Of a partition while it is refined.
use Rattle.std.proofs.Common.{◌≡◌, ℕ, ◌<◌, List, [], length, Some, sym, subst, arith, ◌⊎◌, inl, inr, get_or, Vec, Global}
use Rattle.std.specs.Prelude.{slice_index, slice_index_or, slice_set}
use Rattle.std.specs.List.{Contains}
use Rattle.std.proofs.lemmas.Bool.{cases_lt}
use Rattle.std.proofs.lemmas.List.{get_or_past}
use Rattle.type_definitions.specs.declared.definition.TypeDef.{TypeDef}
use Rattle.type_definitions.specs.Partition.{Keeps, arg}
use Rattle.type_classes.specs.declared.edges.Edge.{Edge}
use Rattle.type_classes.specs.declared.refine.Partition.{Partition}
use Rattle.type_classes.specs.Blocks.{Listed}
use Rattle.type_classes.specs.Edges.{edge_of}
use Rattle.type_classes.specs.Leads.{LeadsTo, AreClosed}
use Rattle.type_classes.specs.Listings.{IsIdentity}
use Rattle.type_classes.specs.Partitions.{IsFit, AreFilled, AreLinked}
use Rattle.mu_types.specs.Rows.{lists, Holds}
use Rattle.type_classes.specs.Targets.{TargetsFit}
use Rattle.type_classes.proofs.Leads.{arg_from, gathered_closed, emptied_closed}
use Rattle.type_classes.proofs.RowLemmas.{length-lists, emptied_held}

-- a partition whose vectors hold these lists
pub fit_by : (g : List TypeDef) (p : Partition) (block target : List ℕ) (members : List (Vec ℕ Global))
    → p.block.items ≡ block → p.members.items ≡ members → p.target.items ≡ target
    → length block ≡ length g → Keeps g block → Listed block (lists members) → TargetsFit target (length members) → IsFit g p
fit_by g p block target members b m t sized keeps listed fits = record {
  sized = subst (λ (xs : List ℕ). length xs ≡ length g) (sym b) sized;
  keeps = subst (λ (xs : List ℕ). Keeps g xs) (sym b) keeps;
  listed = subst (λ (xs : List ℕ). Listed xs (lists p.members.items)) (sym b) (subst (λ (ys : List (Vec ℕ Global)). Listed block (lists ys)) (sym m) listed);
  target = subst (λ (xs : List ℕ). TargetsFit xs (length p.members.items)) (sym t) (subst (λ (ys : List (Vec ℕ Global)). TargetsFit target (length ys)) (sym m) fits);
}

-- each block goes to itself
pub identity_fits : (target : List ℕ) (n : ℕ) → length target ≡ n → 0 < n → IsIdentity target n → TargetsFit target n
identity_fits target n e some own b = elim (cases_lt b n) [
  | inl l ↦ subst (λ w. w < n) (sym (own b l)) l
  | inr past ↦ subst (λ w. w < n) (sym (get_or_past target b 0 (omega (arith, e, past)))) some
]

pub none_filled : (g : List TypeDef) (rows : List (Vec ℕ Global)) → ((x : ℕ) → slice_index_or (lists rows) x [] ≡ []) → AreFilled g rows
none_filled g rows h = record { within = λ k x c. absurd (none k x c); closed = λ k a b la lb s c. absurd (none k a c) }
  where
    no_item : (k : ℕ) → k < 0 → ⊥
    no_item k m = omega arith

    none : (k x : ℕ) → Holds (lists rows) k x → ⊥
    none k x c = let d : Contains [] x = subst (λ (r : List ℕ). Contains r x) (h k) c in no_item d.0 d.1

pub emptied_filled : (g : List TypeDef) (old new : List (Vec ℕ Global)) (i : ℕ) → i < length old → lists new ≡ slice_set (lists old) i [] → AreFilled g old → AreFilled g new
emptied_filled g old new i m e f =
    let l : i < length (lists old) = omega (arith, length-lists old, m) in
    record {
      within = λ k x h. let q = emptied_held (lists old) i k x l (subst (λ (r : List (List ℕ)). Holds r k x) e h) in f.within k x q.0;
      closed = subst (λ (r : List (List ℕ)). AreClosed g r) (sym e) (emptied_closed g (lists old) i l f.closed);
    }

-- the buckets, when what leads into a block is gathered
pub gathered_filled : (g : List TypeDef) (p : Partition) (preds : List (Vec Edge Global)) (block row : List ℕ) (s : ℕ) (old new : List (Vec ℕ Global))
    → block ≡ p.block.items → row ≡ slice_index_or (lists p.members.items) s []
    → IsFit g p → AreLinked g preds
    → ((x k y : ℕ) → arg g x k ≡ Some y → k < length old)
    → ((k x : ℕ) → Holds (lists old) k x → Holds (lists new) k x)
    → ((k x y : ℕ) → k < length old → Contains row y → slice_index block y ≡ s → Holds (lists preds) y (edge_of k x) → Holds (lists new) k x)
    → ((k x : ℕ) → Holds (lists new) k x → Holds (lists old) k x ⊎ LeadsTo g block s x k)
    → AreFilled g old → AreFilled g new
gathered_filled g p preds block row s old new e r fit linked wide kept complete sound filled =
    let sized = fit.sized in
    record {
      within = λ k x h. elim (sound k x h) [
        | inl q ↦ filled.within k x q
        | inr t ↦ arg_from g x k t.0 t.1
      ];
      closed = gathered_closed g linked.graph block (lists preds) row s (lists old) (lists new)
          (subst (λ (b : List ℕ). Keeps g b) (sym e) fit.keeps) linked.back
          (λ y l q. subst (λ (xs : List ℕ). Contains xs y) (sym r) (subst (λ b. Contains (get_or (lists p.members.items) b []) y) (subst (λ (b : List ℕ). slice_index b y ≡ s) e q) (fit.listed y (omega (arith, sized, l)))))
          (λ x k y a. subst (λ n. k < n) (sym (length-lists old)) (wide x k y a))
          kept
          (λ k x y l h q a. complete k x y (subst (λ n. k < n) (length-lists old) l) h q a)
          sound filled.closed;
    }
