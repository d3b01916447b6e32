use Rattle.std.proofs.Common.{arith, ℕ, ◌≡◌, ◌<◌, length, sym, ◌∙◌, subst, Some, inl, inr, List}
use Rattle.type_definitions.specs.Partition.{arg}
use Rattle.mu_types.specs.Rows.{lists, Holds}
use Rattle.type_classes.specs.Edges.{edge_of}
use Rattle.type_classes.specs.Leads.{IsForward}
use Rattle.std.proofs.lemmas.Bool.{cases_eq}
use Rattle.type_classes.proofs.Leads.{arg_from, empty_forward}
use Rattle.mu_types.specs.ListLaws.{lent_back}
use Rattle.std.proofs.Common.{take, drop, ◌++◌, Vec, Global}
use Rattle.type_classes.specs.declared.edges.Edge.{Edge}
use Rattle.type_classes.proofs.preds.predecessors.Goals as goal

pub loop-x-preserved : goal.loop-x-preserved
loop-x-preserved c =
    let m = c.in_ok-add_edges.ensures in
    let v = c.loop-x.invariant in
    let back : take c.loop-x.preds.len (c.add_edges.new.preds ++ drop (length c.add_edges.new.preds) c.loop-x.preds.items) ≡ c.add_edges.new.preds = lent_back c.add_edges.new.preds c.loop-x.preds.items c.loop-x.preds.len (m.len ∙ c.deref_mut.ensures.len) in
    record {
      len = v.len;
      there = λ x k y l a. subst (λ (ps : List (Vec Edge Global)). Holds (lists ps) y (edge_of k x)) (sym back) (elim (cases_eq x c.loop-x.x) [
        | inl q ↦ subst (λ w. Holds (lists c.add_edges.new.preds) y (edge_of k w)) (sym q) (m.there k y (subst (λ w. arg c.args.definitions.now w k ≡ Some y) q a))
        | inr n ↦ m.kept y (edge_of k x) (subst (λ (ps : List (Vec Edge Global)). Holds (lists ps) y (edge_of k x)) (sym c.deref_mut.ensures.value) (v.there x k y (omega arith) a))
      ]);
      sound = subst (λ (ps : List (Vec Edge Global)). IsForward c.args.definitions.now (lists ps)) (sym back) (m.sound (subst (λ (ps : List (Vec Edge Global)). IsForward c.args.definitions.now (lists ps)) (sym c.deref_mut.ensures.value) v.sound));
    }

pub loop-x-init : goal.loop-x-init
loop-x-init c = record {
  len = omega (arith, c.loop-y.invariant.len, c.loop-y-test.false, c.loop-y.auto.y-end);
  there = λ x k y l a. absurd (none_below x l);
  sound = empty_forward c.args.definitions.now (lists c.loop-y.preds.items) c.loop-y.invariant.none;
}
  where
    none_below : (k : ℕ) → k < 0 → ⊥
    none_below k l = omega arith

pub returns-clause-back : goal.returns-clause-back
returns-clause-back c = λ x k y a. let l : x < length c.args.definitions.now = arg_from c.args.definitions.now x k y a in c.loop-x.invariant.there x k y (omega arith) a
