use Rattle.std.proofs.Common.{arith, ◌<◌, length, sym, ◌∙◌, subst, inl, inr, List, ◌≤◌}
use Rattle.std.specs.List.{Contains}
use Rattle.mu_types.specs.Rows.{lists, Holds}
use Rattle.type_classes.specs.Edges.{edge_of}
use Rattle.type_classes.proofs.EdgeLemmas.{contains_more}
use Rattle.type_classes.specs.declared.edges.Edge.{Edge}
use Rattle.std.proofs.lemmas.List.{take_all}
use Rattle.type_classes.proofs.gather.gather_one.Goals as goal

pub loop-i-preserved : goal.loop-i-preserved
loop-i-preserved c =
    let i = c.loop-i.i in
    let v = c.loop-i.invariant in
    let m = c.in_ok-gather_edge.ensures in
    record {
      len = m.len ∙ v.len;
      kept = λ k x h. m.kept k x (v.kept k x h);
      complete = λ k x l h. elim (contains_more c.args.edges.now i (edge_of 0 0) (edge_of k x) c.loop-i-test.true h) [
        | inl p ↦ m.kept k x (v.complete k x l p)
        | inr e ↦ subst (λ (z : Edge). z.place < length c.loop-i.buckets → Holds (lists c.gather_edge.new.buckets) z.place z.from) e m.there (subst (λ n. k < n) (sym v.len) l)
      ];
      sound = λ k x h. elim (m.sound k x h) [ inl p ↦ v.sound k x p | inr a ↦ inr a ];
    }

pub returns-clause-complete : goal.returns-clause-complete
returns-clause-complete c = λ k x l h.
    let past : length c.args.edges.now ≤ c.loop-i.i = omega arith in
    c.loop-i.invariant.complete k x l (subst (λ (es : List Edge). Contains es (edge_of k x)) (sym (take_all c.loop-i.i c.args.edges.now past)) h)
