use Rattle.std.proofs.Common.{arith, ◌≡◌, ◌<◌, ℕ, length, sym, ◌∙◌, subst, inl, inr, List, ◌≤◌}
use Rattle.std.specs.List.{Contains}
use Rattle.std.specs.Prelude.{slice_index}
use Rattle.mu_types.specs.Rows.{lists, Holds}
use Rattle.type_classes.specs.Edges.{edge_of}
use Rattle.type_classes.proofs.EdgeLemmas.{contains_more}
use Rattle.std.proofs.lemmas.List.{take_all}
use Rattle.type_classes.proofs.gather.gather.Goals as goal

pub loop-i-preserved : goal.loop-i-preserved
loop-i-preserved c =
    let i = c.loop-i.i in
    let v = c.loop-i.invariant in
    let m = c.in_ok-gather_member.ensures in
    record {
      len = m.len ∙ v.len;
      kept = λ k x h. m.kept k x (v.kept k x h);
      complete = λ k x y l h b p. elim (contains_more c.args.row.now i 0 y c.loop-i-test.true h) [
        | inl q ↦ m.kept k x (v.complete k x y l q b p)
        | inr e ↦ subst (λ z. k < length c.loop-i.buckets → slice_index c.args.block.now z ≡ c.args.s → Holds (lists c.args.links.predecessors.now) z (edge_of k x) → Holds (lists c.gather_member.new.buckets) k x) e (m.complete k x) (subst (λ n. k < n) (sym v.len) l) b p
      ];
      sound = λ k x h. elim (m.sound k x h) [ inl p ↦ v.sound k x p | inr a ↦ inr a ];
    }

pub returns-clause-complete : goal.returns-clause-complete
returns-clause-complete c = λ k x y l h b p.
    let past : length c.args.row.now ≤ c.loop-i.i = omega arith in
    c.loop-i.invariant.complete k x y l (subst (λ (ys : List ℕ). Contains ys y) (sym (take_all c.loop-i.i c.args.row.now past)) h) b p
