use Rattle.std.proofs.Common.{arith, ◌≡◌, ◌<◌, Some, length, sym, ◌∙◌, ap, subst, inl, inr, get_or}
use Rattle.type_definitions.specs.Definition.{arguments}
use Rattle.mu_types.specs.Rows.{lists, Holds}
use Rattle.type_classes.proofs.RowLemmas.{length-lists, pushed_kept, pushed_there}
use Rattle.type_definitions.specs.Partition.{arg}
use Rattle.type_classes.specs.Edges.{edge_of}
use Rattle.type_classes.proofs.Leads.{arg_in, arg_bound, arg_there, pushed_forward}
use Rattle.std.proofs.lemmas.Bool.{cases_eq}
use Rattle.type_classes.proofs.preds.add_edges.Goals as goal

pub loop-k-preserved : goal.loop-k-preserved
loop-k-preserved c =
    let k = c.loop-k.k in
    let v = c.loop-k.invariant in
    let x = c.args.x in
    let definitions = c.args.definitions.now in
    let d = c.index-definitions-x.result in
    let xs = arguments d in
    let to = c.argument.result in
    let m : k < length xs = omega (arith, c.arity-k-end.ensures, c.loop-k-test.true) in
    let l : to < length (lists c.loop-k.preds) = subst (λ n. to < n) (sym (length-lists c.loop-k.preds ∙ (v.len ∙ c.requires.preds))) (subst (λ w. w < length definitions) (sym c.argument.ensures) (arg_bound definitions c.requires.graph x k d xs c.requires.x (ap arguments c.index-definitions-x.is) m)) in
    let e = c.in_ok-push_to.ensures.added in
    record {
      len = c.in_ok-push_to.ensures.len ∙ v.len;
      kept = λ y d h. pushed_kept (lists c.loop-k.preds) (lists c.push_to.new.rows) to (edge_of k x) e l y d (v.kept y d h);
      there = λ j y lj a. elim (cases_eq j k) [
        | inl q ↦
            let r = arg_in definitions x j y d xs c.requires.x (ap arguments c.index-definitions-x.is) a in
            subst (λ w. Holds (lists c.push_to.new.rows) w (edge_of j x)) r.1 (subst (λ i. Holds (lists c.push_to.new.rows) (get_or xs i 0) (edge_of i x)) (sym q) (subst (λ w. Holds (lists c.push_to.new.rows) w (edge_of k x)) c.argument.ensures (pushed_there (lists c.loop-k.preds) (lists c.push_to.new.rows) to (edge_of k x) e l)))
        | inr n ↦ pushed_kept (lists c.loop-k.preds) (lists c.push_to.new.rows) to (edge_of k x) e l y (edge_of j x) (v.there j y (omega arith) a)
      ];
      sound = λ f. pushed_forward definitions (lists c.loop-k.preds) (lists c.push_to.new.rows) to (edge_of k x) e l (subst (λ w. arg definitions x k ≡ Some w) (sym c.argument.ensures) (arg_there definitions x k d xs c.requires.x (ap arguments c.index-definitions-x.is) m)) (v.sound f);
    }

pub overflow_cast-k : goal.overflow_cast-k
overflow_cast-k c =
    let d = c.index-definitions-x.result in
    let m : c.loop-k.k < length (arguments d) = omega (arith, c.arity-k-end.ensures, c.loop-k-test.true) in
    let h = c.requires.narrow c.args.x c.loop-k.k (get_or (arguments d) c.loop-k.k 0) (arg_there c.args.definitions.now c.args.x c.loop-k.k d (arguments d) c.requires.x (ap arguments c.index-definitions-x.is) m) in
    omega (arith, h)

pub returns-clause-there : goal.returns-clause-there
returns-clause-there c = λ k y a.
    let d = c.index-definitions-x.result in
    let l : k < length (arguments d) = (arg_in c.args.definitions.now c.args.x k y d (arguments d) c.requires.x (ap arguments c.index-definitions-x.is) a).0 in
    c.loop-k.invariant.there k y (omega (arith, l, c.arity-k-end.ensures)) a
