use Rattle.std.proofs.Common.{◌++◌, List, ℕ, ap, ◌∙◌}
use Rattle.std.proofs.lemmas.List.{append_assoc}
use Rattle.type_definitions.specs.Leaves.{times}
use Rattle.mu_types.specs.ListLaws.{times_more}
use Rattle.typed_heap.proofs.objects.append_times.Goals as goal

pub loop-i-preserved : goal.loop-i-preserved
loop-i-preserved c =
    let run = c.args.run.now in
    let old = c.args.leaves.now.items in
    c.in_ok-extend_from_slice.ensures.items ∙ (ap (λ (ys : List ℕ). ys ++ run) c.loop-i.invariant ∙ (append_assoc old (times c.loop-i.i run) run ∙ ap (λ (ys : List ℕ). old ++ ys) (times_more c.loop-i.i run)))
