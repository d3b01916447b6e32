use Rattle.std.proofs.Common.{◌≡◌, ◌+◌, ◌∙◌, sym, subst, ℕ, List, length, min}
use Rattle.std.specs.Prelude.{slice_index}
use Rattle.type_definitions.specs.Leaves.{leaves}
use Rattle.type_classes.specs.declared.counting.TheConstants.{CAP}
use Rattle.type_classes.proofs.Firsts.{there}
use Rattle.type_classes.specs.Ordered.{Found}
use Rattle.type_classes.proofs.Ordered.{found_more, count_found}
use Rattle.type_classes.proofs.counting.count_at.Goals as goal

pub returns-then-at-i-clause-found : goal.returns-then-at-i-clause-found
returns-then-at-i-clause-found c =
    let g = c.args.all.now in
    let rank = c.args.rank.now in
    let counts = c.args.counts.now in
    let i = c.args.i in
    let t = c.at-t.result in
    let l = c.if-t-all.true in
    let r : i ≡ slice_index rank t = sym (sym c.at.ensures ∙ c.if-at-i.true) in
    let v = c.count-many.ensures ∙ count_found g c.requires.graph CAP rank counts c.requires.ranked t c.index-all-t.result l (there g t c.index-all-t.result l c.index-all-t.is)
    (subst (λ k. Found 0 (length g) rank (λ x. min CAP (length (leaves g x))) counts k) r c.requires.found) in
    subst (λ (xs : List ℕ). Found 0 (length g) rank (λ x. min CAP (length (leaves g x))) xs (i + 1)) (sym c.put.ensures)
    (found_more 0 (length g) rank c.args.order.now (λ x. min CAP (length (leaves g x))) counts i t c.count-many.result c.requires.order c.requires.len (sym c.at-t.ensures) l v c.requires.found)
