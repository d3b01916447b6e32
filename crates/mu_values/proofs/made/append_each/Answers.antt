use Rattle.std.proofs.Common.{◌++◌, take, sym, ap, ◌∙◌}
use Rattle.std.specs.Prelude.{slice_index_or}
use Rattle.std.specs.List.{flat_map}
use Rattle.std.proofs.lemmas.List.{flat_map_more, take_more}
use Rattle.mu_values.specs.Constants.{value_at}
use Rattle.mu_values.proofs.made.append_each.Goals as goal

pub loop-n-preserved : goal.loop-n-preserved
loop-n-preserved c =
    let f = value_at c.args.made.now in
    let old = c.args.out.now.items in
    let xs = c.args.constants.now in
    let i = c.loop-n.n-index in
    let x = slice_index_or xs i 0 in
    c.in_ok-append_value.ensures ∙ ap (λ r. r ++ f x) c.loop-n.invariant ∙ flat_map_more f old (take i xs) x ∙ ap (λ r. old ++ flat_map f r) (sym (take_more xs i 0 c.loop-n-test.true))
