use Rattle.std.proofs.Common.{arith, ◌≡◌, ◌∙◌, ◌+◌, [], ◌∷◌, List, length, sym, ap, reverse}
use Rattle.std.proofs.lemmas.List.{reverse-reverse, length-reverse, length-append}
use Rattle.ir_tree.specs.declared.items.Item.{Item}
use Rattle.std.proofs.lemmas.Result.{err_from_is_err_and}
use Rattle.bundle_join.specs.Joined.{joined, joined_from, with_bundle}
use Rattle.bundle_join.proofs.Steps.{bundle_gone, bundle_fails, bundles_done, answers_wrong, none_left, count_on}
use Rattle.bundle_join.proofs.joining.join.Goals as goal

pub each-preserved : goal.each-preserved
each-preserved c = record {
  found = c.in_ok-put_bundle.ensures.found;
  count = count_on c.each.number c.each.left.items c.pop.new.self.items c.in-Some.bundle (length c.args.bundles) c.in-Some.ensures.items c.each.invariant.count;
  rest = bundle_gone c.each.number c.each.kept.items c.put_bundle.new.kept.items c.each.left.items c.pop.new.self.items c.in-Some.bundle (joined c.args.bundles) c.in-Some.ensures.items c.in_ok-put_bundle.ensures.items c.each.invariant.rest;
}

pub returns-in_err-put_bundle : goal.returns-in_err-put_bundle
returns-in_err-put_bundle c =
    let p = err_from_is_err_and c.from_residual-in_err-put_bundle.result c.from_residual-in_err-put_bundle.ensures.1 in
    let old = c.each.kept.items in
    rw (p.1, p.2) (answers_wrong (with_bundle c.each.number old old c.in-Some.bundle) (joined c.args.bundles) c.in_err-put_bundle.field-0.0 c.put_bundle.new.kept.items
    (λ f h. bundle_fails c.each.number old c.each.left.items c.pop.new.self.items c.in-Some.bundle f (joined c.args.bundles) c.in-Some.ensures.items h c.each.invariant.rest) c.in_err-put_bundle.ensures.items)

pub returns : goal.returns
returns c = bundles_done c.each.number c.each.kept.items c.each.left.items (joined c.args.bundles) (none_left c.each.left.items (sym c.each.left.ok.0 ∙ c.in_default.ensures.cases.0)) c.each.invariant.rest

pub each-init : goal.each-init
each-init c = record {
  found = c.new-kept.ensures.found;
  count = (let long : length c.in_ok-left.left.items ≡ length c.args.bundles = ap length c.in_ok-left.ensures ∙ length-reverse c.args.bundles in omega arith);
  rest = ap (λ (k : List Item). joined_from 0 k (reverse c.in_ok-left.left.items)) c.new-kept.ensures.items ∙ ap (joined_from 0 []) (ap reverse c.in_ok-left.ensures ∙ reverse-reverse c.args.bundles);
}

pub overflow_add-number : goal.overflow_add-number
overflow_add-number c =
    let long : length c.each.left.items ≡ length c.pop.new.self.items + 1 = ap length c.in-Some.ensures.items ∙ length-append c.pop.new.self.items (c.in-Some.bundle ∷ []) in
    omega (arith, c.each.invariant.count, c.requires)
