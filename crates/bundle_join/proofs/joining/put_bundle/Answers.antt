use Rattle.std.proofs.Common.{arith, ◌≡◌, ◌∙◌, ◌++◌, ◌∷◌, [], ℕ, List, Ok, length, reverse, take, ap, sym, subst}
use Rattle.std.proofs.lemmas.List.{reverse-reverse}
use Rattle.std.proofs.lemmas.Result.{err_from_is_err_and}
use Rattle.ir_tree.specs.declared.items.Item.{Item}
use Rattle.bundle_join.specs.declared.verdict.Verdict.{Verdict}
use Rattle.bundle_join.specs.Joined.{verdict, with_one, with_bundle}
use Rattle.bundle_join.proofs.Steps.{grows, one_gone, one_fails, bundle_done, goes_wrong, none_left, take_all}
use Rattle.bundle_join.proofs.joining.put_bundle.Goals as goal

pub each-preserved : goal.each-preserved
each-preserved c =
    let e = c.args.kept.now.items in
    let n = c.args.number in
    let i = c.in-Some.item in
    let old = c.each.kept.items in
    let new = c.put.new.kept.items in
    let is : c.in_ok-verdict.verdict ≡ verdict e i = c.in_ok-verdict.ensures ∙ ap (λ (xs : List Item). verdict xs i) c.each.invariant.before in
    let goes : with_one n old i (verdict e i) ≡ Ok new = subst (λ (v : Verdict). with_one n old i v ≡ Ok new) is c.in_ok-put.ensures.items in
    let more = grows n old new i (verdict e i) c.len-earlier.result goes c.each.invariant.within in
    record {
      found = c.in_ok-put.ensures.found;
      before = more.0 ∙ c.each.invariant.before;
      within = more.1;
      rest = one_gone n e old new c.each.left.items c.pop.new.self.items i (with_bundle n e e c.args.bundle) c.in-Some.ensures.items goes c.each.invariant.rest;
    }

pub returns-in_err-put-clause-items : goal.returns-in_err-put-clause-items
returns-in_err-put-clause-items c =
    let p = err_from_is_err_and c.from_residual-in_err-put.result c.from_residual-in_err-put.ensures.1 in
    let e = c.args.kept.now.items in
    let n = c.args.number in
    let i = c.in-Some.item in
    let is : c.in_ok-verdict.verdict ≡ verdict e i = c.in_ok-verdict.ensures ∙ ap (λ (xs : List Item). verdict xs i) c.each.invariant.before in
    let whole = with_bundle n e e c.args.bundle in
    rw (p.1, p.2) (goes_wrong (with_one n c.each.kept.items i c.in_ok-verdict.verdict) whole c.in_err-put.field-0.0 c.put.new.kept.items c.put.new.kept.items
    (λ f h. one_fails n e c.each.kept.items c.each.left.items c.pop.new.self.items i f whole c.in-Some.ensures.items (ap (with_one n c.each.kept.items i) (sym is) ∙ h) c.each.invariant.rest) c.in_err-put.ensures.items)

pub returns-clause-items : goal.returns-clause-items
returns-clause-items c =
    let e = c.args.kept.now.items in
    bundle_done c.args.number e c.each.kept.items c.each.left.items (with_bundle c.args.number e e c.args.bundle) (none_left c.each.left.items (sym c.each.left.ok.0 ∙ c.in_default.ensures.cases.0)) c.each.invariant.rest

pub each-init : goal.each-init
each-init c =
    let e = c.args.kept.now.items in
    record {
      found = c.requires;
      before = ap (λ (m : ℕ). take m e) c.len-earlier.ensures ∙ take_all e;
      within = omega (arith, c.len-earlier.ensures);
      rest = ap (with_bundle c.args.number e e) (ap reverse c.in_ok-left.ensures ∙ reverse-reverse c.args.bundle);
    }
