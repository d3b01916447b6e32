use Rattle.std.proofs.Common.{◌≡◌, ◌<◌, ◌++◌, ◌∷◌, [], false, List, ℕ, length, slice_get, vec_len, refl, subst, sym, ◌∙◌}
use Rattle.std.proofs.lemmas.Bool.{false≢true}
use Rattle.checked_code.specs.ConstantMembers.{is_ready_at}
use Rattle.bundle_constants.proofs.Passes.{IsPass, kept_more, fewer_kept, is_empty}
use Rattle.bundle_constants.proofs.making.pass.Goals as goal

pub each-preserved : goal.each-preserved
each-preserved c =
    let constants = c.args.constants.now in
    let many = length c.args.constants.now in
    let total = vec_len c.args.left in
    let ready : is_ready_at c.each.making.done.items (slice_get constants c.in-Some.n) ≡ false =
    subst (λ done. is_ready_at done (slice_get constants c.in-Some.n) ≡ false) c.deref.ensures.value (sym c.is_constant_ready.ensures ∙ c.if-is_constant_ready.false) in
    let popped : c.each.left.items ≡ c.pop.new.self.items ++ c.in-Some.n ∷ [] = c.in-Some.ensures.items in
    record {
      making = c.each.invariant.making;
      state = subst (λ (kept : List ℕ). IsPass many total constants c.each.making.done.items c.pop.new.self.items kept) (sym c.in_ok-push.ensures.items)
          (kept_more many total constants c.each.making.done.items c.each.left.items c.pop.new.self.items c.each.kept.items c.in-Some.n popped ready c.each.invariant.state);
    }

pub returns-clause-fewer : goal.returns-clause-fewer
returns-clause-fewer c =
    let constants = c.args.constants.now in
    let long : vec_len c.each.left ≡ length c.each.left.items = c.each.left.ok.0 in
    let none : 0 < length c.each.left.items → ⊥ = λ some. false≢true (c.in_default.ensures.variant.1 (subst (λ (n : ℕ). 0 < n) (sym long) some)) in
    let kept : vec_len c.each.kept ≡ length c.each.kept.items = c.each.kept.ok.0 in
    λ some. subst (λ (n : ℕ). n < vec_len c.args.left) (sym kept)
    (fewer_kept c.args.classes.now.definitions (length c.args.constants.now) (vec_len c.args.left) constants c.each.making.done.items c.each.left.items c.each.kept.items c.requires.lawful
    refl (is_empty c.each.left.items none) c.each.invariant.state some)
