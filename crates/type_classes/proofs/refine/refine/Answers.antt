use Rattle.std.proofs.Common.{◌≡◌, ◌<◌, ap, subst, arith, rules, refl, List, ℕ, length, vec_len}
use Rattle.mu_types.specs.Rows.{lists}
use Rattle.type_classes.specs.Blocks.{Listed}
use Rattle.type_classes.specs.Listings.{IsIdentity}
use Rattle.type_classes.specs.Targets.{TargetsFit}
use Rattle.type_classes.proofs.Partitions.{fit_by, identity_fits}
use Rattle.type_classes.proofs.refine.refine.Goals as goal

pub part_blocks-requires-clause-fit : goal.part_blocks-requires-clause-fit
part_blocks-requires-clause-fit c =
    let n = length c.args.definitions.now in
    let b = c.in_ok-block.block in
    let m = c.in_ok-members.members in
    let t = c.in_ok-target.target in
    let bo : vec_len b ≡ length b.items = b.ok.0 in
    let mo : vec_len m ≡ length m.items = m.ok.0 in
    let to : vec_len t ≡ length t.items = t.ok.0 in
    let lent : length c.deref.result.now ≡ length b.items = ap (λ (xs : List ℕ). length xs) c.deref.ensures.value in
    let sized : length b.items ≡ n = omega (arith, bo, c.in_ok-block.ensures.len) in
    let many : n ≡ length m.items = omega (arith, mo, lent, sized, c.in_ok-members.ensures.len) in
    let own : IsIdentity t.items n = search rules in
    let some : 0 < n = search rules in
    let fits : TargetsFit t.items n = identity_fits t.items n (omega (arith, to, c.in_ok-target.ensures.len)) some own in
    fit_by c.args.definitions.now _ b.items t.items m.items refl refl refl sized c.in_ok-block.ensures.keeps
    (subst (λ (xs : List ℕ). Listed xs (lists m.items)) c.deref.ensures.value c.in_ok-members.ensures.listed)
    (subst (λ (k : ℕ). TargetsFit t.items k) many fits)
