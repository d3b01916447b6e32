use Rattle.std.proofs.Common.{◌≡◌, ◌<◌, ◌+◌, ◌∙◌, ap, arith, length, ◌++◌, ◌∷◌, []}
use Rattle.type_classes.proofs.References.{complete_step, referred_step}
use Rattle.type_classes.proofs.completing.complete_graph.Goals as goal

pub loop-t-preserved : goal.loop-t-preserved
loop-t-preserved c =
    let w = c.args.written.items in
    let all = c.loop-t.all.items in
    let t = c.loop-t.t in
    let inv = c.loop-t.invariant in
    let m = c.in_ok-refer.ensures in
    let lt : t < length w + 1 = omega (arith, c.loop-t-test.true, c.len-n.ensures) in
    let la : t < length all = omega (arith, lt, inv.enough) in
    let e : c.len.result ≡ length all = omega (arith, c.len.ensures) in
    let g : c.push.new.self.items ≡ c.loop-t.first.items ++ length all ∷ [] = c.in_ok-push.ensures.items ∙ ap (λ n. c.loop-t.first.items ++ n ∷ []) e in
    record {
      all = complete_step w all c.refer.new.all.items t lt inv.all m.added;
      first = referred_step all c.refer.new.all.items c.loop-t.first.items c.push.new.self.items t la (omega (arith, inv.len)) g m.added inv.first;
      len = c.in_ok-push.ensures.len ∙ ap (λ k. k + 1) inv.len;
      enough = omega (arith, inv.enough, m.grows);
      few = omega (arith, inv.few, m.few);
    }
