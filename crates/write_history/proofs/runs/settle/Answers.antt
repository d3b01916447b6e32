use Rattle.std.proofs.Common.{◌≡◌, length, arith}
use Rattle.write_history.proofs.Settled.{Merged, settled-fourth, third-before, settled-third, second-before, settled-second, first-before}
use Rattle.write_history.proofs.runs.settle.Goals as goal

pub returns-then-count-starts-le-FOURTH-clause-runs : goal.returns-then-count-starts-le-FOURTH-clause-runs
returns-then-count-starts-le-FOURTH-clause-runs c =
    let values = c.args.values.now in
    let a = c.args.order.now.items in
    let b = c.merge.new.order.items in
    let m : Merged values a b c.args.starts.fourth = record { run = c.merge.ensures.run; kept = c.merge.ensures.kept; size = c.merge.ensures.size } in
    let s = m.size in
    let l = c.len-count.ensures in
    let o = c.args.order.now.ok in
    let w = c.if-count-starts-le-FOURTH.true in
    settled-fourth values c.args.starts a b c.requires.runs m (omega (arith, s, l, o, w))

pub merge-requires-2-clause-older : goal.merge-requires-2-clause-older
merge-requires-2-clause-older c =
    let values = c.args.values.now in
    let a = c.args.order.now.items in
    let b = c.merge.new.order.items in
    let m : Merged values a b c.args.starts.fourth = record { run = c.merge.ensures.run; kept = c.merge.ensures.kept; size = c.merge.ensures.size } in
    third-before values c.args.starts a b c.requires.runs m

pub returns-then-count-starts-le-THIRD-clause-runs : goal.returns-then-count-starts-le-THIRD-clause-runs
returns-then-count-starts-le-THIRD-clause-runs c =
    let values = c.args.values.now in
    let a = c.args.order.now.items in
    let b = c.merge.new.order.items in
    let m : Merged values a b c.args.starts.fourth = record { run = c.merge.ensures.run; kept = c.merge.ensures.kept; size = c.merge.ensures.size } in
    let s = m.size in
    let l = c.len-count.ensures in
    let o = c.args.order.now.ok in
    let d = c.merge-2.new.order.items in
    let k : Merged values b d c.args.starts.third = record { run = c.merge-2.ensures.run; kept = c.merge-2.ensures.kept; size = c.merge-2.ensures.size } in
    let t = k.size in
    let n : c.len-count.result ≡ length d = omega (arith, s, l, o, t) in
    let w = c.if-count-starts-le-THIRD.true in
    settled-third values c.args.starts a b c.requires.runs m d k c.len-count.result n (omega (arith, w))

pub merge-requires-3-clause-older : goal.merge-requires-3-clause-older
merge-requires-3-clause-older c =
    let values = c.args.values.now in
    let a = c.args.order.now.items in
    let b = c.merge.new.order.items in
    let m : Merged values a b c.args.starts.fourth = record { run = c.merge.ensures.run; kept = c.merge.ensures.kept; size = c.merge.ensures.size } in
    let s = m.size in
    let l = c.len-count.ensures in
    let o = c.args.order.now.ok in
    let d = c.merge-2.new.order.items in
    let k : Merged values b d c.args.starts.third = record { run = c.merge-2.ensures.run; kept = c.merge-2.ensures.kept; size = c.merge-2.ensures.size } in
    let t = k.size in
    let n : c.len-count.result ≡ length d = omega (arith, s, l, o, t) in
    second-before values c.args.starts a b c.requires.runs m d k c.len-count.result n

pub returns-then-count-starts-le-SECOND-clause-runs : goal.returns-then-count-starts-le-SECOND-clause-runs
returns-then-count-starts-le-SECOND-clause-runs c =
    let values = c.args.values.now in
    let a = c.args.order.now.items in
    let b = c.merge.new.order.items in
    let m : Merged values a b c.args.starts.fourth = record { run = c.merge.ensures.run; kept = c.merge.ensures.kept; size = c.merge.ensures.size } in
    let s = m.size in
    let l = c.len-count.ensures in
    let o = c.args.order.now.ok in
    let d = c.merge-2.new.order.items in
    let k : Merged values b d c.args.starts.third = record { run = c.merge-2.ensures.run; kept = c.merge-2.ensures.kept; size = c.merge-2.ensures.size } in
    let t = k.size in
    let n : c.len-count.result ≡ length d = omega (arith, s, l, o, t) in
    let e = c.merge-3.new.order.items in
    let j : Merged values d e c.args.starts.second = record { run = c.merge-3.ensures.run; kept = c.merge-3.ensures.kept; size = c.merge-3.ensures.size } in
    let u = j.size in
    let f : c.len-count.result ≡ length e = omega (arith, n, u) in
    let w = c.if-count-starts-le-SECOND.true in
    settled-second values c.args.starts a b c.requires.runs m d k c.len-count.result n e j f (omega (arith, w))

pub merge-requires-4-clause-older : goal.merge-requires-4-clause-older
merge-requires-4-clause-older c =
    let values = c.args.values.now in
    let a = c.args.order.now.items in
    let b = c.merge.new.order.items in
    let m : Merged values a b c.args.starts.fourth = record { run = c.merge.ensures.run; kept = c.merge.ensures.kept; size = c.merge.ensures.size } in
    let s = m.size in
    let l = c.len-count.ensures in
    let o = c.args.order.now.ok in
    let d = c.merge-2.new.order.items in
    let k : Merged values b d c.args.starts.third = record { run = c.merge-2.ensures.run; kept = c.merge-2.ensures.kept; size = c.merge-2.ensures.size } in
    let t = k.size in
    let n : c.len-count.result ≡ length d = omega (arith, s, l, o, t) in
    let e = c.merge-3.new.order.items in
    let j : Merged values d e c.args.starts.second = record { run = c.merge-3.ensures.run; kept = c.merge-3.ensures.kept; size = c.merge-3.ensures.size } in
    let u = j.size in
    let f : c.len-count.result ≡ length e = omega (arith, n, u) in
    first-before values c.args.starts a b c.requires.runs m d k c.len-count.result n e j f
