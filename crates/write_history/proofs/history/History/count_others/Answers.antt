use Rattle.std.proofs.Common.{arith}
use Rattle.write_history.proofs.Occurring.{occurrences-take, occurrences-within}
use Rattle.write_history.proofs.history.History.count_others.Goals as goal

pub overflow_sub-same : goal.overflow_sub-same
overflow_sub-same g c =
    let a = c.count_below-before.ensures.count in
    let b = c.count_below-upto.ensures.count in
    let l = occurrences-take c.args.value c.args.self.now.values c.args.from c.args.end c.requires.from in
    omega (arith, a, b, l)

pub overflow_sub-result : goal.overflow_sub-result
overflow_sub-result g c =
    let a = c.count_below-before.ensures.count in
    let b = c.count_below-upto.ensures.count in
    let l = occurrences-take c.args.value c.args.self.now.values c.args.from c.args.end c.requires.from in
    let w = occurrences-within c.args.value c.args.self.now.values c.args.from c.args.end c.requires.from c.requires.end in
    let r = c.requires.from in
    omega (arith, a, b, l, w, r)

pub returns-clause-count : goal.returns-clause-count
returns-clause-count g c =
    let a = c.count_below-before.ensures.count in
    let b = c.count_below-upto.ensures.count in
    let l = occurrences-take c.args.value c.args.self.now.values c.args.from c.args.end c.requires.from in
    let w = occurrences-within c.args.value c.args.self.now.values c.args.from c.args.end c.requires.from c.requires.end in
    let r = c.requires.from in
    omega (arith, a, b, l, w, r)
