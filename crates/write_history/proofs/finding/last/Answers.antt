use Rattle.std.proofs.Common.{arith}
use Rattle.write_history.proofs.finding.last.Goals as goal

pub returns-clause-cost : goal.returns-clause-cost
returns-clause-cost g c d l =
    let r = c.requires.runs in
    let n = c.requires.few in
    let a = r.fourth_short in
    let b = r.third_short in
    let s = r.second_short in
    let x = r.second in
    let y = r.third in
    let z = r.fourth in
    let fourth = c.last_in_run-found.ensures.cost 6 (omega (arith, a)) in
    let third = c.or_in_run-found.ensures.cost 11 (omega (arith, b)) in
    let second = c.or_in_run-found-2.ensures.cost 16 (omega (arith, s)) in
    let first = c.or_in_run.ensures.cost d (omega (arith, l, n, x, y, z)) in
    omega (arith, fourth, third, second, first)
