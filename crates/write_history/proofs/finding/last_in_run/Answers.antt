use Rattle.std.proofs.Common.{◌∙◌, ◌<◌, sym, Option, ℕ, subst, arith}
use Rattle.write_history.specs.Searching.{LastIn}
use Rattle.write_history.proofs.LastFound.{cut-all, none-passed, last-passed}
use Rattle.write_history.proofs.finding.last_in_run.Goals as goal

pub returns-then-passes-clause-found : goal.returns-then-passes-clause-found
returns-then-passes-clause-found g c =
    let values = c.args.positions.values.now in
    let order = c.args.positions.order.now in
    let e = c.requires.end in
    let few = c.requires.few in
    let s = c.requires.start in
    let n = c.if-start-end.false in
    let l : c.args.start < c.args.end = omega (arith, s, n) in
    let all = cut-all values c.args.sought order c.args.start c.args.end c.requires.run (omega (arith, e, few)) l (sym c.passes.ensures.passes ∙ c.if-passes.true) in
    subst (λ (r : Option ℕ). LastIn values c.args.sought c.args.start c.args.end r) (sym c.of_value.ensures.found)
    (last-passed values c.args.sought order c.args.start c.args.end c.requires.run (omega (arith, e, few)) c.args.end all l)

pub returns-then-cut-start-clause-found : goal.returns-then-cut-start-clause-found
returns-then-cut-start-clause-found g c =
    let e = c.requires.end in
    let few = c.requires.few in
    none-passed c.args.positions.values.now c.args.sought c.args.positions.order.now c.args.start c.args.end c.requires.run (omega (arith, e, few)) c.cut-cut.result c.cut-cut.ensures.cut c.if-cut-start.true

pub returns-clause-found : goal.returns-clause-found
returns-clause-found g c =
    let values = c.args.positions.values.now in
    let e = c.requires.end in
    let few = c.requires.few in
    let f = c.cut-cut.ensures.cut.from in
    let n = c.if-cut-start.false in
    subst (λ (r : Option ℕ). LastIn values c.args.sought c.args.start c.args.end r) (sym c.of_value-2.ensures.found)
    (last-passed values c.args.sought c.args.positions.order.now c.args.start c.args.end c.requires.run (omega (arith, e, few)) c.cut-cut.result c.cut-cut.ensures.cut (omega (arith, f, n)))
