use Rattle.std.proofs.Common.{sym, arith}
use Rattle.view_parts.specs.Lemmas.ValuesKept.{untouched-newest, history-newest}
use Rattle.log_judge.proofs.log_views.LogViews.newest.Goals as goal

pub newest-requires : goal.newest-requires
newest-requires c = let n = history-newest c.args.self.now.rule c.args.self.now.tape.events c.args.cell c.in-Some.kept.now c.in-Some.ensures.views in omega (arith, n)

pub returns-in-Some : goal.returns-in-Some
returns-in-Some c =
    let n = history-newest c.args.self.now.rule c.args.self.now.tape.events c.args.cell c.in-Some.kept.now c.in-Some.ensures.views in
    let r = c.newest.ensures.newest in
    omega (arith, n, r)

pub returns-in-None : goal.returns-in-None
returns-in-None c = sym (untouched-newest c.args.self.now.tape.events c.args.cell c.in-None.ensures.views)
