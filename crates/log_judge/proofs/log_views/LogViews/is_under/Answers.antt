use Rattle.std.proofs.Common.{sym, arith}
use Rattle.std.proofs.lemmas.Bool.{le-ltb}
use Rattle.mem_axioms.specs.Floor.{floor}
use Rattle.mem_axioms.specs.Form.{is_only_value}
use Rattle.view_parts.specs.Lemmas.FloorFound.{floor-newest}
use Rattle.log_judge.proofs.log_views.LogViews.is_under.Goals as goal

pub returns-then-newest-position : goal.returns-then-newest-position
returns-then-newest-position g c =
    let views = c.args.self.now in
    let f = floor-newest views.rule is_only_value views.tape.events c.args.thread c.args.cell c.args.order c.requires.faultless.form in
    let n = c.newest.ensures in
    let l = c.if-newest-position.true in
    sym (le-ltb c.args.position (floor views.rule views.tape.events c.args.thread c.args.cell c.args.order) (omega (arith, f, n, l)))
