use Rattle.std.proofs.Common.{◌∙◌}
use Rattle.std.specs.Prelude.{Some, None}
use Rattle.log_judge.proofs.OnlyValues.{only_kept}
use Rattle.log_judge.proofs.log_views.LogViews.has_only_value.Goals as goal

pub returns-in-Some : goal.returns-in-Some
returns-in-Some c =
    c.is_same_scalar.ensures
    ∙ only_kept c.args.self.now.tape.events c.args.cell c.args.position c.args.value (Some c.in-Some.known) c.requires.form c.requires.there c.in-Some.ensures.initial c.in-Some.ensures.later

pub returns-in-None : goal.returns-in-None
returns-in-None c = only_kept c.args.self.now.tape.events c.args.cell c.args.position c.args.value None c.requires.form c.requires.there c.in-None.ensures.initial c.in-None.ensures.later
