use Rattle.std.proofs.Common.{sym, ◌∙◌}
use Rattle.checked_code.specs.Checking.{bundle_tables}
use Rattle.mu_step.specs.CastLaws.{went_good}
use Rattle.mu_step.proofs.acts.cast.Goals as goal

pub returns-then-is_made-clause-casts : goal.returns-then-is_made-clause-casts
returns-then-is_made-clause-casts g c =
    c.keep.ensures (bundle_tables c.args.code.now) c.args.state.now.objects c.requires.casts
    (went_good c.args.code.now c.args.state.now c.cast-end.new.self c.args.class c.args.scalar c.cast-end.result c.requires.there c.cast-end.ensures.ok (sym c.is_made.ensures ∙ c.if-is_made.true))
