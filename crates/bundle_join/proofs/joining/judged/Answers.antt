use Rattle.std.proofs.Common.{◌∙◌, sym, ap, take}
use Rattle.std.specs.Prelude.{option_copied}
use Rattle.bundle_join.proofs.Steps.{verdict_none, verdict_some}
use Rattle.bundle_join.proofs.joining.judged.Goals as goal

pub returns-in-None : goal.returns-in-None
returns-in-None c = verdict_none (take c.args.earlier c.args.kept.now.items) c.args.item.now (ap option_copied (sym c.in-None.is) ∙ c.in_ok-compared.ensures)

pub returns-in-Some : goal.returns-in-Some
returns-in-Some c = c.against.ensures ∙ verdict_some (take c.args.earlier c.args.kept.now.items) c.args.item.now c.in-Some.first.now (ap option_copied (sym c.in-Some.is) ∙ c.in_ok-compared.ensures)
