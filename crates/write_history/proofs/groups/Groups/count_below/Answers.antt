use Rattle.std.proofs.Common.{◌∙◌}
use Rattle.write_history.proofs.LastFound.{counted-none, counted-some}
use Rattle.write_history.proofs.groups.Groups.count_below.Goals as goal

pub returns-in-Some-clause-count : goal.returns-in-Some-clause-count
returns-in-Some-clause-count g c = c.count_up_to.ensures ∙ counted-some c.args.self.now.values c.args.value c.args.position c.in-Some.found c.in-Some.ensures.found

pub returns-in-None-clause-count : goal.returns-in-None-clause-count
returns-in-None-clause-count g c = counted-none c.args.self.now.values c.args.value c.args.position c.in-None.ensures.found
