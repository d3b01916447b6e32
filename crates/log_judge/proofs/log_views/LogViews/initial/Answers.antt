use Rattle.std.proofs.Common.{ℕ, ap, ◌∙◌}
use Rattle.std.specs.Ordering.{nat_cmp}
use Rattle.std.specs.BTreeMap.{get}
use Rattle.log_judge.proofs.log_views.LogViews.initial.Goals as goal

pub returns-in-Some : goal.returns-in-Some
returns-in-Some c = c.in-Some.ensures.value ∙ (ap (λ (k : ℕ). get nat_cmp c.args.self.now.initials k) c.key_of.ensures.key ∙ c.args.self.now.initials_hold c.args.cell c.key_of.ensures.small)

pub returns-in-None : goal.returns-in-None
returns-in-None c = c.in-None.ensures.value ∙ (ap (λ (k : ℕ). get nat_cmp c.args.self.now.initials k) c.key_of.ensures.key ∙ c.args.self.now.initials_hold c.args.cell c.key_of.ensures.small)
