use Rattle.std.proofs.Common.{ap, ◌∙◌}
use Rattle.trap_answers.specs.Watching.{Watching}
use Rattle.mu_model.specs.Traps.{is_watched}
use Rattle.trap_answers.proofs.Flags.{flag_of, flag_found}
use Rattle.trap_answers.proofs.watched.Watched.contains.Goals as goal

pub returns-in-Some : goal.returns-in-Some
returns-in-Some c =
    ap flag_of c.in-Some.ensures.value ∙ flag_found c.args.number c.self.inside.flags.entries c.self.invariant ∙ ap (λ (v : Watching). is_watched c.args.number v.enabled) c.self.view_is

pub returns-in-None : goal.returns-in-None
returns-in-None c =
    ap flag_of c.in-None.ensures.value ∙ flag_found c.args.number c.self.inside.flags.entries c.self.invariant ∙ ap (λ (v : Watching). is_watched c.args.number v.enabled) c.self.view_is
