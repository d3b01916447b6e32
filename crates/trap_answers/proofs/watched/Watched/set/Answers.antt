use Rattle.std.proofs.Common.{◌≡◌, ap, sym, ◌∙◌, true, false}
use Rattle.std.specs.Prelude.{is_some}
use Rattle.mu_model.specs.Traps.{is_watched, watch}
use Rattle.trap_answers.specs.Watching.{Watching, enabled_in}
use Rattle.trap_answers.proofs.Flags.{enabled_watch, known_found}
use Rattle.trap_answers.proofs.watched.Watched.set.Goals as goal

pub unreachable-requires : goal.unreachable-requires
unreachable-requires c =
    let e : false ≡ true = sym (ap is_some c.in-Err.ensures.absent) ∙ known_found c.args.change.number c.self.inside.flags.entries ∙ ap (λ (v : Watching). is_watched c.args.change.number v.known) c.self.view_is ∙ c.requires in
    cc

pub returns-clause-enabled : goal.returns-clause-enabled
returns-clause-enabled c =
    ap enabled_in c.in-Ok.ensures.entries ∙ enabled_watch c.args.change.number c.args.change.enabled c.self.inside.flags.entries c.self.invariant ∙ ap (λ (v : Watching). watch v.enabled (c.args.change.number, c.args.change.enabled)) c.self.view_is

pub returns-clause-known : goal.returns-clause-known
returns-clause-known c =
    c.in-Ok.ensures.keys_stay (ap is_some c.in-Ok.ensures.old ∙ known_found c.args.change.number c.self.inside.flags.entries ∙ ap (λ (v : Watching). is_watched c.args.change.number v.known) c.self.view_is ∙ c.requires) ∙ ap (λ (v : Watching). v.known) c.self.view_is
