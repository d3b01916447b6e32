use Rattle.std.proofs.Common.{ap, sym, ◌∙◌, false}
use Rattle.std.specs.Map.{keys_of}
use Rattle.mu_model.specs.Traps.{is_watched}
use Rattle.trap_answers.specs.Watching.{Watching, enabled_in}
use Rattle.trap_answers.proofs.Flags.{enabled_new, known_added, known_found, known_more}
use Rattle.trap_answers.proofs.watched.Watched.know.Goals as goal

pub returns-then-contains_key-clause-known : goal.returns-then-contains_key-clause-known
returns-then-contains_key-clause-known c =
    ap (λ (v : Watching). is_watched c.args.number v.known) (sym c.self.view_is) ∙ sym (known_found c.args.number c.self.inside.flags.entries) ∙ sym c.contains_key.ensures ∙ c.if-contains_key.true

pub returns-clause-enabled : goal.returns-clause-enabled
returns-clause-enabled c =
    ap enabled_in c.in_ok-insert.ensures.entries ∙ enabled_new c.args.number c.self.inside.flags.entries c.self.invariant (sym c.contains_key.ensures ∙ c.if-contains_key.false) ∙ ap (λ (v : Watching). v.enabled) c.self.view_is

pub returns-clause-known : goal.returns-clause-known
returns-clause-known c = ap (λ es. is_watched c.args.number (keys_of es)) c.in_ok-insert.ensures.entries ∙ known_added c.args.number false c.self.inside.flags.entries

pub returns-clause-more : goal.returns-clause-more
returns-clause-more c = λ n h.
    ap (λ es. is_watched n (keys_of es)) c.in_ok-insert.ensures.entries ∙ known_more n c.args.number false c.self.inside.flags.entries (ap (λ (v : Watching). is_watched n v.known) c.self.view_is ∙ h)
