use Rattle.std.proofs.Common.{sym, ◌∙◌, ap, subst}
use Rattle.std.specs.Prelude.{IsSome, IsSomeAnd}
use Rattle.mu_model.specs.Programs.{named}
use Rattle.run_search.specs.Given.{Given}
use Rattle.run_search.proofs.Beginning.{if_ok, first_by, ends_by, picks_by}
use Rattle.run_search.proofs.player.Player.begin.Goals as goal

pub new-requires-clause-body : goal.new-requires-clause-body
new-requires-clause-body c = subst (λ (g : Given). IsSomeAnd ((named g.bundle).body g.entry) IsSome) (sym c.self.view_is) c.requires.begins.begins

pub returns-clause-bundle : goal.returns-clause-bundle
returns-clause-bundle c = if_ok _ _ (λ m h. h ∙ ap (λ (g : Given). g.bundle) c.self.view_is) c.new.result c.new.ensures.bundle

pub returns-clause-first : goal.returns-clause-first
returns-clause-first c =
    if_ok _ _
    (λ m h. first_by _ c.args.self.now c.args.picks c.in_ok-heap.heap c.in_ok-client.client _ m.configuration c.self.view_is
    (record { ready = c.requires; objects = c.in_ok-heap.ensures.objects; filled = c.in_ok-heap.ensures.filled; client = c.in_ok-client.ensures.client; scripted = c.in_ok-client.ensures.scripted }) c.new-memory.ensures.rule h)
    c.new.result c.new.ensures.first

pub returns-clause-ends : goal.returns-clause-ends
returns-clause-ends c =
    if_ok _ _
    (λ m h. ends_by _ c.args.self.now c.args.picks c.in_ok-heap.heap c.in_ok-client.client _ m.configuration c.self.view_is
    (record { ready = c.requires; objects = c.in_ok-heap.ensures.objects; filled = c.in_ok-heap.ensures.filled; client = c.in_ok-client.ensures.client; scripted = c.in_ok-client.ensures.scripted }) c.new-memory.ensures.rule h)
    c.new.result c.new.ensures.first

pub returns-clause-picks : goal.returns-clause-picks
returns-clause-picks c =
    if_ok _ _
    (λ m h. picks_by _ c.args.self.now c.args.picks c.in_ok-heap.heap c.in_ok-client.client _ m.configuration c.self.view_is
    (record { ready = c.requires; objects = c.in_ok-heap.ensures.objects; filled = c.in_ok-heap.ensures.filled; client = c.in_ok-client.ensures.client; scripted = c.in_ok-client.ensures.scripted }) c.new-memory.ensures.rule h)
    c.new.result c.new.ensures.first
