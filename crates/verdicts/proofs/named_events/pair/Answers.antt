use Rattle.std.proofs.Common.{sym, ◌∙◌}
use Rattle.verdicts.specs.Laws.{is_b}
use Rattle.verdicts.proofs.Searched.{within}
use Rattle.verdicts.proofs.named_events.pair.Goals as goal

pub first_a-requires-clause-within : goal.first_a-requires-clause-within
first_a-requires-clause-within g c =
    let past = g.K.Knows.log c.args.next.now in
    within (is_b (g.K.Knows.rule c.args.next.now) past c.args.event.now) past c.in-Some.b c.args.n (sym c.in-Some.is ∙ c.first_b.ensures) c.requires.number
