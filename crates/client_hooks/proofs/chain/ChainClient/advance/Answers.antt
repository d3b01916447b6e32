use Rattle.client_hooks.specs.Lemmas.Chained.{first_less, second_less}
use Rattle.client_hooks.proofs.chain.ChainClient.advance.Goals as goal

pub returns-then-spent-clause-held : goal.returns-then-spent-clause-held
returns-then-spent-clause-held g c = second_less (g.A.Client.holds c.args.self.now.first) (g.B.Client.holds c.args.self.now.second) (g.B.Client.holds c.advance.new.self) c.advance.ensures.held

pub returns-else-spent-clause-held : goal.returns-else-spent-clause-held
returns-else-spent-clause-held g c = first_less (g.A.Client.holds c.args.self.now.first) (g.A.Client.holds c.advance-else-spent.new.self) (g.B.Client.holds c.args.self.now.second) c.advance-else-spent.ensures.held
