use Rattle.std.specs.Prelude.{◌++◌}
use Rattle.client_hooks.specs.Replies.{answer_in}
use Rattle.client_hooks.specs.Traps.{view_of}
use Rattle.client_hooks.specs.Lemmas.Chained.{in_first, in_second, result_more}
use Rattle.client_hooks.proofs.chain.ChainClient.answer.Goals as goal

pub returns-then-spent-clause-told : goal.returns-then-spent-clause-told
returns-then-spent-clause-told g c =
    let first = g.A.Client.holds c.args.self.now.first in
    let second = g.B.Client.holds c.args.self.now.second in
    result_more c.args.view.now.tables (view_of c.args.view.now c.args.stack) second (first ++ second) (λ v held. in_second first second v held) answer_in c.answer.result c.answer.ensures.told

pub returns-else-spent-clause-told : goal.returns-else-spent-clause-told
returns-else-spent-clause-told g c =
    let first = g.A.Client.holds c.args.self.now.first in
    let second = g.B.Client.holds c.args.self.now.second in
    result_more c.args.view.now.tables (view_of c.args.view.now c.args.stack) first (first ++ second) (λ v held. in_first first second v held) answer_in c.answer-else-spent.result c.answer-else-spent.ensures.told
