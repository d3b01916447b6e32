use Rattle.std.proofs.Common.{◌∙◌, ap}
use Rattle.frames.specs.Chains.{chain_of}
use Rattle.run_state.specs.Held.{Held}
use Rattle.run_state.specs.Hand.{hand_made}
use Rattle.stack_acts.specs.StackLaws.{stack_fits}
use Rattle.stack_acts.specs.StackViews.{makes_there, made_so}
use Rattle.thread_acts.proofs.state.State.make_stack.Goals as goal

pub give_stack-requires : goal.give_stack-requires
give_stack-requires g c = makes_there c.args.code.now c.args.self.now _ c.args.function c.in-Some.block _ c.function.result.now _ _ c.self.view_is c.requires.there c.function.ensures c.in-Some.is c.count-stack.ensures c.clear.ensures.values c.in_ok-push_scalar.ensures.ok

pub commit_other-requires-clause-fits : goal.commit_other-requires-clause-fits
commit_other-requires-clause-fits g c = stack_fits _ _ _ _ _ _ c.reserve.ensures.same_log (hand_made _ _ _ _ _ c.self.invariant.5 (ap (λ (s : Held). s.left) c.self.view_is ∙ c.requires.left))

pub returns-clause-ok : goal.returns-clause-ok
returns-clause-ok g c =
    made_so c.args.code.now _ c.args.function c.in-Some.block _ _ _ _ (chain_of c.give_stack.new.frames) _ _ _ _ _ _
    (record {
      count = c.count-stack.ensures;
      none = c.clear.ensures.values;
      one = c.in_ok-push_scalar.ensures.ok;
      way = c.in_ok-give_stack.ensures.top;
      numbered = c.self.invariant.1;
      told = c.in_ok-lines.ensures;
      same_log = c.reserve.ensures.same_log;
      same_rule = c.reserve.ensures.same_rule;
      stacks = c.in_ok-give_stack.ensures.seats;
      added = c.commit_other.ensures.added;
      rule_kept = c.commit_other.ensures.same_rule;
      below = c.give_stack.ensures.below;
    })
    c.args.self.now c.function.result.now c.self.view_is c.requires.left c.requires.there c.function.ensures c.in-Some.is (c.self.invariant.5.within (ap (λ (s : Held). s.left) c.self.view_is ∙ c.requires.left))
