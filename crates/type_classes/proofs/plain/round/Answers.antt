use Rattle.std.proofs.Common.{arith}
use Rattle.type_classes.proofs.Rounds.{round_is}
use Rattle.type_classes.proofs.plain.round.Goals as goal

pub returns-clause-steps : goal.returns-clause-steps
returns-clause-steps c = λ k h. round_is c.args.definitions.now c.requires c.args.p.now c.loop-x.all.items (λ x l. c.loop-x.invariant.firsts x (omega arith)) k h
