use Rattle.std.proofs.Common.{◌∙◌, sym, arith}
use Rattle.mu_types.specs.TypeDemands.{wrong_arguments}
use Rattle.type_classes.proofs.Firsts.{each_some, each_none, met_more}
use Rattle.type_classes.proofs.judging.first_wrong_argument.Goals as goal

pub returns-in-Some : goal.returns-in-Some
returns-in-Some c = sym (each_some (wrong_arguments c.args.all.now c.args.places.now) c.args.many c.loop-t.t c.in-Some.fault c.loop-t.invariant c.loop-t-test.true (sym c.wrong_argument.ensures ∙ c.in-Some.is))

pub loop-t-preserved : goal.loop-t-preserved
loop-t-preserved c = met_more (wrong_arguments c.args.all.now c.args.places.now) c.loop-t.t c.loop-t.invariant (sym c.wrong_argument.ensures ∙ c.in_default.is)

pub returns : goal.returns
returns c = sym (each_none (wrong_arguments c.args.all.now c.args.places.now) c.args.many (λ u l. c.loop-t.invariant u (omega arith)))
