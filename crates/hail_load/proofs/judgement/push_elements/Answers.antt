use Rattle.std.proofs.Common.{refl}
use Rattle.hail_load.specs.declared.parts.Part.TheVariants.{Value}
use Rattle.hail_load.specs.Lemmas.Steps.{elements_wanted, elements_unwanted}
use Rattle.hail_load.proofs.judgement.push_elements.Goals as goal

pub returns-then-many-wanted : goal.returns-then-many-wanted
returns-then-many-wanted c = rw (elements_unwanted c.args.place c.args.many c.args.wanted (Value c.args.t) c.if-many-wanted.true, c.wrong_type.ensures) refl

pub returns : goal.returns
returns c = rw (elements_wanted c.args.place c.args.many c.args.wanted (Value c.args.t) c.if-many-wanted.false, c.in_ok-push.ensures) refl
