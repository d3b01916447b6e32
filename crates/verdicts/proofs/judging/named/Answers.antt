use Rattle.std.proofs.Common.{ℕ, sym, ap, ◌∙◌}
use Rattle.verdicts.specs.declared.types.Verdict.TheVariants.{Axiom1}
use Rattle.verdicts.proofs.Judged.{an_older, a_pair, some_breach}
use Rattle.verdicts.proofs.judging.named.Goals as goal

pub returns-in-Some-clause-is : goal.returns-in-Some-clause-is
returns-in-Some-clause-is g c = an_older _ _ c.requires.faultless c.args.event.now c.in-Some.earlier c.requires.fits (sym c.in-Some.ensures) ∙ ap (λ (n : ℕ). Axiom1 c.in-Some.earlier n) (sym c.requires.number)

pub unreachable-requires : goal.unreachable-requires
unreachable-requires g c = some_breach _ _ c.requires.faultless c.args.event.now c.requires.fits c.requires.below (sym c.in_default.ensures) c.in-None.ensures

pub returns-clause-is : goal.returns-clause-is
returns-clause-is g c = a_pair _ _ c.requires.faultless c.args.event.now c.in-Some-pair.pair.a c.in-Some-pair.pair.b c.requires.fits (sym c.in_default.ensures) c.in-Some-pair.ensures
