use Rattle.std.proofs.Common.{ℕ, suc, sym, ap, ◌∙◌, add-one}
use Rattle.verdicts.specs.declared.types.Verdict.TheVariants.{Yes, Form, Race}
use Rattle.verdicts.proofs.Judged.{no_form, a_race, no_fault}
use Rattle.verdicts.proofs.judging.failing.Goals as goal

pub returns-then-not-fits-clause-some : goal.returns-then-not-fits-clause-some
returns-then-not-fits-clause-some g c = (no_form _ _ c.requires.faultless c.args.event.now (sym c.if-not-fits.ensures) ∙ ap Form (sym c.requires.number), tt)

pub returns-then-is_below-clause-some : goal.returns-then-is_below-clause-some
returns-then-is_below-clause-some g c = (c.named.ensures.is, c.named.ensures.no)

pub returns-in-Some-clause-some : goal.returns-in-Some-clause-some
returns-in-Some-clause-some g c =
    (a_race _ _ c.requires.faultless c.args.event.now c.in-Some.earlier (sym c.if-not-fits.ensures) (sym c.if-is_below.ensures) (sym c.in-Some.ensures) ∙ ap (λ (n : ℕ). Race c.in-Some.earlier n) (sym c.requires.number), tt)

pub returns-in-None-clause-none : goal.returns-in-None-clause-none
returns-in-None-clause-none g c =
    no_fault _ _ c.requires.faultless c.args.event.now (sym c.if-not-fits.ensures) (sym c.if-is_below.ensures) (sym c.in-None.ensures) ∙ ap Yes (ap suc (sym c.requires.number) ∙ sym (add-one c.args.n))
