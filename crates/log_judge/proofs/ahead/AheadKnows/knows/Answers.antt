use Rattle.std.proofs.Common.{ℕ, ltb, ap}
use Rattle.log_judge.proofs.Passed.{knows_test}
use Rattle.log_judge.proofs.ahead.AheadKnows.knows.Goals as goal

pub returns : goal.returns
returns c =
    let s = c.args.self.now in
    knows_test s.past.now.rule s.past.now.tape.events s.event s.faultless.form s.fits s.clock s.knows c.args.number c.args.earlier.now _ c.requires (ap (λ (n : ℕ). ltb c.args.number n) c.of.ensures)
