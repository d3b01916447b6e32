use Rattle.std.proofs.Common.{ap, ◌∙◌}
use Rattle.std.specs.Prelude.{Some, None}
use Rattle.mem_axioms.specs.Events.{is_seq_cst}
use Rattle.log_judge.proofs.Passed.{from_fence}
use Rattle.log_judge.proofs.ahead.AheadKnows.has_from.Goals as goal

pub returns-in-Some : goal.returns-in-Some
returns-in-Some c =
    let s = c.args.self.now in
    from_fence s.past.now.rule s.past.now.tape.events s.event s.faultless.form s.fits s.clock (Some c.in-Some.last) s.knows (rw c.in-Some.is at s.last_is) c.seq_cst.result c.args.number
    (c.seq_cst.ensures ∙ ap is_seq_cst c.order_in.ensures) c.if-seq_cst.false

pub returns-in-None : goal.returns-in-None
returns-in-None c =
    let s = c.args.self.now in
    from_fence s.past.now.rule s.past.now.tape.events s.event s.faultless.form s.fits s.clock None s.knows (rw c.in-None.is at s.last_is) c.seq_cst.result c.args.number
    (c.seq_cst.ensures ∙ ap is_seq_cst c.order_in.ensures) c.if-seq_cst.false
