use Rattle.std.proofs.Common.{◌∙◌}
use Rattle.log_judge.proofs.Passed.{passed_here, passed_test, passed_none, and-is}
use Rattle.log_judge.proofs.ahead.AheadKnows.has_passed.Goals as goal

pub returns-then-passes_over : goal.returns-then-passes_over
returns-then-passes_over c =
    let s = c.args.self.now in
    let past = s.past.now in
    c.if-passes_over.true ∙ passed_here past.rule past.tape.events s.event s.faultless.form s.firsts past.fences s.firsts_are past.fences_hold past.threads.items past.threads_hold c.args.number c.args.earlier.now c.requires.there c.requires.seq_cst c.passes_over.result c.passes_over.ensures c.if-passes_over.true

pub returns-then-fence : goal.returns-then-fence
returns-then-fence c =
    let s = c.args.self.now in
    let past = s.past.now in
    and-is c.fence.result c.is_known_at.result c.if-fence.true
    ∙ passed_test past.rule past.tape.events s.event s.faultless.form s.firsts past.fences s.firsts_are past.fences_hold past.threads.items past.threads_hold c.args.number c.args.earlier.now c.requires.there c.requires.seq_cst c.passes_over.result c.fence.result c.is_known_at.result c.passes_over.ensures c.if-passes_over.false c.fence.ensures c.is_known_at.ensures

pub returns-else-fence : goal.returns-else-fence
returns-else-fence c =
    let s = c.args.self.now in
    let past = s.past.now in
    passed_none past.rule past.tape.events s.event s.faultless.form s.firsts past.fences s.firsts_are past.fences_hold past.threads.items past.threads_hold c.args.number c.args.earlier.now c.requires.there c.requires.seq_cst c.passes_over.result c.fence.result c.passes_over.ensures c.if-passes_over.false c.fence.ensures c.if-fence.false
