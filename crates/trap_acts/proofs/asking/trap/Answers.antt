use Rattle.std.proofs.Common.{ap, sym, ◌∙◌}
use Rattle.client_hooks.specs.Traps.{Trap}
use Rattle.run_state.specs.ActLaws.{awaited_waits}
use Rattle.trap_acts.proofs.TrapViews.{awaits_in, answer_in, trap_there, trap_taken}
use Rattle.trap_acts.proofs.asking.trap.Goals as goal

pub consult-requires-clause-asked : goal.consult-requires-clause-asked
consult-requires-clause-asked g c = ap (λ (v : Trap). v.asked) c.in_ok-view.ensures ∙ c.in_ok-asked.ensures ∙ sym (awaited_waits c.args.code.now _ _ _ c.in_ok-wait.ensures ∙ c.in_ok-awaited.ensures)

pub take-requires-clause-there : goal.take-requires-clause-there
take-requires-clause-there g c =
    trap_there g.C.Determined.way c.args.code.now c.args.state.now _ c.args.watchpoint _ c.in_ok-wait.wait _ _ c.in-Some.plan c.requires.there c.consult.ensures.same c.consult.ensures.wait (awaits_in c.args.code.now c.args.state.now _ _ _ _ _ c.state.view_is c.top.ensures c.in_ok-awaited.ensures c.in_ok-wait.ensures)
    (answer_in g.C.Determined.way c.args.code.now _ _ c.args.state.now c.in_ok-wait.wait _ c.args.watchpoint _ _ c.in-Some.plan c.in_ok-consult.ensures.answer c.in_ok-view.ensures c.tables.ensures c.in-Some.is) c.trap_note-note.ensures

pub returns-in-Some-clause-ok : goal.returns-in-Some-clause-ok
returns-in-Some-clause-ok g c =
    trap_taken g.C.Determined.way c.args.code.now c.args.state.now _ _ c.args.watchpoint _ c.in_ok-wait.wait _ _ c.in-Some.plan _ c.requires.there c.consult.ensures.same c.consult.ensures.wait (awaits_in c.args.code.now c.args.state.now _ _ _ _ _ c.state.view_is c.top.ensures c.in_ok-awaited.ensures c.in_ok-wait.ensures)
    (answer_in g.C.Determined.way c.args.code.now _ _ c.args.state.now c.in_ok-wait.wait _ c.args.watchpoint _ _ c.in-Some.plan c.in_ok-consult.ensures.answer c.in_ok-view.ensures c.tables.ensures c.in-Some.is) c.trap_note-note.ensures c.take.ensures.ok
