use Rattle.std.proofs.Common.{sym}
use Rattle.std.proofs.lemmas.Result.{err_from_is_err_and}
use Rattle.text_forms.specs.Reading.{read}
use Rattle.text_forms.specs.Lemmas.Lists.{shorter}
use Rattle.client_script.specs.Grammar.{action, inside}
use Rattle.client_script.proofs.Elements.{action_plain}
use Rattle.client_script.proofs.InsideLoops.{begins_so_far, goes_on, fails_with, ending_fails, is_done}
use Rattle.client_script.proofs.entries.inside.Goals as goal

pub each-init : goal.each-init
each-init c = rw c.new-actions.ensures (begins_so_far c.args.code.now c.args.cursor.now)

pub returns-in_err-action : goal.returns-in_err-action
returns-in_err-action c =
    let p = err_from_is_err_and c.from_residual.result c.from_residual.ensures.1 in
    rw (p.1, p.2) (fails_with c.args.code.now c.each.actions c.each.cursor c.action.new.cursor (read (inside c.args.code.now) c.args.cursor.now) c.in_err-action.field-0.0 (sym c.each-test.ensures) c.in_err-action.ensures c.each.invariant)

pub each-smaller : goal.each-smaller
each-smaller c = shorter action action_plain.element 0 c.each.cursor c.in_ok-action.field-0 c.action.new.cursor c.in_ok-action.ensures

pub each-preserved : goal.each-preserved
each-preserved c = rw c.in_ok-push.ensures.ok (goes_on c.args.code.now c.each.actions c.each.cursor c.in_ok-action.field-0 c.action.new.cursor (read (inside c.args.code.now) c.args.cursor.now) (sym c.each-test.ensures) c.in_ok-action.ensures c.each.invariant)

pub returns-in_err-edit : goal.returns-in_err-edit
returns-in_err-edit c =
    let p = err_from_is_err_and c.from_residual-in_err-edit.result c.from_residual-in_err-edit.ensures.1 in
    rw (p.1, p.2) (ending_fails c.args.code.now c.each.actions c.each.cursor c.ending.new.cursor (read (inside c.args.code.now) c.args.cursor.now) c.in_err-edit.field-0.0 (sym c.each-test.ensures) c.in_err-edit.ensures c.each.invariant)

pub returns : goal.returns
returns c = is_done c.args.code.now c.each.actions c.each.cursor (c.in_ok-edit.edit, c.in_ok-edit.reply) c.ending.new.cursor (read (inside c.args.code.now) c.args.cursor.now) (sym c.each-test.ensures) c.in_ok-edit.ensures c.each.invariant
