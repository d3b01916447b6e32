use Rattle.std.proofs.Common.{sym}
use Rattle.std.proofs.lemmas.Result.{err_from_is_err_and}
use Rattle.text_forms.specs.Reading.{read}
use Rattle.text_forms.specs.Lemmas.Lists.{shorter}
use Rattle.client_script.specs.Grammar.{entry, script}
use Rattle.client_script.proofs.Elements.{entry_plain}
use Rattle.client_script.proofs.EntryLoops.{begins_so_far, goes_on, fails, is_done}
use Rattle.client_script.proofs.entries.entries.Goals as goal

pub each-init : goal.each-init
each-init c = rw c.new-entries.ensures (begins_so_far c.args.code.now c.args.cursor.now)

pub returns-in_err-entry : goal.returns-in_err-entry
returns-in_err-entry c =
    let p = err_from_is_err_and c.from_residual.result c.from_residual.ensures.1 in
    rw (p.1, p.2) (fails c.args.code.now c.each.entries c.each.cursor c.entry.new.cursor (read (script c.args.code.now) c.args.cursor.now) c.in_err-entry.field-0.0 (sym c.each-test.ensures) c.in_err-entry.ensures c.each.invariant)

pub each-smaller : goal.each-smaller
each-smaller c = shorter (entry c.args.code.now) (entry_plain c.args.code.now).element 0 c.each.cursor c.in_ok-entry.field-0 c.entry.new.cursor c.in_ok-entry.ensures

pub each-preserved : goal.each-preserved
each-preserved c = rw c.in_ok-push.ensures.ok (goes_on c.args.code.now c.each.entries c.each.cursor c.in_ok-entry.field-0 c.entry.new.cursor (read (script c.args.code.now) c.args.cursor.now) (sym c.each-test.ensures) c.in_ok-entry.ensures c.each.invariant)

pub returns : goal.returns
returns c = is_done c.args.code.now c.each.entries c.each.cursor (read (script c.args.code.now) c.args.cursor.now) (sym c.each-test.ensures) c.each.invariant
