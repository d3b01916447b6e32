use Rattle.std.proofs.Common.{sym}
use Rattle.std.proofs.lemmas.Result.{err_from_is_err_and}
use Rattle.text_forms.specs.Reading.{read}
use Rattle.text_forms.specs.Lemmas.Lists.{shorter}
use Rattle.hail_load.specs.Grammar.{line, hail}
use Rattle.hail_load.proofs.ScriptLoops.{line_plain, begins_so_far, goes_on, fails_whole, is_done}
use Rattle.hail_load.proofs.commands.hail.Goals as goal

pub each-init : goal.each-init
each-init c = rw c.new-script.ensures (begins_so_far c.args.cursor.now)

pub returns-in_err-line : goal.returns-in_err-line
returns-in_err-line c =
    let p = err_from_is_err_and c.from_residual.result c.from_residual.ensures.1 in
    rw (p.1, p.2) (fails_whole c.each.script c.each.cursor c.line.new.cursor (read hail c.args.cursor.now) c.in_err-line.field-0.0 (sym c.each-test.ensures) c.in_err-line.ensures c.each.invariant)

pub each-smaller : goal.each-smaller
each-smaller c = shorter (line c.each.script.leads) (line_plain c.each.script.leads).element 0 c.each.cursor c.in_ok-line.line c.line.new.cursor c.in_ok-line.ensures

pub each-preserved : goal.each-preserved
each-preserved c = rw c.in_ok-add.ensures (goes_on c.each.script c.each.cursor c.in_ok-line.line c.line.new.cursor (read hail c.args.cursor.now) (sym c.each-test.ensures) c.in_ok-line.ensures c.each.invariant)

pub returns : goal.returns
returns c = is_done c.each.script c.each.cursor (read hail c.args.cursor.now) (sym c.each-test.ensures) c.each.invariant
