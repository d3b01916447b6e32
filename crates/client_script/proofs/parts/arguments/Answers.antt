use Rattle.std.proofs.Common.{[], ◌∷◌, sym}
use Rattle.std.proofs.lemmas.Result.{err_from_is_err_and}
use Rattle.text_forms.specs.declared.symbol.Symbol.TheVariants as symbols
use Rattle.text_forms.specs.Forms.{until}
use Rattle.text_forms.specs.Reading.{read}
use Rattle.text_forms.specs.Lemmas.Lists.{shorter}
use Rattle.text_forms.specs.Lemmas.Loops.{goes_on, is_done, fails_with}
use Rattle.client_script.specs.Grammar.{argument}
use Rattle.client_script.proofs.Elements.{argument_plain}
use Rattle.client_script.proofs.parts.arguments.Goals as goal

pub returns-in_err-argument : goal.returns-in_err-argument
returns-in_err-argument c =
    let p = err_from_is_err_and c.from_residual.result c.from_residual.ensures.1 in
    rw (p.1, p.2) (fails_with (symbols.Close ∷ []) (argument c.args.code.now) (argument_plain c.args.code.now) c.each.arguments c.each.cursor c.argument.new.cursor (read (until (symbols.Close ∷ []) (argument c.args.code.now)) c.args.cursor.now) c.in_err-argument.field-0.0 (sym c.each-test.ensures) c.in_err-argument.ensures c.each.invariant)

pub each-smaller : goal.each-smaller
each-smaller c = shorter (argument c.args.code.now) (argument_plain c.args.code.now).element 0 c.each.cursor c.in_ok-argument.field-0 c.argument.new.cursor c.in_ok-argument.ensures

pub each-preserved : goal.each-preserved
each-preserved c = rw c.in_ok-push.ensures.ok (goes_on (symbols.Close ∷ []) (argument c.args.code.now) (argument_plain c.args.code.now) c.each.arguments c.each.cursor c.in_ok-argument.field-0 c.argument.new.cursor (read (until (symbols.Close ∷ []) (argument c.args.code.now)) c.args.cursor.now) (sym c.each-test.ensures) c.in_ok-argument.ensures c.each.invariant)

pub returns : goal.returns
returns c = rw c.bump.ensures (is_done (symbols.Close ∷ []) (argument c.args.code.now) (argument_plain c.args.code.now) c.each.arguments c.each.cursor (read (until (symbols.Close ∷ []) (argument c.args.code.now)) c.args.cursor.now) (sym c.each-test.ensures) c.each.invariant)
