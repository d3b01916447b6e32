use Rattle.std.proofs.Common.{[], ◌∷◌, sym, refl}
use Rattle.std.proofs.lemmas.Result.{err_from_is_err_and}
use Rattle.text_forms.specs.declared.symbol.Symbol.TheVariants as symbols
use Rattle.text_forms.specs.Forms.{until}
use Rattle.text_forms.specs.Reading.{read}
use Rattle.text_forms.specs.Answers.{with_front}
use Rattle.text_forms.specs.Lemmas.Lists.{shorter}
use Rattle.text_forms.specs.Lemmas.Loops.{goes_on, is_done, fails_whole}
use Rattle.conditions.specs.Grammar.{condition}
use Rattle.conditions.proofs.Elements.{condition_plain}
use Rattle.conditions.proofs.parts.more_conditions.Goals as goal

pub returns-in_err-condition : goal.returns-in_err-condition
returns-in_err-condition c =
    let p = err_from_is_err_and c.from_residual-in_err-condition.result c.from_residual-in_err-condition.ensures.1 in
    rw (p.1, p.2) (fails_whole (symbols.End ∷ []) (condition c.args.names.now) (condition_plain c.args.names.now) c.each.conditions c.each.cursor c.condition.new.cursor (with_front (c.args.first ∷ []) (read (until (symbols.End ∷ []) (condition c.args.names.now)) c.args.cursor.now)) c.in_err-condition.field-0.0 (sym c.each-test.ensures) c.in_err-condition.ensures c.each.invariant)

pub each-smaller : goal.each-smaller
each-smaller c = shorter (condition c.args.names.now) (condition_plain c.args.names.now).element 0 c.each.cursor c.in_ok-condition.field-0 c.condition.new.cursor c.in_ok-condition.ensures

pub each-preserved : goal.each-preserved
each-preserved c = rw c.in_ok-push-2.ensures.ok (goes_on (symbols.End ∷ []) (condition c.args.names.now) (condition_plain c.args.names.now) c.each.conditions c.each.cursor c.in_ok-condition.field-0 c.condition.new.cursor (with_front (c.args.first ∷ []) (read (until (symbols.End ∷ []) (condition c.args.names.now)) c.args.cursor.now)) (sym c.each-test.ensures) c.in_ok-condition.ensures c.each.invariant)

pub returns : goal.returns
returns c = rw (is_done (symbols.End ∷ []) (condition c.args.names.now) (condition_plain c.args.names.now) c.each.conditions c.each.cursor (with_front (c.args.first ∷ []) (read (until (symbols.End ∷ []) (condition c.args.names.now)) c.args.cursor.now)) (sym c.each-test.ensures) c.each.invariant) refl
