use Rattle.std.proofs.Common.{[], ◌∷◌, sym}
use Rattle.std.proofs.lemmas.Result.{err_from_is_err_and}
use Rattle.text_forms.specs.declared.symbol.Symbol.TheVariants as symbols
use Rattle.text_forms.specs.Forms.{until}
use Rattle.text_forms.specs.Reading.{read}
use Rattle.text_forms.specs.Answers.{with_front}
use Rattle.text_forms.specs.Lemmas.Lists.{shorter}
use Rattle.text_forms.specs.Lemmas.Loops.{goes_on, is_done, fails_with}
use Rattle.conditions.specs.Grammar.{list}
use Rattle.conditions.proofs.Elements.{list_plain}
use Rattle.conditions.proofs.parts.more_lists.Goals as goal

pub returns-in_err-list : goal.returns-in_err-list
returns-in_err-list c =
    let p = err_from_is_err_and c.from_residual-in_err-list.result c.from_residual-in_err-list.ensures.1 in
    rw (p.1, p.2) (fails_with (symbols.BraceClose ∷ []) (list c.args.names.now) (list_plain c.args.names.now) c.each.lists c.each.cursor c.list.new.cursor (with_front (c.args.first ∷ []) (read (until (symbols.BraceClose ∷ []) (list c.args.names.now)) c.args.cursor.now)) c.in_err-list.field-0.0 (sym c.each-test.ensures) c.in_err-list.ensures c.each.invariant)

pub each-smaller : goal.each-smaller
each-smaller c = shorter (list c.args.names.now) (list_plain c.args.names.now).element 0 c.each.cursor c.in_ok-list.field-0 c.list.new.cursor c.in_ok-list.ensures

pub each-preserved : goal.each-preserved
each-preserved c = rw c.in_ok-push-2.ensures.ok (goes_on (symbols.BraceClose ∷ []) (list c.args.names.now) (list_plain c.args.names.now) c.each.lists c.each.cursor c.in_ok-list.field-0 c.list.new.cursor (with_front (c.args.first ∷ []) (read (until (symbols.BraceClose ∷ []) (list c.args.names.now)) c.args.cursor.now)) (sym c.each-test.ensures) c.in_ok-list.ensures c.each.invariant)

pub returns : goal.returns
returns c = rw c.bump.ensures (is_done (symbols.BraceClose ∷ []) (list c.args.names.now) (list_plain c.args.names.now) c.each.lists c.each.cursor (with_front (c.args.first ∷ []) (read (until (symbols.BraceClose ∷ []) (list c.args.names.now)) c.args.cursor.now)) (sym c.each-test.ensures) c.each.invariant)
