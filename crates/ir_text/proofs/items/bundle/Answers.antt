use Rattle.std.proofs.Common.{◌≡◌, true, false, [], ◌∷◌, length, Ok, Err, refl, sym, ◌∙◌}
use Rattle.std.specs.Prelude.{nat_le, ◌&&◌}
use Rattle.std.proofs.lemmas.Result.{err_from_is_err_and}
use Rattle.text_forms.specs.declared.symbol.Symbol.TheVariants as symbols
use Rattle.text_forms.specs.Tokens.{at, first, rest_of, too_many_at}
use Rattle.text_forms.specs.Begins.{begins}
use Rattle.text_forms.specs.Reading.{read}
use Rattle.text_forms.specs.Lemmas.Lists.{shorter}
use Rattle.text_forms.specs.Lemmas.Loops.{goes_on_counted, is_done_up_to, fails_up_to, too_many}
use Rattle.ir_lex.specs.TokenForms.{mark}
use Rattle.ir_tree.specs.Items.{typedef, funcsig, constant, global_cell, funcdecl, funcdef, item, bundle}
use Rattle.ir_text.proofs.Fronts.{front-nothing}
use Rattle.ir_text.proofs.Insides.{item_plain}
use Rattle.ir_text.proofs.Wholes.{fails_whole}
use Rattle.ir_text.proofs.items.bundle.Goals as goal

pub each-init : goal.each-init
unfolding bundle
each-init c = rw c.new-items.ensures (front-nothing (read bundle c.args.cursor.now))

pub returns-then-passes_limit : goal.returns-then-passes_limit
unfolding mark typedef funcsig constant global_cell funcdecl funcdef item bundle
returns-then-passes_limit c =
    let past : nat_le 16384 (length c.each.items) && at (begins item) c.each.cursor ≡ true = rw (← c.len.ensures, ← c.at_any.ensures) (sym c.passes_limit.ensures ∙ c.if-passes_limit.true) in
    let gone : read bundle c.args.cursor.now ≡ Err (too_many_at (first c.each.cursor).place) = too_many 16384 (symbols.End ∷ []) item item_plain (length c.each.items) c.each.items c.each.cursor (read bundle c.args.cursor.now) past (sym c.each-test.ensures) c.each.invariant in
    rw (c.too_many.ensures, gone) refl

pub returns-in_err-item : goal.returns-in_err-item
unfolding mark typedef funcsig constant global_cell funcdecl funcdef item bundle
returns-in_err-item c =
    let p = err_from_is_err_and c.from_residual.result c.from_residual.ensures.1 in
    let fits : nat_le 16384 (length c.each.items) && at (begins item) c.each.cursor ≡ false = rw (← c.len.ensures, ← c.at_any.ensures) (sym c.passes_limit.ensures ∙ c.if-passes_limit.false) in
    rw (p.1, p.2) (fails_whole c.item.new.cursor (read bundle c.args.cursor.now) c.in_err-item.field-0.0 (fails_up_to 16384 (symbols.End ∷ []) item item_plain (length c.each.items) c.each.items c.each.cursor c.item.new.cursor (read bundle c.args.cursor.now) c.in_err-item.field-0.0 fits (sym c.each-test.ensures) c.in_err-item.ensures c.each.invariant))

pub each-smaller : goal.each-smaller
each-smaller c = shorter item item_plain.element 0 c.each.cursor c.in_ok-item.field-0 c.item.new.cursor c.in_ok-item.ensures

pub each-preserved : goal.each-preserved
unfolding mark typedef funcsig constant global_cell funcdecl funcdef item bundle
each-preserved c =
    let fits : nat_le 16384 (length c.each.items) && at (begins item) c.each.cursor ≡ false = rw (← c.len.ensures, ← c.at_any.ensures) (sym c.passes_limit.ensures ∙ c.if-passes_limit.false) in
    rw c.in_ok-push.ensures.ok (goes_on_counted 16384 (symbols.End ∷ []) item item_plain c.each.items c.each.cursor c.in_ok-item.field-0 c.item.new.cursor (read bundle c.args.cursor.now) fits (sym c.each-test.ensures) c.in_ok-item.ensures c.each.invariant)

pub returns : goal.returns
unfolding bundle
returns c =
    let done : read bundle c.args.cursor.now ≡ Ok (c.each.items, rest_of c.each.cursor) = is_done_up_to 16384 (symbols.End ∷ []) item item_plain (length c.each.items) c.each.items c.each.cursor (read bundle c.args.cursor.now) (sym c.each-test.ensures) c.each.invariant in
    rw done refl
