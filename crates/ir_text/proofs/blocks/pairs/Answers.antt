use Rattle.std.proofs.Common.{◌≡◌, true, false, [], ◌∷◌, length, sym, ◌∙◌}
use Rattle.std.specs.Prelude.{nat_le, ◌&&◌}
use Rattle.std.proofs.lemmas.Result.{err_from_is_err_and}
use Rattle.text_forms.specs.declared.symbol.Symbol.TheVariants as symbols
use Rattle.text_forms.specs.Tokens.{at}
use Rattle.text_forms.specs.Begins.{begins}
use Rattle.text_forms.specs.Forms.{up_to}
use Rattle.text_forms.specs.Reading.{read}
use Rattle.text_forms.specs.Lemmas.Lists.{shorter}
use Rattle.text_forms.specs.Lemmas.Loops.{goes_on_counted, is_done_up_to, fails_up_to, too_many}
use Rattle.ir_lex.specs.TokenForms.{mark, name}
use Rattle.ir_tree.specs.Lists.{global, bracketed}
use Rattle.ir_tree.specs.Blocks.{pair}
use Rattle.ir_text.proofs.Elements.{pair_plain}
use Rattle.ir_text.proofs.blocks.pairs.Goals as goal

pub returns-then-passes_limit : goal.returns-then-passes_limit
unfolding mark name global bracketed pair
returns-then-passes_limit c =
    let past : nat_le 256 (length c.each.pairs) && at (begins pair) c.each.cursor ≡ true = rw (← c.len.ensures, ← c.at_any.ensures) (sym c.passes_limit.ensures ∙ c.if-passes_limit.true) in
    rw c.too_many.ensures (too_many 256 (symbols.Close ∷ []) pair pair_plain (length c.each.pairs) c.each.pairs c.each.cursor (read (up_to 256 (symbols.Close ∷ []) pair) c.args.cursor.now) past (sym c.each-test.ensures) c.each.invariant)

pub returns-in_err-pair : goal.returns-in_err-pair
unfolding mark name global bracketed pair
returns-in_err-pair c =
    let p = err_from_is_err_and c.from_residual.result c.from_residual.ensures.1 in
    let fits : nat_le 256 (length c.each.pairs) && at (begins pair) c.each.cursor ≡ false = rw (← c.len.ensures, ← c.at_any.ensures) (sym c.passes_limit.ensures ∙ c.if-passes_limit.false) in
    rw (p.1, p.2) (fails_up_to 256 (symbols.Close ∷ []) pair pair_plain (length c.each.pairs) c.each.pairs c.each.cursor c.pair.new.cursor (read (up_to 256 (symbols.Close ∷ []) pair) c.args.cursor.now) c.in_err-pair.field-0.0 fits (sym c.each-test.ensures) c.in_err-pair.ensures c.each.invariant)

pub each-smaller : goal.each-smaller
each-smaller c = shorter pair (pair_plain).element 0 c.each.cursor c.in_ok-pair.field-0 c.pair.new.cursor c.in_ok-pair.ensures

pub each-preserved : goal.each-preserved
unfolding mark name global bracketed pair
each-preserved c =
    let fits : nat_le 256 (length c.each.pairs) && at (begins pair) c.each.cursor ≡ false = rw (← c.len.ensures, ← c.at_any.ensures) (sym c.passes_limit.ensures ∙ c.if-passes_limit.false) in
    rw c.in_ok-push.ensures.ok (goes_on_counted 256 (symbols.Close ∷ []) pair pair_plain c.each.pairs c.each.cursor c.in_ok-pair.field-0 c.pair.new.cursor (read (up_to 256 (symbols.Close ∷ []) pair) c.args.cursor.now) fits (sym c.each-test.ensures) c.in_ok-pair.ensures c.each.invariant)

pub returns : goal.returns
returns c = rw c.bump.ensures (is_done_up_to 256 (symbols.Close ∷ []) pair pair_plain (length c.each.pairs) c.each.pairs c.each.cursor (read (up_to 256 (symbols.Close ∷ []) pair) c.args.cursor.now) (sym c.each-test.ensures) c.each.invariant)
