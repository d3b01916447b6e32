use Rattle.std.proofs.Common.{◌≡◌, true, false, [], ◌∷◌, length, sym, ◌∙◌}
use Rattle.std.specs.Prelude.{nat_le, ◌&&◌}
use Rattle.std.proofs.lemmas.Result.{err_from_is_err_and}
use Rattle.text_forms.specs.declared.symbol.Symbol.TheVariants as symbols
use Rattle.text_forms.specs.Tokens.{at}
use Rattle.text_forms.specs.Begins.{begins}
use Rattle.text_forms.specs.Forms.{up_to}
use Rattle.text_forms.specs.Reading.{read}
use Rattle.text_forms.specs.Lemmas.Lists.{shorter}
use Rattle.text_forms.specs.Lemmas.Loops.{goes_on_counted, is_done_up_to, fails_up_to, too_many}
use Rattle.ir_lex.specs.TokenForms.{name}
use Rattle.ir_tree.specs.Lists.{global}
use Rattle.ir_tree.specs.Control.{switch_case}
use Rattle.ir_text.proofs.Elements.{case_plain}
use Rattle.ir_text.proofs.flow.cases.Goals as goal

pub returns-then-passes_limit : goal.returns-then-passes_limit
unfolding name global switch_case
returns-then-passes_limit c =
    let past : nat_le 1024 (length c.each.cases) && at (begins switch_case) c.each.cursor ≡ true = rw (← c.len.ensures, ← c.at_any.ensures) (sym c.passes_limit.ensures ∙ c.if-passes_limit.true) in
    rw c.too_many.ensures (too_many 1024 (symbols.BraceClose ∷ []) switch_case case_plain (length c.each.cases) c.each.cases c.each.cursor (read (up_to 1024 (symbols.BraceClose ∷ []) switch_case) c.args.cursor.now) past (sym c.each-test.ensures) c.each.invariant)

pub returns-in_err-switch_case : goal.returns-in_err-switch_case
unfolding name global switch_case
returns-in_err-switch_case c =
    let p = err_from_is_err_and c.from_residual.result c.from_residual.ensures.1 in
    let fits : nat_le 1024 (length c.each.cases) && at (begins switch_case) c.each.cursor ≡ false = rw (← c.len.ensures, ← c.at_any.ensures) (sym c.passes_limit.ensures ∙ c.if-passes_limit.false) in
    rw (p.1, p.2) (fails_up_to 1024 (symbols.BraceClose ∷ []) switch_case case_plain (length c.each.cases) c.each.cases c.each.cursor c.switch_case.new.cursor (read (up_to 1024 (symbols.BraceClose ∷ []) switch_case) c.args.cursor.now) c.in_err-switch_case.field-0.0 fits (sym c.each-test.ensures) c.in_err-switch_case.ensures c.each.invariant)

pub each-smaller : goal.each-smaller
each-smaller c = shorter switch_case (case_plain).element 0 c.each.cursor c.in_ok-switch_case.field-0 c.switch_case.new.cursor c.in_ok-switch_case.ensures

pub each-preserved : goal.each-preserved
unfolding name global switch_case
each-preserved c =
    let fits : nat_le 1024 (length c.each.cases) && at (begins switch_case) c.each.cursor ≡ false = rw (← c.len.ensures, ← c.at_any.ensures) (sym c.passes_limit.ensures ∙ c.if-passes_limit.false) in
    rw c.in_ok-push.ensures.ok (goes_on_counted 1024 (symbols.BraceClose ∷ []) switch_case case_plain c.each.cases c.each.cursor c.in_ok-switch_case.field-0 c.switch_case.new.cursor (read (up_to 1024 (symbols.BraceClose ∷ []) switch_case) c.args.cursor.now) fits (sym c.each-test.ensures) c.in_ok-switch_case.ensures c.each.invariant)

pub returns : goal.returns
returns c = rw c.bump.ensures (is_done_up_to 1024 (symbols.BraceClose ∷ []) switch_case case_plain (length c.each.cases) c.each.cases c.each.cursor (read (up_to 1024 (symbols.BraceClose ∷ []) switch_case) c.args.cursor.now) (sym c.each-test.ensures) c.each.invariant)
