use Rattle.std.proofs.Common.{◌≡◌, true, false, [], ◌∷◌, length, sym, ◌∙◌}
use Rattle.std.specs.Prelude.{nat_le, ◌&&◌}
use Rattle.std.proofs.lemmas.Result.{err_from_is_err_and}
use Rattle.text_forms.specs.Tokens.{at}
use Rattle.text_forms.specs.Begins.{begins}
use Rattle.text_forms.specs.Forms.{up_to_from}
use Rattle.text_forms.specs.Reading.{read}
use Rattle.text_forms.specs.Answers.{with_front}
use Rattle.text_forms.specs.Lemmas.Lists.{shorter}
use Rattle.text_forms.specs.Lemmas.Loops.{goes_on_counted, is_done_up_to, fails_up_to, too_many}
use Rattle.ir_lex.specs.TokenForms.{name}
use Rattle.ir_text.proofs.Elements.{name_plain}
use Rattle.ir_text.proofs.lists.names.Goals as goal

pub returns-then-passes_limit : goal.returns-then-passes_limit
unfolding name
returns-then-passes_limit c =
    let past : nat_le 256 (length c.each.names) && at (begins (name c.args.symbols.now)) c.each.cursor ≡ true = rw (← c.len.ensures, ← c.at_any.ensures) (sym c.passes_limit.ensures ∙ c.if-passes_limit.true) in
    rw c.too_many.ensures (too_many 256 (c.args.closing ∷ []) (name c.args.symbols.now) (name_plain c.args.symbols.now) (length c.each.names) c.each.names c.each.cursor (with_front c.args.front (read (up_to_from (length c.args.front) 256 (c.args.closing ∷ []) (name c.args.symbols.now)) c.args.cursor.now)) past (sym c.each-test.ensures) c.each.invariant)

pub returns-in_err-name : goal.returns-in_err-name
unfolding name
returns-in_err-name c =
    let p = err_from_is_err_and c.from_residual.result c.from_residual.ensures.1 in
    let fits : nat_le 256 (length c.each.names) && at (begins (name c.args.symbols.now)) c.each.cursor ≡ false = rw (← c.len.ensures, ← c.at_any.ensures) (sym c.passes_limit.ensures ∙ c.if-passes_limit.false) in
    rw (p.1, p.2) (fails_up_to 256 (c.args.closing ∷ []) (name c.args.symbols.now) (name_plain c.args.symbols.now) (length c.each.names) c.each.names c.each.cursor c.name.new.self (with_front c.args.front (read (up_to_from (length c.args.front) 256 (c.args.closing ∷ []) (name c.args.symbols.now)) c.args.cursor.now)) c.in_err-name.field-0.0 fits (sym c.each-test.ensures) c.in_err-name.ensures.read c.each.invariant)

pub each-smaller : goal.each-smaller
each-smaller c = shorter (name c.args.symbols.now) ((name_plain c.args.symbols.now)).element 0 c.each.cursor c.in_ok-name.field-0 c.name.new.self c.in_ok-name.ensures.read

pub each-preserved : goal.each-preserved
unfolding name
each-preserved c =
    let fits : nat_le 256 (length c.each.names) && at (begins (name c.args.symbols.now)) c.each.cursor ≡ false = rw (← c.len.ensures, ← c.at_any.ensures) (sym c.passes_limit.ensures ∙ c.if-passes_limit.false) in
    rw c.in_ok-push.ensures.ok (goes_on_counted 256 (c.args.closing ∷ []) (name c.args.symbols.now) (name_plain c.args.symbols.now) c.each.names c.each.cursor c.in_ok-name.field-0 c.name.new.self (with_front c.args.front (read (up_to_from (length c.args.front) 256 (c.args.closing ∷ []) (name c.args.symbols.now)) c.args.cursor.now)) fits (sym c.each-test.ensures) c.in_ok-name.ensures.read c.each.invariant)

pub returns : goal.returns
returns c = rw c.bump.ensures (is_done_up_to 256 (c.args.closing ∷ []) (name c.args.symbols.now) (name_plain c.args.symbols.now) (length c.each.names) c.each.names c.each.cursor (with_front c.args.front (read (up_to_from (length c.args.front) 256 (c.args.closing ∷ []) (name c.args.symbols.now)) c.args.cursor.now)) (sym c.each-test.ensures) c.each.invariant)
