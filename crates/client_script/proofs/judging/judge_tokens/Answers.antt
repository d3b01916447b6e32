use Rattle.std.proofs.Common.{◌≡◌, true, false, None, refl, sym, ◌∙◌}
use Rattle.std.proofs.lemmas.Result.{err_from_is_err_and}
use Rattle.text_forms.specs.declared.symbol.Symbol.TheVariants as symbols
use Rattle.text_forms.specs.Tokens.{at, first, last_symbols}
use Rattle.demands.specs.Demands.{first_unmet}
use Rattle.ir_lex.specs.Walk.{tokens_from}
use Rattle.ir_lex.specs.Lemmas.Cursors.{texts_end}
use Rattle.client_script.specs.Demands.{token_demand, token_demands}
use Rattle.client_script.specs.Judged.{is_before, judged_tokens}
use Rattle.client_script.proofs.TokenJudging.{goes_on_here, text_behind, met_more, none_behind, none_at_last, rest_shorter, symbol_is, refused_here}
use Rattle.client_script.proofs.judging.judge_tokens.Goals as goal

pub each-init : goal.each-init
each-init c = rw c.new-cursor.ensures (texts_end c.args.text.now, refl)

pub judge_token-requires : goal.judge_token-requires
judge_token-requires c =
    let off : at last_symbols c.each.cursor ≡ false = cc in
    goes_on_here c.each.cursor c.each.invariant.0 off

pub returns-in_err-judge_token : goal.returns-in_err-judge_token
returns-in_err-judge_token c =
    let off : at last_symbols c.each.cursor ≡ false = cc in
    let here : is_before (first c.each.cursor).place c.args.stop ≡ true = cc in
    let p = err_from_is_err_and c.from_residual.result c.from_residual.ensures.1 in
    rw (p.1, p.2) (refused_here c.args.names.now c.each.before c.args.stop c.each.cursor (token_demands c.args.names.now symbols.End (judged_tokens c.args.stop (tokens_from c.args.text.now 0))) c.in_err-judge_token.field-0.0
    (goes_on_here c.each.cursor c.each.invariant.0 off) here c.in_err-judge_token.ensures c.each.invariant.1)

pub bump-requires : goal.bump-requires
bump-requires c =
    let off : at last_symbols c.each.cursor ≡ false = cc in
    goes_on_here c.each.cursor c.each.invariant.0 off

pub each-preserved : goal.each-preserved
each-preserved c =
    let off : at last_symbols c.each.cursor ≡ false = cc in
    let here : is_before (first c.each.cursor).place c.args.stop ≡ true = cc in
    let on = goes_on_here c.each.cursor c.each.invariant.0 off in
    let met : first_unmet (token_demand c.args.names.now c.each.before (first c.each.cursor)) ≡ None = c.in_ok-judge_token.ensures in
    let symbol = symbol_is c.each.cursor c.symbol-before.result c.symbol-before.ensures in
    rw (c.bump.ensures, symbol) (text_behind c.each.cursor c.each.invariant.0 off, met_more c.args.names.now c.each.before c.args.stop c.each.cursor on here met ∙ c.each.invariant.1)

pub each-smaller : goal.each-smaller
each-smaller c =
    let off : at last_symbols c.each.cursor ≡ false = cc in
    rw c.bump.ensures (rest_shorter c.each.cursor (goes_on_here c.each.cursor c.each.invariant.0 off))

pub returns-after-each : goal.returns-after-each
returns-after-each c =
    let here : is_before (first c.each.cursor).place c.args.stop ≡ false = cc in
    sym c.each.invariant.1 ∙ none_behind c.args.names.now c.each.before c.args.stop c.each.cursor here

pub returns-else-not-at_any : goal.returns-else-not-at_any
returns-else-not-at_any c = sym c.each.invariant.1 ∙ none_at_last c.args.names.now c.each.before c.args.stop c.each.cursor c.each.invariant.0 (sym c.at_any.ensures ∙ c.if-not-at_any.false)
