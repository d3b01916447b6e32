use Rattle.std.proofs.Common.{◌≡◌, false, sym, ◌∙◌}
use Rattle.text_forms.specs.Tokens.{at, last_symbols}
use Rattle.ir_lex.specs.Lemmas.Cursors.{texts_end}
use Rattle.client_script.proofs.TokenJudging.{goes_on_here, text_behind, rest_shorter}
use Rattle.client_script.proofs.mentions.share_all.Goals as goal

pub each-init : goal.each-init
each-init c = rw c.new-cursor.ensures (texts_end c.args.text.now, c.new-shared.ensures)

pub bump-requires : goal.bump-requires
bump-requires c =
    let off : at last_symbols c.each.cursor ≡ false = cc in
    goes_on_here c.each.cursor c.each.invariant.0 off

pub each-smaller : goal.each-smaller
each-smaller c =
    let off : at last_symbols c.each.cursor ≡ false = cc in
    rw c.bump.ensures (rest_shorter c.each.cursor (goes_on_here c.each.cursor c.each.invariant.0 off))

pub each-preserved : goal.each-preserved
each-preserved c =
    let off : at last_symbols c.each.cursor ≡ false = cc in
    rw c.bump.ensures (text_behind c.each.cursor c.each.invariant.0 off, c.share_token.ensures ∙ c.each.invariant.1)
