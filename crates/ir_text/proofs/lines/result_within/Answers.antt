use Rattle.std.proofs.Common.{◌≡◌, true, false, sym, ◌∙◌}
use Rattle.std.specs.Prelude.{◌&&◌}
use Rattle.text_forms.specs.Tokens.{at}
use Rattle.text_forms.specs.Begins.{begins}
use Rattle.text_forms.specs.Lemmas.Lists.{fits_read, passes_read}
use Rattle.ir_tree.specs.Blocks.{result}
use Rattle.ir_text.proofs.Insides.{result_own, result_begins}
use Rattle.ir_text.proofs.lines.result_within.Goals as goal

pub returns-then-is_barred : goal.returns-then-is_barred
returns-then-is_barred c =
    let past : c.args.full && at (begins result) c.args.cursor.now ≡ true = rw (result_begins, ← c.at.ensures) (sym c.is_barred.ensures ∙ c.if-is_barred.true) in
    rw c.too_many_at.ensures (passes_read result c.args.full c.args.start c.args.cursor.now past)

pub returns : goal.returns
returns c =
    let fits : c.args.full && at (begins result) c.args.cursor.now ≡ false = rw (result_begins, ← c.at.ensures) (sym c.is_barred.ensures ∙ c.if-is_barred.false) in
    rw (fits_read result result_own c.args.full c.args.start c.args.cursor.now fits) c.result.ensures
