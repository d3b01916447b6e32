use Rattle.std.proofs.Common.{◌≡◌, true, false, sym, ◌∙◌}
use Rattle.std.specs.Prelude.{◌&&◌}
use Rattle.text_forms.specs.Tokens.{at}
use Rattle.text_forms.specs.Begins.{begins}
use Rattle.text_forms.specs.Lemmas.Lists.{fits_read, passes_read}
use Rattle.ir_tree.specs.Blocks.{head_rest}
use Rattle.ir_text.proofs.Insides.{head_rest_own, head_rest_begins}
use Rattle.ir_text.proofs.lines.head_rest_within.Goals as goal

pub returns-then-is_barred : goal.returns-then-is_barred
returns-then-is_barred c =
    let past : c.args.crowded && at (begins head_rest) c.args.cursor.now ≡ true = rw (head_rest_begins, ← c.at_any.ensures) (sym c.is_barred.ensures ∙ c.if-is_barred.true) in
    rw c.too_many_at.ensures (passes_read head_rest c.args.crowded c.args.start c.args.cursor.now past)

pub returns : goal.returns
returns c =
    let fits : c.args.crowded && at (begins head_rest) c.args.cursor.now ≡ false = rw (head_rest_begins, ← c.at_any.ensures) (sym c.is_barred.ensures ∙ c.if-is_barred.false) in
    rw (fits_read head_rest head_rest_own c.args.crowded c.args.start c.args.cursor.now fits) c.head_rest.ensures
