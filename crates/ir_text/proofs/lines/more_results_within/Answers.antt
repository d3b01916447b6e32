use Rattle.std.proofs.Common.{◌≡◌, true, false, sym, ◌∙◌}
use Rattle.std.specs.Prelude.{◌&&◌}
use Rattle.text_forms.specs.Tokens.{at}
use Rattle.text_forms.specs.Begins.{begins}
use Rattle.text_forms.specs.Lemmas.Lists.{fits_read, passes_read}
use Rattle.ir_tree.specs.Bodies.{more_results}
use Rattle.ir_text.proofs.Fronts.{more_results_grouped}
use Rattle.ir_text.proofs.Insides.{more_results_own, more_results_begins}
use Rattle.ir_text.proofs.lines.more_results_within.Goals as goal

pub returns-then-is_barred : goal.returns-then-is_barred
returns-then-is_barred c =
    let past : c.args.full && at (begins more_results) c.args.cursor.now ≡ true = rw (more_results_begins, ← c.at.ensures) (sym c.is_barred.ensures ∙ c.if-is_barred.true) in
    rw c.too_many_at.ensures (passes_read more_results c.args.full c.args.start c.args.cursor.now past)

pub returns : goal.returns
returns c =
    let fits : c.args.full && at (begins more_results) c.args.cursor.now ≡ false = rw (more_results_begins, ← c.at.ensures) (sym c.is_barred.ensures ∙ c.if-is_barred.false) in
    rw (fits_read more_results more_results_own c.args.full c.args.start c.args.cursor.now fits, more_results_grouped c.args.cursor.now) c.more_results.ensures
