use Rattle.std.proofs.Common.{◌≡◌, true, false, sym, ◌∙◌}
use Rattle.std.specs.Prelude.{◌&&◌}
use Rattle.text_forms.specs.Tokens.{at, first}
use Rattle.text_forms.specs.Begins.{begins}
use Rattle.text_forms.specs.Lemmas.Lists.{fits_read, passes_read}
use Rattle.ir_tree.specs.Bodies.{results}
use Rattle.ir_text.proofs.Insides.{results_own, results_begins}
use Rattle.ir_text.proofs.lines.results_within.Goals as goal

pub returns-then-is_barred : goal.returns-then-is_barred
returns-then-is_barred c =
    let past : c.args.full && at (begins results) c.args.cursor.now ≡ true = rw (results_begins, ← c.at.ensures) (sym c.is_barred.ensures ∙ c.if-is_barred.true) in
    rw c.too_many.ensures (passes_read results c.args.full (first c.args.cursor.now).place c.args.cursor.now past)

pub returns : goal.returns
returns c =
    let fits : c.args.full && at (begins results) c.args.cursor.now ≡ false = rw (results_begins, ← c.at.ensures) (sym c.is_barred.ensures ∙ c.if-is_barred.false) in
    rw (fits_read results results_own c.args.full (first c.args.cursor.now).place c.args.cursor.now fits) c.results.ensures
