use Rattle.std.proofs.Common.{◌≡◌, true, false, sym, ◌∙◌}
use Rattle.std.specs.Prelude.{◌&&◌}
use Rattle.text_forms.specs.Tokens.{at, first}
use Rattle.text_forms.specs.Begins.{begins}
use Rattle.text_forms.specs.Lemmas.Lists.{fits_read, passes_read}
use Rattle.ir_tree.specs.Instructions.{labelled}
use Rattle.ir_text.proofs.Insides.{labelled_own}
use Rattle.ir_text.proofs.lines.labelled_within.Goals as goal

pub returns-then-is_barred : goal.returns-then-is_barred
returns-then-is_barred c =
    let past : c.args.full && at (begins labelled) c.args.cursor.now ≡ true = rw (c.symbol.ensures, ← c.begins_instruction.ensures) (sym c.is_barred.ensures ∙ c.if-is_barred.true) in
    rw c.too_many.ensures (passes_read labelled c.args.full (first c.args.cursor.now).place c.args.cursor.now past)

pub returns : goal.returns
returns c =
    let fits : c.args.full && at (begins labelled) c.args.cursor.now ≡ false = rw (c.symbol.ensures, ← c.begins_instruction.ensures) (sym c.is_barred.ensures ∙ c.if-is_barred.false) in
    rw (fits_read labelled labelled_own c.args.full (first c.args.cursor.now).place c.args.cursor.now fits) c.labelled.ensures
