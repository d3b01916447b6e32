use Rattle.ir_print.specs.Lemmas.Texts.{fields_joined}
use Rattle.ir_print.proofs.types.fields.Goals as goal

pub returns : goal.returns
returns c = fields_joined _ _ _ c.args.fixed.now c.args.element.now c.gap-space.result.now c.in_ok-names.ensures c.in_ok-name.ensures c.gap-space.ensures
