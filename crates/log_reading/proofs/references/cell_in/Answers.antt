use Rattle.std.proofs.Common.{◌∙◌, sym}
use Rattle.log_reading.proofs.Splitting.{three_parts}
use Rattle.log_reading.proofs.references.cell_in.Goals as goal

pub returns-then-is_some : goal.returns-then-is_some
returns-then-is_some c =
    three_parts c.args.numbers.now c.first_part-object.result.part.now c.first_part-at.result.part.now c.first_part-object.result.rest c.in-Some.rest c.first_part-at.result.rest
    c.first_part-object.ensures.parts c.in-Some.is c.first_part-at.ensures.parts (sym c.is_some.ensures ∙ c.if-is_some.true)
