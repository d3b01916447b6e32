use Rattle.std.proofs.Common.{◌-◌, ◌∙◌, length, sym, ap}
use Rattle.log_lines.specs.Lines.{finished}
use Rattle.log_reading.specs.Inner.{LineRest, fields_left}
use Rattle.log_reading.proofs.NextFields.{field_left}
use Rattle.log_reading.proofs.fields.Fields.finish.Goals as goal

pub returns-in-Some : goal.returns-in-Some
returns-in-Some c =
    let end = c.self.inside.end in
    let rest = c.in-Some.rest.now in
    sym (field_left (end - length rest) rest)
    ∙ ap (λ r. finished (tt {0}) (fields_left end r)) (sym c.in-Some.is)
    ∙ ap (λ (l : LineRest). finished (tt {0}) l.fields) c.self.view_is
