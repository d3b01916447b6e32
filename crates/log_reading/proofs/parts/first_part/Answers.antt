use Rattle.std.proofs.Common.{ap, ◌∙◌, ◌∷◌, List, ℕ, take, sym, ◌+◌}
use Rattle.log_reading.proofs.Splitting.{after_is, rest_is}
use Rattle.log_lines.specs.Fields.{parts}
use Rattle.log_reading.proofs.parts.first_part.Goals as goal

pub returns-then-end-bytes-clause-parts : goal.returns-then-end-bytes-clause-parts
returns-then-end-bytes-clause-parts c =
    let bytes = c.args.bytes.now in
    let n = c.len_before-end.result in
    c.len_before-end.ensures.parts
    ∙ ap (λ (ps : List (List ℕ)). take n bytes ∷ ps) (after_is c.args.separator bytes n c.if-end-bytes.true ∙ ap (parts c.args.separator) (sym (rest_is bytes (n + 1))))
