use Rattle.std.proofs.Common.{◌≡◌, ◌∙◌, sym, ap, List, flat_map, get_or, Option, Some, None}
use Rattle.mu_values.specs.declared.scalars.Scalar.{Scalar}
use Rattle.mu_model.specs.declared.lines.Line.{Line}
use Rattle.seen_runs.specs.Writes.{held}
use Rattle.seen_runs.proofs.Kept.{last_here}
use Rattle.seen_runs.proofs.texts.last_of.Goals as goal

pub returns-in-Some : goal.returns-in-Some
returns-in-Some c =
    let lines : List Line = flat_map (λ ls. ls) c.args.steps.now in
    let is : get_or c.args.written.now c.args.global.now.cell.object None ≡ Some c.in-Some.value = c.in-Some.is in
    sym (ap (λ (kept : Option Scalar). held c.args.global.now.before kept) is)
    ∙ last_here c.args.written.now lines c.args.global.now.cell c.args.global.now.before c.requires c.if-global-ne0.false c.if-object-written.false

pub returns-in-None : goal.returns-in-None
returns-in-None c =
    let lines : List Line = flat_map (λ ls. ls) c.args.steps.now in
    let is : get_or c.args.written.now c.args.global.now.cell.object None ≡ None = c.in-None.is in
    sym (ap (λ (kept : Option Scalar). held c.args.global.now.before kept) is)
    ∙ last_here c.args.written.now lines c.args.global.now.cell c.args.global.now.before c.requires c.if-global-ne0.false c.if-object-written.false
