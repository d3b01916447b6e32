use Rattle.std.proofs.Common.{ap, map, sym, ◌∙◌}
use Rattle.step_forms.specs.CaseRows.{case_bits, cases_at, row_placed}
use Rattle.step_forms.proofs.case_rows.CaseRows.make.Goals as goal

pub invariant_of-self-2 : goal.invariant_of-self-2
invariant_of-self-2 c =
    row_placed c.self.inside.code.now c.reach.new.rows.items c.args.block _ (c.reach.ensures.rows c.self.inside.code.now c.self.invariant)
    (c.in_ok-bits.ensures ∙ ap (map (case_bits c.self.inside.code.now)) (c.requires ∙ ap (λ bundle. cases_at bundle c.args.block c.args.at) (sym c.self.view_is)))
