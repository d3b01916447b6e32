use Rattle.std.proofs.Common.{List, sym, ap, ◌∙◌, arith}
use Rattle.std.specs.Prelude.{slice_get}
use Rattle.mu_values.specs.declared.scalars.Scalar.{Scalar}
use Rattle.view_parts.specs.Lemmas.ValuesKept.{untouched-newest, history-newest}
use Rattle.log_judge.proofs.log_views.LogViews.written.Goals as goal

pub value-requires : goal.value-requires
value-requires g c =
    let n = history-newest c.args.self.now.rule c.args.self.now.tape.events c.args.cell c.in-Some.kept.now c.in-Some.ensures.views in
    let p = c.requires.there in
    omega (arith, n, p)

pub returns-in-Some : goal.returns-in-Some
returns-in-Some g c = ap (λ (xs : List Scalar). slice_get xs c.args.position) (sym c.in-Some.ensures.views.values) ∙ c.value.ensures.value

pub returns : goal.returns
returns g c =
    let z = untouched-newest c.args.self.now.tape.events c.args.cell c.in-None.ensures.views in
    let p = c.requires.there in
    let l = c.requires.later in
    absurd (omega (arith, z, p, l))
