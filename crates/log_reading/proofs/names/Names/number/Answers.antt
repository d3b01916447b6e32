use Rattle.std.proofs.Common.{◌≡◌, ◌∙◌, sym, ap, subst}
use Rattle.log_lines.specs.Values.{Names, place_among, names_with}
use Rattle.log_reading.specs.Inner.{names_of, AreNumbered}
use Rattle.log_reading.proofs.Numbering.{found_number, new_number}
use Rattle.log_reading.proofs.names.Names.number.Goals as goal

pub returns-in-Some-clause-number : goal.returns-in-Some-clause-number
returns-in-Some-clause-number c =
    let name = c.args.name.now in
    (found_number c.self.inside.numbers name c.in-Some.number.now c.self.invariant (sym c.in-Some.ensures)).0
    ∙ ap (λ (names : Names). place_among names name) c.self.view_is

pub returns-in-Some-clause-names : goal.returns-in-Some-clause-names
returns-in-Some-clause-names c =
    let name = c.args.name.now in
    subst (λ (names : Names). names ≡ names_with names name) c.self.view_is (found_number c.self.inside.numbers name c.in-Some.number.now c.self.invariant (sym c.in-Some.ensures)).1

pub invariant_of-self-2 : goal.invariant_of-self-2
invariant_of-self-2 c =
    let new = new_number c.self.inside.numbers c.args.name.now c.len-number.result c.self.invariant (sym c.in_default.ensures) c.requires c.len-number.ensures in
    subst (AreNumbered 0) (sym c.in_ok-define.ensures.ok) new.numbered

pub returns-clause-number : goal.returns-clause-number
returns-clause-number c =
    let name = c.args.name.now in
    let new = new_number c.self.inside.numbers name c.len-number.result c.self.invariant (sym c.in_default.ensures) c.requires c.len-number.ensures in
    new.place ∙ ap (λ (names : Names). place_among names name) c.self.view_is

pub returns-clause-names : goal.returns-clause-names
returns-clause-names c =
    let name = c.args.name.now in
    let new = new_number c.self.inside.numbers name c.len-number.result c.self.invariant (sym c.in_default.ensures) c.requires c.len-number.ensures in
    ap names_of c.in_ok-define.ensures.ok ∙ new.names ∙ ap (λ (names : Names). names_with names name) c.self.view_is
