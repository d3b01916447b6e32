use Rattle.std.proofs.Common.{◌≡◌, ◌<◌, ◌∙◌, ℕ, Some, sym, ap, subst}
use Rattle.name_scopes.specs.Names.{found}
use Rattle.name_scopes.specs.Numbered.{number_in}
use Rattle.name_scopes.proofs.Numbering.{seen, number_is_below, number_says, no_number_no_value}
use Rattle.name_scopes.proofs.scope.Scope.find.Goals as goal

pub index-requires : goal.index-requires
index-requires g c =
    let at : number_in (seen c.self.inside.definitions.items) c.args.name.now ≡ Some c.in-Some.number.now = sym (c.self.invariant c.args.name.now) ∙ sym c.in-Some.ensures.value in
    subst (λ n. c.in-Some.number.now < n) (sym c.self.inside.definitions.ok.0) (number_is_below c.self.inside.definitions.items c.args.name.now c.in-Some.number.now at)

pub returns-in-Some : goal.returns-in-Some
returns-in-Some g c =
    let at : number_in (seen c.self.inside.definitions.items) c.args.name.now ≡ Some c.in-Some.number.now = sym (c.self.invariant c.args.name.now) ∙ sym c.in-Some.ensures.value in
    ap (λ x. Some x.1) c.index.ensures
    ∙ sym (number_says c.self.inside.definitions.items c.args.name.now c.in-Some.number.now c.index.result.now at)
    ∙ ap (λ m. found m c.args.name.now) c.self.view_is

pub returns-in-None : goal.returns-in-None
returns-in-None g c =
    sym (no_number_no_value (seen c.self.inside.definitions.items) c.args.name.now (sym (c.self.invariant c.args.name.now) ∙ sym c.in-None.ensures.value))
    ∙ ap (λ m. found m c.args.name.now) c.self.view_is
