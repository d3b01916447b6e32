use Rattle.std.proofs.Common.{◌∙◌, ap, take}
use Rattle.ir_lex.specs.declared.name.Name.{Name}
use Rattle.bundle_join.proofs.Comparing.{compared_by_key, compared_by_name}
use Rattle.bundle_join.proofs.kept.Kept.compared.Goals as goal

pub returns-in-Some : goal.returns-in-Some
returns-in-Some c =
    compared_by_key c.args.self.now c.args.earlier c.args.item.now c.requires.found _ (ap (take c.args.earlier) c.as_slice-kept.ensures) c.as_slice-key.result.now c.in-Some.same.now
    (c.as_slice-key.ensures.value ∙ c.in_ok-tagged_name.ensures) c.in-Some.ensures

pub returns : goal.returns
returns c =
    compared_by_name c.args.self.now c.args.earlier c.args.item.now c.requires.found _ (ap (take c.args.earlier) c.as_slice-kept.ensures) c.as_slice-key.result.now c.as_slice-name.result.now _
    (c.as_slice-key.ensures.value ∙ c.in_ok-tagged_name.ensures) (c.as_slice-name.ensures ∙ ap (λ (n : Name). n.text) c.name_of-defined.ensures) c.in-None.ensures c.first_of-named.ensures
