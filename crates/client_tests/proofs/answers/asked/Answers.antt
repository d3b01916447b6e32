use Rattle.std.proofs.Common.{ℕ, ◌<◌, length, [], ◌++◌, ap, subst, sym, ◌∙◌, ◌∷◌}
use Rattle.std.specs.List.{All}
use Rattle.std.proofs.lemmas.List.Elements.{All-nil, All-cons}
use Rattle.checked_code.specs.Checking.{bundle_tables}
use Rattle.client_tests.proofs.answers.asked.Goals as goal

pub returns : goal.returns
returns c =
    let P : ℕ → Type 0 = λ k. k < length (bundle_tables c.args.code.now).types.definitions in
    let is = c.constants_have_classes.ensures c.args.code.now c.items-items.ensures.named c.items-items.ensures.met 0 c.constant_type.result c.constant_type.ensures in
    let one = c.in_ok-push.ensures.ok ∙ ap (λ ks. ks ++ c.constant_type.result ∷ []) c.new-types.ensures in
    subst (All P) (sym one) (All-cons P c.constant_type.result [] is.within (All-nil P))
