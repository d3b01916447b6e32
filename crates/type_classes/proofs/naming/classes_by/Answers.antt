use Rattle.std.proofs.Common.{◌<◌, ℕ, sym, subst, refl, List}
use Rattle.type_definitions.specs.Partition.{IsStable}
use Rattle.type_definitions.specs.Lemmas.Partition.{least_from}
use Rattle.type_classes.proofs.naming.classes_by.Goals as goal

pub returns-then-is_stable-clause-classes : goal.returns-then-is_stable-clause-classes
returns-then-is_stable-clause-classes c =
    let definitions = c.args.definitions.now in
    let e = sym c.requires.len in
    least_from definitions c.requires.graph c.args.block.now c.in_ok-class.class.items c.requires.keeps
    (subst (λ (p : List ℕ). IsStable definitions p) c.deref.ensures.value (c.if-is_stable.ensures refl))
    (λ x l. let h = c.in_ok-class.ensures.names x (subst (λ n. x < n) e l) in (h.0, λ b m. h.1 b (subst (λ n. b < n) e m)))
