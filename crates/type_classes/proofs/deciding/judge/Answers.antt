use Rattle.std.proofs.Common.{◌∙◌, sym}
use Rattle.demands.specs.Demands.{◌⨾◌}
use Rattle.mu_types.specs.TypeDemands.{each, wrong_arguments, endless_type, too_many_leaves, passes}
use Rattle.type_classes.proofs.Firsts.{unmet_first, second_of_three, third_of_three, meets_first}
use Rattle.type_classes.proofs.deciding.judge.Goals as goal

pub returns-in-Some : goal.returns-in-Some
returns-in-Some c =
    let g = c.args.all.now in let ps = c.args.places.now in let n = c.args.many in
    meets_first (passes g ps n) c.in-Some.fault
    (unmet_first (each (wrong_arguments g ps) n 0) (each (endless_type g ps) n 0 ⨾ each (too_many_leaves g ps) n 0) c.in-Some.fault (sym c.first_wrong_argument.ensures ∙ c.in-Some.is))

pub returns-in-Some-2 : goal.returns-in-Some-2
returns-in-Some-2 c =
    let g = c.args.all.now in let ps = c.args.places.now in let n = c.args.many in
    meets_first (passes g ps n) c.in-Some-2.fault
    (second_of_three (each (wrong_arguments g ps) n 0) (each (endless_type g ps) n 0) (each (too_many_leaves g ps) n 0) c.in-Some-2.fault (sym c.first_wrong_argument.ensures ∙ c.in_default.is) (sym c.in_ok-fault.ensures ∙ c.in-Some-2.is))

pub returns-in-Some-first_too_many : goal.returns-in-Some-first_too_many
returns-in-Some-first_too_many c =
    let g = c.args.all.now in let ps = c.args.places.now in let n = c.args.many in
    meets_first (passes g ps n) c.in-Some-first_too_many.fault
    (third_of_three (each (wrong_arguments g ps) n 0) (each (endless_type g ps) n 0) (each (too_many_leaves g ps) n 0) (sym c.first_wrong_argument.ensures ∙ c.in_default.is) (sym c.in_ok-fault.ensures ∙ c.in_default-2.is)
    ∙ (sym c.first_too_many.ensures ∙ c.in-Some-first_too_many.is))

pub returns : goal.returns
returns c =
    let g = c.args.all.now in let ps = c.args.places.now in let n = c.args.many in
    third_of_three (each (wrong_arguments g ps) n 0) (each (endless_type g ps) n 0) (each (too_many_leaves g ps) n 0) (sym c.first_wrong_argument.ensures ∙ c.in_default.is) (sym c.in_ok-fault.ensures ∙ c.in_default-2.is)
    ∙ (sym c.first_too_many.ensures ∙ c.in_default-first_too_many.is)
