use Rattle.std.proofs.Common.{[], ◌∷◌, ◌++◌, ◌∙◌, ap, sym}
use Rattle.frames.specs.Chains.{frames_in}
use Rattle.mu_model.specs.Answers.{argument_value}
use Rattle.client_hooks.specs.Replies.{classed}
use Rattle.client_script.specs.Meaning.{argument_meant}
use Rattle.client_script.specs.Lemmas.Partial.{begun, goes_on, is_done}
use Rattle.client_script.proofs.values.pass.Goals as goal

pub loop-given-init : goal.loop-given-init
loop-given-init c = begun (argument_value (frames_in c.args.frames.now)) argument_meant c.args.arguments.now _ _ c.new-types.ensures c.new-values.ensures

pub loop-given-preserved : goal.loop-given-preserved
loop-given-preserved c =
    let f = argument_value (frames_in c.args.frames.now) in
    goes_on f argument_meant c.args.arguments.now c.loop-given.given-index c.given-item.result (classed c.in_ok-told.told) _ _ _ _ c.loop-given-test.true
    (ap (λ a. f (argument_meant a)) (sym c.given-item.is) ∙ c.in_ok-told.ensures) c.in_ok-push.ensures.ok
    (c.in_ok-push_slice.ensures.ok ∙ ap (λ v. c.loop-given.values.values ++ v ∷ []) c.as_slice.ensures) c.loop-given.invariant

pub returns : goal.returns
returns c = is_done (argument_value (frames_in c.args.frames.now)) argument_meant c.args.arguments.now c.loop-given.given-index c.new.result _ _ c.loop-given-test.false c.new.ensures.types c.new.ensures.values c.loop-given.invariant
