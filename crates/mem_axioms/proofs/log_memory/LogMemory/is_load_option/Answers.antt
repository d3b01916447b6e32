use Rattle.std.proofs.Common.{◌≡◌, ◌∙◌, ap, reverse, List}
use Rattle.mu_base.specs.Lists.{Roomy}
use Rattle.mu_values.specs.declared.scalars.Scalar.{Scalar}
use Rattle.mem_axioms.specs.Form.{value_at}
use Rattle.mem_axioms.specs.Objects.{initial_of}
use Rattle.mem_axioms.specs.Scalars.{scalars_of}
use Rattle.mem_axioms.specs.PassedOver.{may_read}
use Rattle.mem_axioms.specs.declared.types.Event.{Event}
use Rattle.mem_axioms.specs.declared.types.Mode.TheVariants.{Read}
use Rattle.mem_axioms.specs.declared.types.Kind.TheVariants.{Access}
use Rattle.mem_axioms.specs.Lemmas.Offers.{option-is}
use Rattle.mem_axioms.proofs.log_memory.LogMemory.is_load_option.Goals as goal

pub returns : goal.returns
returns c =
    let memory = c.args.self.now in
    let log = reverse memory.events.items in
    let initial = initial_of (scalars_of memory.objects.items) in
    let value : c.value_at_position.result ≡ value_at initial log c.args.cell c.args.position =
    c.value_at_position.ensures
    ∙ (ap (λ (objects : List (Roomy Scalar)). value_at (initial_of (scalars_of objects)) (reverse c.deref-2.result.now) c.args.cell c.args.position) c.deref.ensures.value
    ∙ ap (λ (events : List Event). value_at initial (reverse events) c.args.cell c.args.position) c.deref-2.ensures.value) in
    c.may_come_next.ensures
    ∙ (ap (λ (events : List Event). may_read memory.rule (reverse events) (record { thread = c.args.thread; kind = Access Read c.args.cell c.args.order c.args.position c.value_at_position.result })) c.deref-3.ensures.value
    ∙ (ap (λ (scalar : Scalar). may_read memory.rule log (record { thread = c.args.thread; kind = Access Read c.args.cell c.args.order c.args.position scalar })) value
    ∙ option-is memory.rule initial log c.args.thread c.args.cell c.args.order c.args.position memory.sound.axioms c.requires.position))
