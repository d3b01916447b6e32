use Rattle.std.proofs.Common.{List, [], ◌∷◌, ◌++◌, ◌≡◌, Result, Ok, Err, OnOk, OnErr}
use Rattle.mu_values.specs.declared.scalars.Scalar.{Scalar}
use Rattle.mem_axioms.specs.declared.types.Event.{Event}
use Rattle.mem_axioms.specs.declared.types.Rule.{Rule}
use Rattle.mem_views.specs.Holding.{LogHolds}
use Rattle.mem_views.proofs.ThreadsMade.{log-wider}
use Rattle.mem_views.proofs.view_memory.ViewMemoryMemory.add_object.Goals as goal

log_if : (A E : Type 0) (result : Result A E) (rule : Rule) (before after : List (List Scalar)) (more : List Scalar) (log : List Event) → OnOk result (after ≡ before ++ more ∷ []) → OnErr result (after ≡ before) → LogHolds rule before log → LogHolds rule after log
log_if A E (Ok _) rule before after more log added same h = rw added (log-wider rule before more log h)
log_if A E (Err _) rule before after more log added same h = rw same h

pub invariant_of-self-clause-log_holds : goal.invariant_of-self-clause-log_holds
invariant_of-self-clause-log_holds c = log_if _ _ c.push.result c.args.self.now.rule c.args.self.now.objects.values c.push.new.self.values c.args.initial.members c.args.self.now.tape.events c.push.ensures.ok c.push.ensures.err c.args.self.now.log_holds
