-- Which answer of the abstract machine one is without the trapped stack.
use Rattle.mu_values.specs.Slots.{TypedValues}
use Rattle.mu_model.specs.Clients as clients
use Rattle.mu_model.specs.Clients.{Classed, Answer}
use Rattle.client_hooks.specs.Replies.{classed, way_of, edit_of}
use Rattle.client_hooks.specs.declared.plan.End.{End}
use Rattle.client_hooks.specs.declared.plan.End.TheVariants as ends
use Rattle.client_hooks.specs.declared.plan.Plan.{Plan}

abbrev pub end_planned : End → clients.Reply TypedValues Classed
end_planned (ends.Resume w) = clients.Resume (way_of w)
end_planned (ends.Rebind target w) = clients.Rebind (classed target) (way_of w)
end_planned ends.Exit = clients.Exit
end_planned ends.Stop = clients.Stop

abbrev pub planned : Plan → Answer
planned x = record { notes = x.notes; watches = x.watches; edit = edit_of x.edit; reply = end_planned x.end }
