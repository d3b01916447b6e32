-- Which answer of the abstract machine a reply is, and which stack it hands back.
use Rattle.std.specs.Prelude.{◌≡◌, ◌≤◌, ⊤}
use Rattle.frames.specs.Chains.{frames_in}
use Rattle.client_hooks.specs.declared.reply.Edit.{Edit}
use Rattle.mu_values.specs.Slots.{TypedValues}
use Rattle.stacks.specs.Stacks.{Unbound}
use Rattle.mu_model.specs.Clients as clients
use Rattle.mu_model.specs.Clients.{Classed, Answer}
use Rattle.client_hooks.specs.declared.reply.ClassedValue.{ClassedValue}
use Rattle.client_hooks.specs.declared.reply.With.{With}
use Rattle.client_hooks.specs.declared.reply.With.TheVariants as ways
use Rattle.client_hooks.specs.declared.reply.ReplyEnd.{ReplyEnd}
use Rattle.client_hooks.specs.declared.reply.ReplyEnd.TheVariants as ends
use Rattle.client_hooks.specs.declared.reply.Reply.{Reply}
use Rattle.client_hooks.specs.declared.reply.ClientFault.{ClientFault}
use Rattle.client_hooks.specs.declared.reply.ClientFault.TheVariants as faults

abbrev pub classed : ClassedValue → Classed
classed v = (v.class, v.value)

abbrev pub way_of : With → clients.With TypedValues Classed
way_of (ways.Pass values) = clients.Pass values
way_of (ways.Throw exception) = clients.Throw (classed exception)

abbrev pub end_of : ReplyEnd → clients.Reply TypedValues Classed
end_of (ends.Resume stack with_) = clients.Resume (way_of with_)
end_of (ends.Rebind stack target with_) = clients.Rebind (classed target) (way_of with_)
end_of (ends.Exit stack) = clients.Exit
end_of (ends.Stop stack) = clients.Stop

abbrev pub edit_of : Edit → clients.Edit
edit_of e = record { pop = e.pop; push = e.push }

abbrev pub answer_in : Reply → Answer
answer_in r = record { notes = r.notes; watches = r.watches; edit = edit_of r.edit; reply = end_of r.end }

-- a stack is handed back as it was given, with at least the room for frames that it had
pub record IsBack (given back : Unbound) : Type 0 where
  pub number : back.number ≡ given.number
  pub frames : frames_in back.frames ≡ frames_in given.frames
  pub waits : back.waits ≡ given.waits
  pub room : given.frames.spare ≤ back.frames.spare

-- the stack that is handed back
abbrev pub stack_of : ReplyEnd → Unbound
stack_of (ends.Resume stack with_) = stack
stack_of (ends.Rebind stack target with_) = stack
stack_of (ends.Exit stack) = stack
stack_of (ends.Stop stack) = stack

abbrev pub stack_in : ClientFault → Unbound
stack_in (faults.Misuse stack) = stack
stack_in (faults.Memory stack) = stack

abbrev pub IsMisuse : ClientFault → Type 0
IsMisuse (faults.Misuse stack) = ⊤
IsMisuse (faults.Memory stack) = ⊥
